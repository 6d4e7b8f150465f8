use Rattle.std.proofs.Common.{◌≡◌, ℕ, Option, map}
use Rattle.wasm_form.specs.declared.instr.Expr.{Expr}
use Rattle.spec_loading.specs.spec_execution.Segments.{data_effects}
use Rattle.spec_loading.specs.Members.{set_view}
use Rattle.dyl_store.specs.Placements.{data_offset}
use Rattle.dyl_store.proofs.Placed.{AreLeft}
use Rattle.dyl_store.proofs.world.World.place_datas.Given as goal

abbrev pub invariant-loop-d : goal.invariant-loop-d
invariant-loop-d l = record {
  linked : l.self.linked ≡ l.fn.self.linked;
  left : (number : Expr → Option ℕ) → l.ats ≡ map (data_offset number) l.segments
      → AreLeft (set_view l.fn.self.linked) l.m (data_effects number) l.segments l.fn.self.store l.fn.self.memory l.d l.self.store l.self.memory;
}
