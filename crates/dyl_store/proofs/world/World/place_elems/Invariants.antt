use Rattle.std.proofs.Common.{◌≡◌, ℕ, Option, map}
use Rattle.wasm_form.specs.declared.instr.Expr.{Expr}
use Rattle.spec_loading.specs.spec_execution.Segments.{elem_effects}
use Rattle.spec_loading.specs.Members.{set_view}
use Rattle.dyl_store.specs.Placements.{elem_offset}
use Rattle.dyl_store.proofs.Placed.{AreLeft}
use Rattle.dyl_store.proofs.world.World.place_elems.Given as goal

abbrev pub invariant-loop-e : goal.invariant-loop-e
invariant-loop-e l = record {
  linked : l.self.linked ≡ l.fn.self.linked;
  left : (number : Expr → Option ℕ) → l.ats ≡ map (elem_offset number) l.segments
      → AreLeft (set_view l.fn.self.linked) l.m (elem_effects number) l.segments l.fn.self.store l.fn.self.memory l.e l.self.store l.self.memory;
}
