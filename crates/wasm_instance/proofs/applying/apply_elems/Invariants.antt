use Rattle.std.proofs.Common.{◌≡◌, ℕ, List, length, map}
use Rattle.wasm_form.specs.declared.runtime.Value.{Value}
use Rattle.spec_safety.specs.spec_runtime.Memories.{MemoryInstance}
use Rattle.spec_safety.specs.spec_execution.Instances.{constant_offset}
use Rattle.spec_safety.specs.spec_execution.Segments.{elem_effects}
use Rattle.wasm_instance.proofs.AppliedSegments.{AreLeft}
use Rattle.wasm_instance.proofs.applying.apply_elems.Given as goal

abbrev pub invariant-loop-e : goal.invariant-loop-e
invariant-loop-e l = record {
  left : (globals : List Value) (datas : List (List ℕ)) (memory : MemoryInstance)
      → AreLeft l.m (elem_effects (constant_offset l.m)) l.m.elems (record { globals = globals; tables = l.fn.tables; elems = map (λ v. v.items) l.fn.elems; datas = datas }) memory
      l.e (record { globals = globals; tables = l.tables; elems = map (λ v. v.items) l.elems; datas = datas }) memory;
  segments : l.segments ≡ l.m.elems;
  tables : length l.tables ≡ length l.m.tables;
  elems : length l.elems ≡ length l.m.elems;
}
