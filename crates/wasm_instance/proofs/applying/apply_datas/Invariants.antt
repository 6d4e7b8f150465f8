use Rattle.std.proofs.Common.{◌≡◌, List, length, map}
use Rattle.std.specs.Prelude.{Option}
use Rattle.wasm_form.specs.declared.runtime.Ref.{Ref}
use Rattle.wasm_form.specs.declared.runtime.Value.{Value}
use Rattle.spec_safety.specs.spec_runtime.Tables.{TableInstance}
use Rattle.spec_safety.specs.spec_execution.Instances.{constant_offset}
use Rattle.spec_safety.specs.spec_execution.Segments.{data_effects}
use Rattle.wasm_instance.proofs.AppliedSegments.{AreLeft}
use Rattle.wasm_instance.proofs.applying.apply_datas.Given as goal

abbrev pub invariant-loop-d : goal.invariant-loop-d
invariant-loop-d l = record {
  left : (globals : List Value) (tables : List TableInstance) (elems : List (List (Option Ref)))
      → AreLeft l.m (data_effects (constant_offset l.m)) l.m.datas (record { globals = globals; tables = tables; elems = elems; datas = map (λ d. d.now) l.fn.datas }) l.fn.memory
      l.d (record { globals = globals; tables = tables; elems = elems; datas = map (λ d. d.now) l.datas }) l.memory;
  segments : l.segments ≡ l.m.datas;
  datas : length l.datas ≡ length l.m.datas;
}
