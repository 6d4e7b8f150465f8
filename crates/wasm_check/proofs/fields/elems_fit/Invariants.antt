use Rattle.std.proofs.Common.{◌≡◌, drop}
use Rattle.std.specs.List.{list_all}
use Rattle.spec_execution.specs.spec_validation.Faults.{elem_fits}
use Rattle.wasm_check.proofs.fields.elems_fit.Given as goal

abbrev pub invariant-loop-elem : goal.invariant-loop-elem
invariant-loop-elem l = list_all (elem_fits l.m) (drop l.elem-index l.m.elems) ≡ list_all (elem_fits l.m) l.m.elems
