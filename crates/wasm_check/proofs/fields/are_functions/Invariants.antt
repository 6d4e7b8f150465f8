use Rattle.std.proofs.Common.{◌≡◌, drop}
use Rattle.std.specs.List.{list_all}
use Rattle.spec_execution.specs.spec_validation.Faults.{is_function}
use Rattle.wasm_check.proofs.fields.are_functions.Given as goal

abbrev pub invariant-loop-f : goal.invariant-loop-f
invariant-loop-f l = list_all (is_function l.m) (drop l.f-index l.functions) ≡ list_all (is_function l.m) l.functions
