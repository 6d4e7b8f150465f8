use Rattle.std.proofs.Common.{◌≡◌, drop}
use Rattle.std.specs.List.{list_all}
use Rattle.wasm_form.specs.declared.types.ValType.TheVariants.{FuncRef}
use Rattle.spec_execution.specs.spec_validation.Faults.{is_constant}
use Rattle.wasm_check.proofs.fields.are_references.Given as goal

abbrev pub invariant-loop-e : goal.invariant-loop-e
invariant-loop-e l = list_all (is_constant l.m FuncRef) (drop l.e-index l.items) ≡ list_all (is_constant l.m FuncRef) l.items
