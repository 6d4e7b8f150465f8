use Rattle.wasm_form.specs.declared.types.ValType.TheVariants.{FuncRef}
use Rattle.wasm_instance.proofs.constants.reference.Goals as goal

pub value-requires-clause-typed : goal.value-requires-clause-typed
value-requires-clause-typed c = (FuncRef, c.requires.reference)
