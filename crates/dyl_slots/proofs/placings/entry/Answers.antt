use Rattle.wasm_form.specs.declared.types.ValType.TheVariants.{FuncRef}
use Rattle.dyl_slots.proofs.placings.entry.Goals as goal

pub constant-requires-clause-typed : goal.constant-requires-clause-typed
constant-requires-clause-typed c = (FuncRef, c.requires.reference)
