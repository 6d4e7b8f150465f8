-- The results of a host function that gives one i32.
use Rattle.std.proofs.Common.{◌≡◌, true, List, [], ◌∷◌}
use Rattle.spec_runtime.specs.wasm_form.declared.types.ValType.{ValType}
use Rattle.spec_runtime.specs.wasm_form.declared.types.ValType.TheVariants.{I32}
use Rattle.spec_runtime.proofs.of_spec_binary.OneType.{same_types}
use Rattle.spec_runtime.specs.Names.{is_one_i32}

pub one_i32 : (ts : List ValType) → is_one_i32 ts ≡ true → ts ≡ I32 ∷ []
one_i32 ts e = same_types ts (I32 ∷ []) e
