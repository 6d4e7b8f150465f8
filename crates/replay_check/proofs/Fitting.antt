-- Numbers and types of other counts.
use Rattle.std.proofs.Common.{◌≡◌, ℕ, false, List, [], ◌∷◌, length, refl, arith}
use Rattle.std.proofs.lemmas.Bool.{and_right}
use Rattle.spec_traces.specs.spec_hosts.wasm_form.declared.types.ValType.{ValType}
use Rattle.spec_traces.specs.spec_hosts.spec_runtime.Hosts.{number_fits, numbers_fit}

pub other_count : (types : List ValType) (numbers : List ℕ) → (length types ≡ length numbers → ⊥) → numbers_fit types numbers ≡ false
other_count [] [] other = absurd (other refl)
other_count [] (n ∷ numbers) other = refl
other_count (ty ∷ types) [] other = refl
other_count (ty ∷ types) (n ∷ numbers) other = and_right (number_fits ty n) (numbers_fit types numbers) (other_count types numbers (λ same. other (omega arith)))
