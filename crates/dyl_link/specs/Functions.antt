-- The functions that the numbers of members name, as lists.
-- Serves the contracts of this crate, which follow LinkedSets of `spec_linking`.
use Rattle.std.specs.Prelude.{◌≡◌, ℕ, List, length, slice_get, Option}
use Rattle.wasm_form.specs.declared.runtime.Ref.{Ref}
use Rattle.spec_loading.specs.spec_binary.Options.{◌>>=◌}
use Rattle.spec_loading.specs.spec_linking.LinkedSets.{LinkedSet, function_ref}

abbrev pub named_in : List (List Ref) → ℕ → ℕ → Option Ref
named_in functions m f = slice_get functions m >>= λ refs. slice_get refs f

-- member by member, the functions that its numbers name
pub record AreFunctions (L : LinkedSet) (functions : List (List Ref)) : Type 0 where
  pub count : length functions ≡ length L.set.members
  pub names : (m f : ℕ) → named_in functions m f ≡ function_ref L m f
