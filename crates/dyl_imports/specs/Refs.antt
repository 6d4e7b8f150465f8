-- What the numbers of a member's functions name.
-- Serves the contracts of this crate, which follow LinkedSets of `spec_linking`.
use Rattle.std.specs.Prelude.{ℕ, ◌+◌, List, [], ◌∷◌, unwrap_or}
use Rattle.wasm_form.specs.declared.module.Import.{Import}
use Rattle.wasm_form.specs.declared.runtime.Ref.{Ref}
use Rattle.wasm_form.specs.declared.runtime.Ref.TheVariants.{Stub}
use Rattle.spec_loading.specs.spec_linking.LinkedSets.{LinkedSet, imported_ref}

-- imported functions, which are numbered from f on; one that is nothing is taken for a stub
abbrev pub imported_refs : LinkedSet → ℕ → ℕ → List Import → List Ref
imported_refs L m f [] = []
imported_refs L m f (i ∷ is) = unwrap_or (imported_ref L m f i) (Stub m f) ∷ imported_refs L m (f + 1) is
