-- The bases of a member, among its imported globals.
-- Serves the contracts of this crate, which follow Slots of `spec_linking`.
use Rattle.std.specs.Prelude.{◌≡◌, ℕ, List, [], ◌∷◌, ◌++◌, map, slice_get, Option, Some, None}
use Rattle.wasm_form.specs.declared.module.Import.{Import}
use Rattle.spec_loading.specs.spec_binary.Options.{◌>>=◌}
use Rattle.spec_loading.specs.spec_binary.IndexSpaces.{globals_in}
use Rattle.spec_loading.specs.spec_linking.Imports.{ImportUse, MemoryBase, TableBase, use_of}
use Rattle.spec_loading.specs.spec_linking.LinkedSets.{LinkedSet}
use Rattle.spec_loading.specs.spec_linking.Slots.{as_number, imported_base}

-- the bases that imported globals are, by their numbers
abbrev pub AreBases : LinkedSet → ℕ → List (Option ℕ) → Type 0
AreBases L m bases = (g : ℕ) → (slice_get bases g >>= as_number) ≡ imported_base L m g

-- the bases that an import is, by those of its member, where it stands for this
abbrev pub base_of : ℕ → ℕ → ImportUse → Option ℕ
base_of memory table MemoryBase = Some memory
base_of memory table TableBase = Some table
base_of memory table _ = None

-- those of the imported globals, by their numbers
abbrev pub bases_from : ℕ → ℕ → List Import → List (Option ℕ)
bases_from memory table [] = []
bases_from memory table (i ∷ is) = map (λ ty. base_of memory table (use_of i)) (globals_in i.desc) ++ bases_from memory table is
