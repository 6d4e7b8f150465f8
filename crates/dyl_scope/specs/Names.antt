-- The names that a member defines, in the order of the exports that define them.
-- Serves the contracts of this crate, which follow Definitions of `spec_linking`.
use Rattle.std.specs.Prelude.{◌≡◌, ℕ, List, [], ◌∷◌, ◌++◌, Option, Some, None, slice_get}
use Rattle.wasm_form.specs.declared.module.Export.{Export}
use Rattle.wasm_form.specs.declared.module.Module.{Module}
use Rattle.spec_linking.specs.spec_binary.Options.{◌>>=◌}
use Rattle.spec_linking.specs.spec_binary.IndexSpaces.{imported_count}
use Rattle.spec_linking.specs.Definitions as defined
use Rattle.dyl_scope.specs.declared.exports.Imported.{Imported}
pub use Rattle.dyl_names.specs.Names.{Defined, symbol_value, maybe_symbol, definition_value, with_symbol, with_all}

-- what an export defines, or nothing
abbrev pub defined_as : List ℕ → Option defined.Symbol → Defined
defined_as name None = []
defined_as name (Some s) = (name, s) ∷ []

abbrev pub defined_in : Module → List Export → Defined
defined_in m [] = []
defined_in m (e ∷ es) = defined_as e.name (defined.export_symbol m e) ++ defined_in m es

-- ---- the place of data

-- what a global of the module's own is the place of, by its place among these, and by its number
abbrev pub data_at : Module → ℕ → Option defined.Symbol
data_at m place = slice_get m.globals place >>= defined.data_symbol

abbrev pub own_data : Module → ℕ → Option defined.Symbol
own_data m g = defined.own_global m g >>= defined.data_symbol

-- how many functions and globals a module imports
abbrev pub Counts : Module → Imported → Type 0
Counts m n = (n.functions ≡ imported_count m) × (n.globals ≡ defined.imported_globals m)
