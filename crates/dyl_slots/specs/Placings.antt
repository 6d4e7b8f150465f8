-- What a member's active element segments place on the shared table, by what its numbers name.
-- Serves the contracts of this crate, which follow Slots of `spec_linking`.
use Rattle.std.specs.Prelude.{ℕ, List, [], ◌∷◌, ◌++◌, length, map, nat_lt, Option, Some, if◌then◌else◌}
use Rattle.std.specs.List.{cons_option}
use Rattle.wasm_form.specs.declared.instr.Expr.{Expr}
use Rattle.wasm_form.specs.declared.module.ImportDesc.{ImportDesc}
use Rattle.wasm_form.specs.declared.module.Import.{Import}
use Rattle.wasm_form.specs.declared.module.ElemMode.{ElemMode}
use Rattle.wasm_form.specs.declared.module.ElemMode.TheVariants as elem_mode
use Rattle.wasm_form.specs.declared.module.ElemItems.{ElemItems}
use Rattle.wasm_form.specs.declared.module.Elem.{Elem}
use Rattle.wasm_form.specs.declared.module.Module.{Module}
use Rattle.wasm_form.specs.declared.runtime.Ref.{Ref}
use Rattle.wasm_form.specs.declared.runtime.Value.{Value}
use Rattle.spec_loading.specs.spec_binary.Options.{◌>>=◌}
use Rattle.spec_loading.specs.spec_binary.IndexSpaces.{imports_of, globals_in, tables_in}
use Rattle.spec_loading.specs.spec_runtime.Constants.{constant_entries, constant_number}
use Rattle.spec_loading.specs.spec_linking.Imports.{ImportUse, MemoryBase, TableBase, use_of}
use Rattle.spec_loading.specs.spec_linking.Slots.{Placing}
use Rattle.dyl_slots.specs.declared.placings.Bases.{Bases}

-- the number of an imported global that stands for this
abbrev pub base_number : Bases → ImportUse → ℕ
base_number bases MemoryBase = bases.memory
base_number bases TableBase = bases.table
base_number bases _ = 0

-- the number that an import gives, where it is a global
abbrev pub number_as : Bases → Import → ImportDesc → List ℕ
number_as bases i desc = map (λ g. base_number bases (use_of i)) (globals_in desc)

abbrev pub base_numbers : Bases → List Import → List ℕ
base_numbers bases [] = []
base_numbers bases (i ∷ is) = number_as bases i i.desc ++ base_numbers bases is

-- the references of a segment with this offset
abbrev pub placed_at : (ℕ → Option Ref) → (ℕ → Option Value) → ElemItems → Expr → Option Placing
placed_at functions globals items offset = constant_number functions globals offset >>= λ at. Some (at, constant_entries functions globals items)

-- what a segment places in one of the first tables
abbrev pub placed_as : (ℕ → Option Ref) → (ℕ → Option Value) → ℕ → ElemItems → ElemMode → List Placing
placed_as functions globals tables items (elem_mode.Active t offset) = if nat_lt t tables then cons_option (placed_at functions globals items offset) [] else []
placed_as functions globals tables items elem_mode.Passive = []
placed_as functions globals tables items elem_mode.Declarative = []

abbrev pub placed_by : (ℕ → Option Ref) → (ℕ → Option Value) → ℕ → Elem → List Placing
placed_by functions globals tables e = placed_as functions globals tables e.items e.mode

abbrev pub placed_all : (ℕ → Option Ref) → (ℕ → Option Value) → ℕ → List Elem → List Placing
placed_all functions globals tables [] = []
placed_all functions globals tables (e ∷ es) = placed_by functions globals tables e ++ placed_all functions globals tables es

-- what the active segments place in imported tables, in order
abbrev pub placings_by : (ℕ → Option Ref) → (ℕ → Option Value) → Module → List Placing
placings_by functions globals m = placed_all functions globals (length (imports_of tables_in m.imports)) m.elems
