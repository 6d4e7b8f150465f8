-- The globals of the merged module of a set, as they are put together.
-- Serves the contracts of this crate, which follow MergedModule of `merge_module`.
use Rattle.std.specs.Prelude.{ℕ, ◌+◌, ◌<◌, ◌^◌, All, true, false, List, [], ◌∷◌, ◌++◌, length, map, Option, unwrap_or}
use Rattle.wasm_form.specs.declared.types.ValType.{ValType}
use Rattle.wasm_form.specs.declared.types.ValType.TheVariants.{I64}
use Rattle.wasm_form.specs.declared.instr.Expr.{Expr}
use Rattle.wasm_form.specs.declared.module.Import.{Import}
use Rattle.wasm_form.specs.declared.module.GlobalDef.{GlobalDef}
use Rattle.wasm_form.specs.declared.module.Module.{Module}
use Rattle.wasm_form.specs.declared.runtime.Value.{Value}
use Rattle.wasm_form.specs.declared.runtime.Value.TheVariants.{Num, Func}
use Rattle.spec_reading.specs.spec_binary.IndexSpaces.{globals_in}
use Rattle.spec_loading.specs.spec_runtime.Constants.{constant_of}
use Rattle.spec_loading.specs.spec_execution.Values.{zero_of}
use Rattle.spec_loading.specs.spec_linking.LinkedSets.{LinkedSet, function_ref}
use Rattle.spec_loading.specs.spec_linking.Slots.{CellName, cell_of_import, first_cells, linked_plan, memory_base, table_base, imported_number}
use Rattle.spec_loading.specs.Members.{from_members}
use Rattle.dyl_link.specs.dyl_search.declared.set.Member as declared
use Rattle.merge_match.specs.Renumbering.{Numbers}
use Rattle.dyl_addresses.specs.Bases.{bases_from}
use Rattle.dyl_addresses.specs.Offsets.{based}
use Rattle.dyl_addresses.specs.Globals.{with_cells}
use Rattle.merge_module.specs.MergedModule.{number_global, constant_instr}
use Rattle.merge_whole.specs.Counts.{members_of}

-- ---- constants of a member

abbrev pub constant_by : LinkedSet → List (Option ℕ) → ℕ → Expr → Option Value
constant_by L bases m e = constant_of (function_ref L m) (based bases) e

-- ---- globals of a member

-- a value that the constant instruction of a type has room for: that of an i64 for 64 bits, each other for 32
abbrev pub FitsIn : ValType → Value → Type 0
FitsIn I64 (Num k) = k < 2 ^ 64
FitsIn _ (Num k) = k < 2 ^ 32
FitsIn _ (Func r) = Unit {0}

-- the bases that imported globals of member m are
abbrev pub bases_by : LinkedSet → ℕ → Module → List (Option ℕ)
bases_by L m wasm = bases_from (unwrap_or (memory_base L m) 0) (unwrap_or (table_base L m) 0) wasm.imports

-- a global of member m begins with its value, where imported globals are these bases
abbrev pub value_by : LinkedSet → List (Option ℕ) → ℕ → GlobalDef → Value
value_by L bases m g = unwrap_or (constant_by L bases m g.init) (zero_of g.ty.value)

-- such values fit the types of these globals
abbrev pub AreFit : LinkedSet → List (Option ℕ) → ℕ → List GlobalDef → Type 0
AreFit L bases m gs = All (λ (g : GlobalDef). FitsIn g.ty.value (value_by L bases m g)) gs

abbrev pub own_by : LinkedSet → Numbers → List (Option ℕ) → ℕ → GlobalDef → GlobalDef
own_by L n bases m g = record g { init = record { list = constant_instr n g.ty.value (value_by L bases m g) ∷ [] } }

-- the cells of member m that imports give, where cells are known from imports before, which give so many globals
abbrev pub cells_by : LinkedSet → ℕ → List CellName → ℕ → List Import → List GlobalDef
cells_by L m known g [] = []
cells_by L m known g (i ∷ is) =
    map (λ c. number_global true (unwrap_or (imported_number L m g) 0)) (first_cells known (cell_of_import i))
    ++ cells_by L m (with_cells known (cell_of_import i)) (g + length (globals_in i.desc)) is

-- those of member m
abbrev pub globals_by : LinkedSet → Numbers → ℕ → Module → List GlobalDef
globals_by L n m wasm =
    let memory = unwrap_or (memory_base L m) 0 in
    let table = unwrap_or (table_base L m) 0 in
    number_global false memory ∷ number_global false table
    ∷ (cells_by L m [] 0 wasm.imports ++ map (own_by L n (bases_from memory table wasm.imports) m) wasm.globals)

-- one that begins with 0 for each of them
abbrev pub zeros_for : List declared.Member → List GlobalDef
zeros_for ms = map (λ m. number_global true 0) (members_of ms)

abbrev pub all_globals : LinkedSet → Numbers → List GlobalDef
all_globals L n = number_global true (linked_plan L).stack_top ∷ from_members (globals_by L n) 0 L.set.members
