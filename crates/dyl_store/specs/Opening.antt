-- What the members of a linked set begin with, by what their numbers name.
-- Serves the contracts of this crate, which follow Members of `spec_loading`.
use Rattle.std.specs.Prelude.{◌≡◌, ◌++◌, ◌+◌, ℕ, List, [], ◌∷◌, length, map, take, slice_get, nat_eq, Option, Some, unwrap_or, if◌then◌else◌}
use Rattle.std.specs.List.{range_with_len}
use Rattle.wasm_form.specs.declared.instr.Expr.{Expr}
use Rattle.wasm_form.specs.declared.module.ElemItems.{ElemItems}
use Rattle.wasm_form.specs.declared.module.GlobalDef.{GlobalDef}
use Rattle.wasm_form.specs.declared.module.Elem.{Elem}
use Rattle.wasm_form.specs.declared.module.Import.{Import}
use Rattle.wasm_form.specs.declared.module.Module.{Module}
use Rattle.wasm_form.specs.declared.runtime.Ref.{Ref}
use Rattle.wasm_form.specs.declared.runtime.Value.{Value}
use Rattle.wasm_form.specs.declared.runtime.Value.TheVariants.{Num}
use Rattle.spec_loading.specs.spec_binary.IndexSpaces.{globals_in}
use Rattle.spec_loading.specs.spec_runtime.Constants.{constant_of, constant_entry, constant_entries, constant_number}
use Rattle.spec_loading.specs.spec_runtime.Tables.{TableInstance}
use Rattle.spec_loading.specs.spec_execution.OneModule.{opened_table}
use Rattle.spec_loading.specs.spec_execution.Segments.{opened_items}
use Rattle.spec_loading.specs.spec_execution.Values.{zero_of}
use Rattle.spec_loading.specs.spec_linking.LinkedSets.{LinkedSet, wasm_of, function_ref}
use Rattle.spec_loading.specs.spec_linking.Slots.{linked_plan, memory_base, table_base, member_items, fresh_functions, CellName, cell_of_import, cells_of, cell_value}
use Rattle.spec_loading.specs.Addresses.{memory_base_address}
use Rattle.spec_loading.specs.Members.{from_members, opened_global, opened_globals, opening_table}
use Rattle.dyl_addresses.specs.Bases.{AreBases}
use Rattle.dyl_addresses.specs.Offsets.{based}
use Rattle.dyl_addresses.specs.Kept.{KeptAddresses, kept_global, kept_table, kept_elem, kept_data}
use Rattle.dyl_store.specs.declared.constants.Names.{Names}

-- ---- constant expressions

-- the functions that numbers name, and the bases that imported globals are
abbrev pub functions_of : Names → ℕ → Option Ref
functions_of names = slice_get names.functions.now

abbrev pub bases_of : Names → ℕ → Option Value
bases_of names = based names.bases.now

-- they are those of member m
pub record AreNames (L : LinkedSet) (m : ℕ) (names : Names) : Type 0 where
  pub functions : (f : ℕ) → slice_get names.functions.now f ≡ function_ref L m f
  pub bases : AreBases L m names.bases.now

abbrev pub value_with : Names → Expr → Option Value
value_with names e = constant_of (functions_of names) (bases_of names) e

abbrev pub entry_with : Names → Expr → Option Ref
entry_with names e = constant_entry (functions_of names) (bases_of names) e

abbrev pub items_with : Names → ElemItems → List (Option Ref)
items_with names items = constant_entries (functions_of names) (bases_of names) items

abbrev pub number_by : Names → Expr → Option ℕ
number_by names e = constant_number (functions_of names) (bases_of names) e

abbrev pub global_with : Names → GlobalDef → Value
global_with names g = unwrap_or (value_with names g.init) (zero_of g.ty.value)

abbrev pub elem_with : Names → Elem → List (Option Ref)
elem_with names segment = opened_items (items_with names) segment

-- ---- addresses

-- those of what member m has; what has none is never asked for
abbrev pub global_place : KeptAddresses → ℕ → ℕ → ℕ
global_place a m g = unwrap_or (kept_global a m g) 0

abbrev pub table_place : KeptAddresses → ℕ → ℕ → ℕ
table_place a m t = unwrap_or (kept_table a m t) 0

abbrev pub elem_place : KeptAddresses → ℕ → ℕ → ℕ
elem_place a m e = unwrap_or (kept_elem a m e) 0

abbrev pub data_place : KeptAddresses → ℕ → ℕ → ℕ
data_place a m d = unwrap_or (kept_data a m d) 0

-- the first of the addresses
abbrev pub first_of : (ℕ → ℕ) → ℕ → List ℕ
first_of address count = map address (range_with_len 0 count)

-- ---- what members have

-- what the members have, which come before member m
abbrev pub of_members : {X : Type 0} → (ℕ → Module → List X) → LinkedSet → ℕ → List X
of_members of L m = from_members of 0 (take m L.set.members)

-- the element segments, the data segments and the tables of a member
abbrev pub elems_of : LinkedSet → ℕ → Module → List (List (Option Ref))
elems_of L m wasm = map (opened_items (member_items L m)) wasm.elems

abbrev pub datas_of : LinkedSet → ℕ → Module → List (List ℕ)
datas_of L m wasm = map (λ d. d.bytes) wasm.datas

abbrev pub tables_of : LinkedSet → ℕ → Module → List TableInstance
tables_of L m wasm = map opened_table wasm.tables

-- something comes first, and then what the members before member m have
abbrev pub Begins : {X : Type 0} → (LinkedSet → List X) → (LinkedSet → ℕ → Module → List X) → LinkedSet → ℕ → List X → Type 0
Begins first of L m xs = xs ≡ first L ++ of_members (of L) L m

abbrev pub none_first : {X : Type 0} → LinkedSet → List X
none_first L = []

abbrev pub AreElems : LinkedSet → ℕ → List (List (Option Ref)) → Type 0
AreElems L m elems = Begins none_first elems_of L m elems

abbrev pub AreDatas : LinkedSet → ℕ → List (List ℕ) → Type 0
AreDatas L m datas = Begins none_first datas_of L m datas

abbrev pub AreTables : LinkedSet → ℕ → List TableInstance → Type 0
AreTables L m tables = Begins (λ M. opening_table M ∷ []) tables_of L m tables

abbrev pub AreGlobals : LinkedSet → ℕ → List Value → Type 0
AreGlobals L m globals = Begins (λ M. Num (linked_plan M).stack_top ∷ []) opened_globals L m globals

-- what a member has was added
abbrev pub Adds : {X : Type 0} → (LinkedSet → ℕ → Module → List X) → LinkedSet → ℕ → List X → List X → Type 0
Adds of L m old new = (wasm : Module) → wasm_of L m ≡ Some wasm → new ≡ old ++ of L m wasm

-- ---- globals of a member

-- its bases, its cells, and those that it defines
abbrev pub base_globals : LinkedSet → ℕ → Module → List Value
base_globals L m wasm = Num (unwrap_or (memory_base L m) 0) ∷ Num (unwrap_or (table_base L m) 0) ∷ []

abbrev pub cell_globals : LinkedSet → ℕ → Module → List Value
cell_globals L m wasm = map (λ c. Num (cell_value L m c)) (cells_of wasm)

abbrev pub own_globals : LinkedSet → ℕ → Module → List Value
own_globals L m wasm = map (opened_global L m) wasm.globals

-- the cells of member m come next
abbrev pub IsAtCells : LinkedSet → ℕ → List Value → Type 0
IsAtCells L m globals = length globals ≡ memory_base_address L m + 2

-- a cell has the address of what comes next, unless it is there already
abbrev pub with_cell : List Value → ℕ → Option ℕ → List Value
with_cell globals address value = if nat_eq address (length globals) then globals ++ Num (unwrap_or value 0) ∷ [] else globals

-- the same of the cell that an import is of, if it is of one
abbrev pub with_cells : List Value → ℕ → Option ℕ → List CellName → List Value
with_cells globals address value [] = globals
with_cells globals address value (c ∷ cs) = with_cell globals address value

-- and of some imports, where the first of the globals that they give has number g
abbrev pub with_imports : (ℕ → ℕ) → (ℕ → Option ℕ) → List Value → ℕ → List Import → List Value
with_imports address value globals g [] = globals
with_imports address value globals g (i ∷ is) =
    with_imports address value (with_cells globals (address g) (value g) (cell_of_import i)) (g + length (globals_in i.desc)) is

-- ---- the shared table

-- the first of the slots behind the fresh ones of the members
abbrev pub outside_at : LinkedSet → ℕ
outside_at L = (linked_plan L).table_end + length (fresh_functions L)
