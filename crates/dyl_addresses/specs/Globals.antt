-- How the addresses of globals are found, import by import.
-- Serves the contracts of this crate, which follow Addresses of `spec_loading`.
use Rattle.std.specs.Prelude.{ℕ, ◌+◌, List, [], ◌∷◌, ◌++◌, length, map, slice_get, Bool, true, false, Option, Some, None}
use Rattle.std.specs.Borrow.{Bor}
use Rattle.std.specs.List.{position_from, range_with_len}
use Rattle.wasm_form.specs.declared.module.Import.{Import}
use Rattle.wasm_form.specs.declared.module.Module.{Module}
use Rattle.spec_loading.specs.spec_binary.Options.{◌>>=◌}
use Rattle.spec_loading.specs.spec_binary.IndexSpaces.{globals_in}
use Rattle.spec_loading.specs.spec_linking.declared.fault.Kind.TheVariants as kind
use Rattle.spec_loading.specs.spec_linking.Imports.{ImportUse, StackPointer, MemoryBase, TableBase, DataCell, SlotCell, use_of}
use Rattle.spec_loading.specs.spec_linking.Slots.{CellName, same_cell, cell_of_import, first_cells}

-- a cell by whether it is of a slot, and its name
abbrev pub CellKey : Type 0
CellKey = Bool × Bor (List ℕ)

abbrev pub cell_named : Bool → List ℕ → CellName
cell_named true name = (kind.Func, name)
cell_named false name = (kind.Mem, name)

abbrev pub cell_of_key : CellKey → CellName
cell_of_key key = cell_named key.0 key.1.now

abbrev pub cells_in : List CellKey → List CellName
cells_in keys = map cell_of_key keys

-- the cells that are known once some more are looked at
abbrev pub with_cells : List CellName → List CellName → List CellName
with_cells known cs = known ++ first_cells known cs

-- the address of a cell, where the first has this one
abbrev pub cell_place : ℕ → List CellName → CellName → Option ℕ
cell_place first known c = position_from (same_cell c) first known

-- that of an imported global of a member with these cells, whose globals begin at a base, where the import stands for this
abbrev pub global_as : ℕ → List CellName → Import → ImportUse → Option ℕ
global_as base known i StackPointer = Some 0
global_as base known i MemoryBase = Some base
global_as base known i TableBase = Some (base + 1)
global_as base known i DataCell = cell_place (base + 2) known (kind.Mem, i.field)
global_as base known i SlotCell = cell_place (base + 2) known (kind.Func, i.field)
global_as base known i _ = None

-- those of the globals that imports give, where cells are known from imports before
abbrev pub globals_from : ℕ → List CellName → List Import → List (Option ℕ)
globals_from base known [] = []
globals_from base known (i ∷ is) =
    let now = with_cells known (cell_of_import i) in
    map (λ ty. global_as base now i (use_of i)) (globals_in i.desc) ++ globals_from base now is

abbrev pub cells_from : List CellName → List Import → List CellName
cells_from known [] = known
cells_from known (i ∷ is) = cells_from (with_cells known (cell_of_import i)) is

-- those of the globals of a member: what imports give, and then those that it defines
abbrev pub global_list : ℕ → Module → List (Option ℕ)
global_list base wasm =
    globals_from base [] wasm.imports ++ map Some (range_with_len (base + 2 + length (cells_from [] wasm.imports)) (length wasm.globals))

abbrev pub globals_end : ℕ → Module → ℕ
globals_end base wasm = base + 2 + length (cells_from [] wasm.imports) + length wasm.globals

-- the address after those of the globals of all members
abbrev pub globals_ends : ℕ → List Module → ℕ
globals_ends base [] = base
globals_ends base (x ∷ xs) = globals_ends (globals_end base x) xs

abbrev pub global_lists : ℕ → List Module → List (List (Option ℕ))
global_lists base [] = []
global_lists base (x ∷ xs) = global_list base x ∷ global_lists (globals_end base x) xs

-- the address at a place, if there is one, and that of global g of member m
abbrev pub address_at : List (Option ℕ) → ℕ → Option ℕ
address_at addresses i = slice_get addresses i >>= λ address. address

abbrev pub global_item : List (List (Option ℕ)) → ℕ → ℕ → Option ℕ
global_item lists m g = slice_get lists m >>= λ list. address_at list g
