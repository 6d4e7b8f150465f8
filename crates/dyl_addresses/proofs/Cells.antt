-- The cells of a member, import by import, and the addresses of its globals.
use Rattle.std.proofs.Common.{◌≡◌, ℕ, zero, suc, ◌+◌, Bool, true, false, ◌||◌, cond, List, [], ◌∷◌, ◌++◌, length, map, slice_get, Option, Some, refl, sym, ap, ap₂, ◌∙◌, append_assoc, append-nil, length-append}
use Rattle.std.specs.List.{flat_map, list_any, position_from}
use Rattle.std.proofs.lemmas.List.{length-map}
use Rattle.wasm_form.specs.declared.module.ImportDesc.{ImportDesc}
use Rattle.wasm_form.specs.declared.module.ImportDesc.TheVariants as imported
use Rattle.wasm_form.specs.declared.module.Import.{Import}
use Rattle.spec_loading.specs.spec_binary.Options.{◌>>=◌}
use Rattle.spec_loading.specs.spec_binary.IndexSpaces.{imports_of, globals_in}
use Rattle.spec_loading.specs.spec_linking.declared.fault.Kind.TheVariants as kind
use Rattle.spec_loading.specs.spec_linking.Imports.{ImportUse, SharedMemory, SharedTable, StackPointer, MemoryBase, TableBase, DataCell, SlotCell, EnvFunction, ModuleFunction, OtherUse, use_of, importing}
use Rattle.spec_loading.specs.spec_linking.Slots.{CellName, same_cell, cell_as, cell_of_import, first_cells}
use Rattle.dyl_addresses.specs.Globals.{CellKey, cell_named, cell_of_key, with_cells, cell_place, global_as, globals_from, cells_from}
use Rattle.dyl_addresses.proofs.Bytes.{same_bytes}

-- ---- cells

pub first_append : (known cs ds : List CellName)
    → first_cells known (cs ++ ds) ≡ first_cells known cs ++ first_cells (known ++ first_cells known cs) ds
first_append known [] ds = ap (λ l. first_cells l ds) (sym (append-nil known))
first_append known (c ∷ cs) ds =
    go (list_any (same_cell c) known) (first_append known cs ds) (first_append (known ++ c ∷ []) cs ds)
  where
    go : (b : Bool)
        → first_cells known (cs ++ ds) ≡ first_cells known cs ++ first_cells (known ++ first_cells known cs) ds
        → first_cells (known ++ c ∷ []) (cs ++ ds)
        ≡ first_cells (known ++ c ∷ []) cs ++ first_cells ((known ++ c ∷ []) ++ first_cells (known ++ c ∷ []) cs) ds
        → cond b (first_cells known (cs ++ ds)) (c ∷ first_cells (known ++ c ∷ []) (cs ++ ds))
        ≡ cond b (first_cells known cs) (c ∷ first_cells (known ++ c ∷ []) cs)
        ++ first_cells (known ++ cond b (first_cells known cs) (c ∷ first_cells (known ++ c ∷ []) cs)) ds
    go true old new = old
    go false old new =
        let more = first_cells (known ++ c ∷ []) cs in
        ap (λ l. c ∷ l) (new ∙ ap (λ l. more ++ first_cells l ds) (append_assoc known (c ∷ []) more))

pub cells_are : (known : List CellName) (is : List Import) → cells_from known is ≡ with_cells known (flat_map cell_of_import is)
cells_are known [] = sym (append-nil known)
cells_are known (i ∷ is) =
    let cs = cell_of_import i in
    let ds = flat_map cell_of_import is in
    cells_are (with_cells known cs) is
    ∙ append_assoc known (first_cells known cs) (first_cells (with_cells known cs) ds)
    ∙ ap (λ l. known ++ l) (sym (first_append known cs ds))

module _ (c : CellName) where
  any_append : (xs ys : List CellName) → list_any (same_cell c) xs ≡ true → list_any (same_cell c) (xs ++ ys) ≡ true
  any_append [] ys h = absurd cc
  any_append (x ∷ xs) ys h = go (same_cell c x) (any_append xs ys) h
    where
      go : (b : Bool) → (list_any (same_cell c) xs ≡ true → list_any (same_cell c) (xs ++ ys) ≡ true)
          → (b || list_any (same_cell c) xs) ≡ true → (b || list_any (same_cell c) (xs ++ ys)) ≡ true
      go true later h = refl
      go false later h = later h

  any_last : (xs : List CellName) → same_cell c c ≡ true → list_any (same_cell c) (xs ++ c ∷ []) ≡ true
  any_last [] h = ap (λ b. b || false) h
  any_last (x ∷ xs) h = go (same_cell c x) (any_last xs h)
    where
      go : (b : Bool) → list_any (same_cell c) (xs ++ c ∷ []) ≡ true → (b || list_any (same_cell c) (xs ++ c ∷ [])) ≡ true
      go true later = refl
      go false later = later

  pub position_kept : (n : ℕ) (xs ys : List CellName) → list_any (same_cell c) xs ≡ true
      → position_from (same_cell c) n (xs ++ ys) ≡ position_from (same_cell c) n xs
  position_kept n [] ys h = absurd cc
  position_kept n (x ∷ xs) ys h = go (same_cell c x) (position_kept (n + 1) xs ys) h
    where
      go : (b : Bool)
          → (list_any (same_cell c) xs ≡ true → position_from (same_cell c) (n + 1) (xs ++ ys) ≡ position_from (same_cell c) (n + 1) xs)
          → (b || list_any (same_cell c) xs) ≡ true
          → cond b (Some n) (position_from (same_cell c) (n + 1) (xs ++ ys)) ≡ cond b (Some n) (position_from (same_cell c) (n + 1) xs)
      go true later h = refl
      go false later h = later h

  -- a cell is among those that are known once it is looked at
  pub is_known : (known : List CellName) → same_cell c c ≡ true → list_any (same_cell c) (with_cells known (c ∷ [])) ≡ true
  is_known known same = go (list_any (same_cell c) known) refl
    where
      go : (b : Bool) → list_any (same_cell c) known ≡ b
          → list_any (same_cell c) (known ++ cond b [] (c ∷ [])) ≡ true
      go true q = any_append known [] q
      go false q = any_last known same

  pub place_kept : (first : ℕ) (known more : List CellName) → same_cell c c ≡ true
      → cell_place first (with_cells known (c ∷ []) ++ more) c ≡ cell_place first (with_cells known (c ∷ [])) c
  place_kept first known more same = position_kept first (with_cells known (c ∷ [])) more (is_known known same)

-- ---- globals

pub global_kept : (base : ℕ) (known more : List CellName) (i : Import) (u : ImportUse)
    → global_as base (with_cells known (cell_as i u)) i u ≡ global_as base (with_cells known (cell_as i u) ++ more) i u
global_kept base known more i SharedMemory = refl
global_kept base known more i SharedTable = refl
global_kept base known more i StackPointer = refl
global_kept base known more i MemoryBase = refl
global_kept base known more i TableBase = refl
global_kept base known more i DataCell = sym (place_kept (kind.Mem, i.field) (base + 2) known more (same_bytes i.field))
global_kept base known more i SlotCell = sym (place_kept (kind.Func, i.field) (base + 2) known more (same_bytes i.field))
global_kept base known more i (EnvFunction t) = refl
global_kept base known more i (ModuleFunction t) = refl
global_kept base known more i OtherUse = refl

abbrev address_in : ℕ → List CellName → Import → Option ℕ
address_in base known i = global_as base known i (use_of i)

now_is : (base : ℕ) (known : List CellName) (i : Import) (is : List Import)
    → address_in base (with_cells known (cell_of_import i)) i ≡ address_in base (cells_from known (i ∷ is)) i
now_is base known i is =
    let now = with_cells known (cell_of_import i) in
    global_kept base known (first_cells now (flat_map cell_of_import is)) i (use_of i) ∙ ap (λ k. address_in base k i) (sym (cells_are now is))

pub globals_item : (base : ℕ) (known : List CellName) (is : List Import) (g : ℕ)
    → slice_get (globals_from base known is) g
    ≡ (slice_get (importing globals_in is) g >>= λ i. Some (address_in base (cells_from known is) i))
globals_item base known [] g = refl
globals_item base known (i ∷ is) g = go (globals_item base (with_cells known (cell_of_import i)) is) i.desc g
  where
    go : ((g : ℕ) → slice_get (globals_from base (with_cells known (cell_of_import i)) is) g
        ≡ (slice_get (importing globals_in is) g >>= λ x. Some (address_in base (cells_from known (i ∷ is)) x)))
        → (d : ImportDesc) (g : ℕ)
        → slice_get (map (λ ty. address_in base (with_cells known (cell_of_import i)) i) (globals_in d) ++ globals_from base (with_cells known (cell_of_import i)) is) g
        ≡ (slice_get (map (λ x. i) (globals_in d) ++ importing globals_in is) g >>= λ x. Some (address_in base (cells_from known (i ∷ is)) x))
    go later (imported.Func t) g = later g
    go later (imported.Table ty) g = later g
    go later (imported.Space limits) g = later g
    go later (imported.Global ty) zero = ap Some (now_is base known i is)
    go later (imported.Global ty) (suc g) = later g

pub globals_length : (base : ℕ) (known : List CellName) (is : List Import)
    → length (globals_from base known is) ≡ length (imports_of globals_in is)
globals_length base known [] = refl
globals_length base known (i ∷ is) =
    let now = with_cells known (cell_of_import i) in
    length-append (map (λ ty. address_in base now i) (globals_in i.desc)) (globals_from base now is)
    ∙ ap₂ (λ a b. a + b) (length-map (globals_in i.desc) (λ ty. address_in base now i)) (globals_length base now is)
    ∙ sym (length-append (globals_in i.desc) (imports_of globals_in is))

-- a cell is the same as itself
pub same_itself : (k : CellKey) → same_cell (cell_of_key k) (cell_of_key k) ≡ true
same_itself k = go k.0
  where
    go : (b : Bool) → same_cell (cell_named b k.1.now) (cell_named b k.1.now) ≡ true
    go true = same_bytes k.1.now
    go false = same_bytes k.1.now
