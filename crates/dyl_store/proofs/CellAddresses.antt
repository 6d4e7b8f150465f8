-- The cells of a member are found by the addresses of its imported globals.
use Rattle.std.proofs.Common.{◌≡◌, ◌<◌, ℕ, suc, ◌+◌, ◌-◌, Bool, true, false, ◌||◌, cond, List, [], ◌∷◌, ◌++◌, length, map, slice_get, nat_eq, Option, Some, None, refl, sym, ap, ◌∙◌, subst, arith, append_assoc, append-nil, length-append, zero-add, if◌then◌else◌}
use Rattle.std.specs.Prelude.{unwrap_or}
use Rattle.std.specs.List.{flat_map, list_any, position_from}
use Rattle.std.proofs.lemmas.Bool.Decides.{nat_tests}
use Rattle.std.proofs.lemmas.List.{length-map, map-append}
use Rattle.std.proofs.lemmas.Option.{slice_get_within}
use Rattle.std.proofs.lemmas.Slice.Eq.{bytes_eq-Decides}
use Rattle.wasm_form.specs.declared.types.GlobalType.{GlobalType}
use Rattle.wasm_form.specs.declared.module.ImportDesc.{ImportDesc}
use Rattle.wasm_form.specs.declared.module.ImportDesc.TheVariants as imported
use Rattle.wasm_form.specs.declared.module.Import.{Import}
use Rattle.wasm_form.specs.declared.module.Module.{Module}
use Rattle.wasm_form.specs.declared.runtime.Value.{Value}
use Rattle.wasm_form.specs.declared.runtime.Value.TheVariants.{Num}
use Rattle.spec_loading.specs.spec_binary.Options.{◌>>=◌}
use Rattle.spec_loading.specs.spec_binary.IndexSpaces.{globals_in}
use Rattle.spec_loading.proofs.of_spec_binary.Lists.{got, slice_get-append-right}
use Rattle.spec_loading.specs.spec_linking.declared.fault.Kind.TheVariants as kind
use Rattle.spec_loading.specs.spec_linking.declared.fault.LinkFault.TheVariants.{IllTyped}
use Rattle.spec_loading.specs.spec_linking.Sets.{Member}
use Rattle.spec_loading.specs.spec_linking.Imports.{ImportUse, SharedMemory, SharedTable, StackPointer, MemoryBase, TableBase, DataCell, SlotCell, EnvFunction, ModuleFunction, OtherUse, use_of, is_i32_global, importing}
use Rattle.spec_loading.specs.spec_linking.LinkedSets.{LinkedSet, wasm_of, definition}
use Rattle.spec_loading.specs.spec_linking.Slots.{CellName, same_cell, cell_as, cell_of_import, first_cells, cells_of, cell_value, initial_as, initial_number, imported_number}
use Rattle.spec_loading.specs.spec_linking.Links.{Links, unless, fault_as, import_fault, data_cell_fault, slot_cell_fault}
use Rattle.spec_loading.proofs.of_spec_linking.LinkedFacts.{or_none, holds_so, linked_member}
use Rattle.spec_loading.specs.Addresses.{memory_base_address, import_address, address_with, global_address}
use Rattle.dyl_addresses.specs.Kept.{KeptAddresses, AreAddressesOf}
use Rattle.dyl_addresses.proofs.Linked.{one_module}
use Rattle.dyl_store.specs.Opening.{global_place, Adds, cell_globals, IsAtCells, with_cell, with_cells, with_imports}

-- ---- places

module _ {A : Type 0} (test : A → Bool) where
  -- what is known stands before what comes
  known_place : (k : ℕ) (xs ys : List A) → list_any test xs ≡ true → (n : ℕ) × (position_from test k (xs ++ ys) ≡ Some n) × (n < k + length xs)
  known_place k [] ys e = absurd cc
  known_place k (x ∷ xs) ys e = go (test x) e (known_place (k + 1) xs ys)
    where
      go : (b : Bool) → (b || list_any test xs) ≡ true → (list_any test xs ≡ true → (n : ℕ) × (position_from test (k + 1) (xs ++ ys) ≡ Some n) × (n < k + 1 + length xs))
          → (n : ℕ) × (cond b (Some k) (position_from test (k + 1) (xs ++ ys)) ≡ Some n) × (n < k + suc (length xs))
      go true h more = (k, refl, omega arith)
      go false h more =
          let later = more h in
          let lt = later.2 in
          (later.0, later.1, omega arith)

  new_place : (k : ℕ) (xs : List A) (y : A) (ys : List A) → list_any test xs ≡ false → test y ≡ true → position_from test k (xs ++ y ∷ ys) ≡ Some (k + length xs)
  new_place k [] y ys e is = ap (λ (b : Bool). cond b (Some k) (position_from test (k + 1) ys)) is ∙ ap Some (omega arith)
  new_place k (x ∷ xs) y ys e is = go (test x) e (new_place (k + 1) xs y ys)
    where
      go : (b : Bool) → (b || list_any test xs) ≡ false → (list_any test xs ≡ false → test y ≡ true → position_from test (k + 1) (xs ++ y ∷ ys) ≡ Some (k + 1 + length xs))
          → cond b (Some k) (position_from test (k + 1) (xs ++ y ∷ ys)) ≡ Some (k + suc (length xs))
      go true h more = absurd cc
      go false h more = more h is ∙ ap Some (omega arith)

-- ---- one cell

module _ (v : CellName → Value) (start : ℕ) (front : List Value) (at : length front ≡ start) (c : CellName) where
  -- those that are known
  abbrev with_known : List CellName → List Value
  with_known known = front ++ map v known

  known_length : (known : List CellName) → length (with_known known) ≡ start + length known
  known_length known = (let many = length-append front (map v known) in let same = length-map known v in omega arith)

  old_number : (known more : List CellName) (number : ℕ) → list_any (same_cell c) known ≡ true → number ≡ unwrap_or (position_from (same_cell c) start (known ++ more)) 0
      → nat_eq number (length (with_known known)) ≡ false
  old_number known more number named is =
      let place = known_place (same_cell c) start known more named in
      let found : number ≡ place.0 = is ∙ ap (λ (o : Option ℕ). unwrap_or o 0) place.1 in
      let lt = place.2 in
      let many = known_length known in
      grind (arith, nat_tests)

  new_number : (known more : List CellName) (number : ℕ) → list_any (same_cell c) known ≡ false → same_cell c c ≡ true → number ≡ unwrap_or (position_from (same_cell c) start (known ++ c ∷ more)) 0
      → nat_eq number (length (with_known known)) ≡ true
  new_number known more number none itself is =
      let found : number ≡ start + length known = is ∙ ap (λ (o : Option ℕ). unwrap_or o 0) (new_place (same_cell c) start known c more none itself) in
      let many = known_length known in
      grind (arith, nat_tests)

  put_old : (known more : List CellName) (number : ℕ) (value : Option ℕ) → list_any (same_cell c) known ≡ true → number ≡ unwrap_or (position_from (same_cell c) start (known ++ more)) 0
      → with_cell (with_known known) number value ≡ with_known known
  put_old known more number value named is =
      ap (λ (b : Bool). if b then with_known known ++ Num (unwrap_or value 0) ∷ [] else with_known known) (old_number known more number named is)

  put_new : (known more : List CellName) (number : ℕ) (value : Option ℕ) → list_any (same_cell c) known ≡ false → same_cell c c ≡ true
      → number ≡ unwrap_or (position_from (same_cell c) start (known ++ c ∷ more)) 0 → Num (unwrap_or value 0) ≡ v c
      → with_cell (with_known known) number value ≡ with_known (known ++ c ∷ [])
  put_new known more number value none itself is same =
      ap (λ (b : Bool). if b then with_known known ++ Num (unwrap_or value 0) ∷ [] else with_known known) (new_number known more number none itself is)
      ∙ append_assoc front (map v known) (Num (unwrap_or value 0) ∷ [])
      ∙ ap (λ (y : Value). front ++ (map v known ++ y ∷ [])) same
      ∙ ap (λ (l : List Value). front ++ l) (sym (map-append v known (c ∷ [])))

-- ---- imports

past_front : {A : Type 0} (xs ys : List A) (j : ℕ) → slice_get (xs ++ ys) (length xs + j) ≡ slice_get ys j
past_front xs ys j =
    let rest : length xs + j - length xs ≡ j = omega arith in
    slice_get-append-right xs ys (length xs + j) (omega arith) ∙ ap (λ (n : ℕ). slice_get ys n) rest

a_global : (may : Bool) (d : ImportDesc) → is_i32_global may d ≡ true → (ty : GlobalType) × (d ≡ imported.Global ty)
a_global may (imported.Func t) e = absurd cc
a_global may (imported.Table ty) e = absurd cc
a_global may (imported.Space limits) e = absurd cc
a_global may (imported.Global ty) e = (ty, refl)

module _ (L : LinkedSet) (m : ℕ) (wasm : Module) (here : wasm_of L m ≡ Some wasm) (number : ℕ → ℕ) (value : ℕ → Option ℕ)
    (numbered : (g : ℕ) → number g ≡ unwrap_or (global_address L m g) 0) (valued : (g : ℕ) → value g ≡ imported_number L m g) where
  abbrev start : ℕ
  start = memory_base_address L m + 2

  abbrev cell : CellName → Value
  cell c = Num (cell_value L m c)

  -- the number of the global after an import
  abbrev after : ℕ → Import → ℕ
  after g i = g + length (globals_in i.desc)

  -- the imports that are left give globals from this number on
  abbrev Gives : List Import → ℕ → Type 0
  Gives is g = (j : ℕ) → slice_get (importing globals_in is) j ≡ slice_get (importing globals_in wasm.imports) (g + j)

  gives_more : (i : Import) (is : List Import) (g : ℕ) → Gives (i ∷ is) g → Gives is (after g i)
  gives_more i is g gives j =
      let front = map (λ (ty : GlobalType). i) (globals_in i.desc) in
      let many : length front ≡ length (globals_in i.desc) = length-map (globals_in i.desc) (λ ty. i) in
      let place : g + (length front + j) ≡ g + length (globals_in i.desc) + j = omega arith in
      sym (past_front front (importing globals_in is) j) ∙ gives (length front + j) ∙ ap (λ (n : ℕ). slice_get (importing globals_in wasm.imports) n) place

  gives_first : (i : Import) (is : List Import) (g : ℕ) (ty : GlobalType) → Gives (i ∷ is) g → i.desc ≡ imported.Global ty → slice_get (importing globals_in wasm.imports) g ≡ Some i
  gives_first i is g ty gives d =
      let place : g + 0 ≡ g = omega arith in
      sym (ap (λ (n : ℕ). slice_get (importing globals_in wasm.imports) n) place)
      ∙ sym (gives 0)
      ∙ ap (λ (e : ImportDesc). slice_get (map (λ (ty : GlobalType). i) (globals_in e) ++ importing globals_in is) 0) d

  address_is : (g : ℕ) (i : Import) → slice_get (importing globals_in wasm.imports) g ≡ Some i → number g ≡ unwrap_or (import_address L m wasm i (use_of i)) 0
  address_is g i found =
      numbered g
      ∙ ap (λ (o : Option Module). unwrap_or (o >>= λ w. address_with L m w g (slice_get (importing globals_in w.imports) g)) 0) here
      ∙ ap (λ (o : Option Import). unwrap_or (address_with L m wasm g o) 0) found

  value_is : (g : ℕ) (i : Import) → slice_get (importing globals_in wasm.imports) g ≡ Some i → value g ≡ initial_as L m i (use_of i)
  value_is g i found =
      valued g
      ∙ ap (λ (o : Option Module). o >>= λ w. slice_get (importing globals_in w.imports) g >>= initial_number L m) here
      ∙ ap (λ (o : Option Import). o >>= initial_number L m) found

  module _ (front : List Value) (at : length front ≡ start) where
    abbrev Wholes : List CellName → List CellName → Type 0
    Wholes known cs = known ++ first_cells known cs ≡ cells_of wasm

    -- the cells of the imports that are left
    abbrev left : List Import → List CellName
    left is = flat_map cell_of_import is

    -- what is left to do
    abbrev Rest : ℕ → List Import → List CellName → Type 0
    Rest g is known = Wholes known (left is) → with_imports number value (front ++ map cell known) g is ≡ front ++ map cell (known ++ first_cells known (left is))

    -- the same where the next import stands for this
    abbrev RestAs : ℕ → Import → List Import → List CellName → ImportUse → Type 0
    RestAs g i is known u = Wholes known (cell_as i u ++ left is)
        → with_imports number value (with_cells (front ++ map cell known) (number g) (value g) (cell_as i u)) (after g i) is ≡ front ++ map cell (known ++ first_cells known (cell_as i u ++ left is))

    one_cell : (c : CellName) (n : ℕ) (o : Option ℕ) (next : ℕ) (is : List Import) (known : List CellName) → same_cell c c ≡ true
        → n ≡ unwrap_or (position_from (same_cell c) start (cells_of wasm)) 0 → unwrap_or o 0 ≡ cell_value L m c
        → ((more : List CellName) → Rest next is more) → Wholes known (c ∷ left is)
        → with_imports number value (with_cell (front ++ map cell known) n o) next is ≡ front ++ map cell (known ++ first_cells known (c ∷ left is))
    one_cell c n o next is known itself place same rest whole = go (list_any (same_cell c) known) refl
      where
        go : (b : Bool) → list_any (same_cell c) known ≡ b
            → with_imports number value (with_cell (front ++ map cell known) n o) next is ≡ front ++ map cell (known ++ first_cells known (c ∷ left is))
        go true q =
            let met : first_cells known (c ∷ left is) ≡ first_cells known (left is) = ap (λ (b : Bool). if b then first_cells known (left is) else c ∷ first_cells (known ++ c ∷ []) (left is)) q in
            let all : known ++ first_cells known (left is) ≡ cells_of wasm = ap (λ (l : List CellName). known ++ l) (sym met) ∙ whole in
            ap (λ (l : List Value). with_imports number value l next is)
            (put_old cell start front at c known (first_cells known (left is)) n o q (place ∙ ap (λ (l : List CellName). unwrap_or (position_from (same_cell c) start l) 0) (sym all)))
            ∙ rest known all
            ∙ ap (λ (l : List CellName). front ++ map cell (known ++ l)) (sym met)
        go false q =
            let met : first_cells known (c ∷ left is) ≡ c ∷ first_cells (known ++ c ∷ []) (left is) =
            ap (λ (b : Bool). if b then first_cells known (left is) else c ∷ first_cells (known ++ c ∷ []) (left is)) q in
            let more = first_cells (known ++ c ∷ []) (left is) in
            let all : known ++ c ∷ more ≡ cells_of wasm = ap (λ (l : List CellName). known ++ l) (sym met) ∙ whole in
            let apart : (known ++ c ∷ []) ++ more ≡ known ++ c ∷ more = append_assoc known (c ∷ []) more in
            ap (λ (l : List Value). with_imports number value l next is)
            (put_new cell start front at c known more n o q itself (place ∙ ap (λ (l : List CellName). unwrap_or (position_from (same_cell c) start l) 0) (sym all)) (ap Num same))
            ∙ rest (known ++ c ∷ []) (apart ∙ all)
            ∙ ap (λ (l : List CellName). front ++ map cell l) (apart ∙ ap (λ (l : List CellName). known ++ l) (sym met))

    one_import : (i : Import) (is : List Import) (g : ℕ) (known : List CellName) → Gives (i ∷ is) g → import_fault L m wasm i ≡ None
        → ((more : List CellName) → Rest (after g i) is more) → Rest g (i ∷ is) known
    one_import i is g known gives none rest whole = go (use_of i) refl none whole
      where
        found : is_i32_global true i.desc ≡ true → slice_get (importing globals_in wasm.imports) g ≡ Some i
        found word = (let d = a_global true i.desc word in gives_first i is g d.0 gives d.1)

        go : (u : ImportUse) → use_of i ≡ u → fault_as L m wasm i u ≡ None → RestAs g i is known u
        go DataCell q free =
            let c : CellName = (kind.Mem, i.field) in
            let form = (or_none (unless (is_i32_global true i.desc) (IllTyped m kind.Mem i.field)) (data_cell_fault m i.field (definition L m kind.Mem i.field)) free).0 in
            let e = found (holds_so (is_i32_global true i.desc) (IllTyped m kind.Mem i.field) form) in
            one_cell c (number g) (value g) (after g i) is known ((bytes_eq-Decides i.field i.field).1 refl)
            (address_is g i e ∙ ap (λ (u : ImportUse). unwrap_or (import_address L m wasm i u) 0) q)
            (ap (λ (o : Option ℕ). unwrap_or o 0) (value_is g i e ∙ ap (initial_as L m i) q)) rest
        go SlotCell q free =
            let c : CellName = (kind.Func, i.field) in
            let form = (or_none (unless (is_i32_global true i.desc) (IllTyped m kind.Func i.field)) (slot_cell_fault m i.field (definition L m kind.Func i.field)) free).0 in
            let e = found (holds_so (is_i32_global true i.desc) (IllTyped m kind.Func i.field) form) in
            one_cell c (number g) (value g) (after g i) is known ((bytes_eq-Decides i.field i.field).1 refl)
            (address_is g i e ∙ ap (λ (u : ImportUse). unwrap_or (import_address L m wasm i u) 0) q)
            (ap (λ (o : Option ℕ). unwrap_or o 0) (value_is g i e ∙ ap (initial_as L m i) q)) rest
        go SharedMemory q free = rest known
        go SharedTable q free = rest known
        go StackPointer q free = rest known
        go MemoryBase q free = rest known
        go TableBase q free = rest known
        go (EnvFunction t) q free = rest known
        go (ModuleFunction t) q free = rest known
        go OtherUse q free = rest known

    all_imports : (is : List Import) (g : ℕ) (known : List CellName) → Gives is g → ((j : ℕ) (i : Import) → slice_get is j ≡ Some i → import_fault L m wasm i ≡ None) → Rest g is known
    all_imports [] g known gives none whole = ap (λ (l : List CellName). front ++ map cell l) (sym (append-nil known))
    all_imports (i ∷ is) g known gives none whole =
        one_import i is g known gives (none 0 i refl) (λ more. all_imports is (after g i) more (gives_more i is g gives) (λ j x e. none (suc j) x e)) whole

-- ---- a member

pub adds_cells : (L : LinkedSet) (a : KeptAddresses) (m : ℕ) (wasm : Module) → AreAddressesOf L a → Links L → wasm_of L m ≡ Some wasm → (imports : List Import) → imports ≡ wasm.imports
    → (old new : List Value) → IsAtCells L m old → new ≡ with_imports (global_place a m) (imported_number L m) old 0 imports → Adds cell_globals L m old new
adds_cells L a m wasm are links here imports same old new at told = λ w is.
    let of_set : imports ≡ w.imports = same ∙ ap (λ (y : Module). y.imports) (one_module wasm w (sym here ∙ is)) in
    let inside : m < length L.set.members = within w is in
    let there = got L.set.members m inside in
    let member = there.0 in
    let its : member.wasm ≡ w = one_module member.wasm w (sym (ap (λ (o : Option Member). o >>= λ y. Some y.wasm) there.1) ∙ is) in
    let linked = linked_member L m member links there.1 in
    let none : (j : ℕ) (i : Import) → slice_get w.imports j ≡ Some i → import_fault L m w i ≡ None =
    subst (λ (y : Module). (j : ℕ) (i : Import) → slice_get y.imports j ≡ Some i → import_fault L m y i ≡ None) its linked.imports in
    told
    ∙ ap (λ (is : List Import). with_imports (global_place a m) (imported_number L m) old 0 is) of_set
    ∙ ap (λ (l : List Value). with_imports (global_place a m) (imported_number L m) l 0 w.imports) (sym (append-nil old))
    ∙ all_imports L m w is (global_place a m) (imported_number L m) (λ g. ap (λ (o : Option ℕ). unwrap_or o 0) (are.globals m g)) (λ g. refl) old at w.imports 0 [] (first_gives w) none refl
  where
    within : (w : Module) → wasm_of L m ≡ Some w → m < length L.set.members
    within w is = go (slice_get L.set.members m) refl is
      where
        go : (o : Option Member) → slice_get L.set.members m ≡ o → (o >>= λ y. Some y.wasm) ≡ Some w → m < length L.set.members
        go None e q = absurd cc
        go (Some y) e q = slice_get_within L.set.members m y e

    first_gives : (w : Module) (j : ℕ) → slice_get (importing globals_in w.imports) j ≡ slice_get (importing globals_in w.imports) (0 + j)
    first_gives w j = ap (λ (i : ℕ). slice_get (importing globals_in w.imports) i) (sym (zero-add j))
