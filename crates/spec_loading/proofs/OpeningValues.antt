-- What the opening store of a linked set has at each address.
use Rattle.std.proofs.Common.{◌≡◌, ℕ, zero, suc, ◌+◌, ◌-◌, ◌<◌, ◌≤◌, Bool, true, false, List, [], ◌∷◌, ◌++◌, length, map, take, replicate, nat_lt, slice_get, Option, Some, None, if◌then◌else◌, refl, sym, ap, ap₂, ◌∙◌, arith, subst}
use Rattle.std.specs.Prelude.{unwrap_or}
use Rattle.std.proofs.lemmas.Bool.Decides.{nat_tests}
use Rattle.std.proofs.lemmas.List.{length-append, length-map, length-replicate, take-replicate, drop-replicate}
use Rattle.std.proofs.lemmas.Option.{slice_get_past, slice_get_within}
use Rattle.spec_linking.specs.wasm_form.declared.module.Import.{Import}
use Rattle.spec_linking.specs.wasm_form.declared.module.GlobalDef.{GlobalDef}
use Rattle.spec_linking.specs.wasm_form.declared.module.Data.{Data}
use Rattle.spec_linking.specs.wasm_form.declared.module.Module.{Module}
use Rattle.spec_linking.specs.wasm_form.declared.runtime.Ref.{Ref}
use Rattle.spec_linking.specs.wasm_form.declared.runtime.Value.{Value}
use Rattle.spec_linking.specs.wasm_form.declared.runtime.Value.TheVariants.{Num}
use Rattle.spec_linking.specs.spec_binary.Options.{◌>>=◌}
use Rattle.spec_linking.specs.spec_binary.IndexSpaces.{globals_in}
use Rattle.spec_linking.proofs.of_spec_binary.Lists.{slice_get-append-left, slice_get-append-right}
use Rattle.spec_linking.specs.spec_runtime.Tables.{nulls, entries_overwritten}
use Rattle.spec_linking.specs.spec_execution.Values.{zero_of}
use Rattle.spec_linking.specs.spec_execution.Segments.{opened_items}
use Rattle.spec_linking.specs.spec_execution.OneModule.{opened_table}
use Rattle.spec_linking.specs.Sets.{Member}
use Rattle.spec_linking.specs.Gathering.{IsSet}
use Rattle.spec_linking.specs.Imports.{ImportUse, SharedMemory, SharedTable, StackPointer, MemoryBase, TableBase, DataCell, SlotCell, EnvFunction, ModuleFunction, OtherUse, use_of, importing}
use Rattle.spec_linking.specs.LinkedSets.{LinkedSet, wasm_of, definition}
use Rattle.spec_linking.specs.Slots.{memory_base, table_base, as_number, member_constant, member_items, CellName, same_cell, cells_of, cell_number, cell_value, fresh_functions, outside_slots, table_entries, initial_as, initial_number, imported_number}
use Rattle.spec_safety.proofs.Lookups.{went_on, got, holds_at, mapped_at}
use Rattle.spec_linking.specs.Links.{Links}
use Rattle.spec_linking.proofs.DefinedSlots.{memory_base_there, table_base_there}
use Rattle.spec_loading.specs.Addresses.{sum_before, item_address, globals_size, memory_base_address}
use Rattle.spec_loading.specs.Members.{from_members, opened_global, opened_globals, opening_table, opening_store}
use Rattle.spec_loading.specs.RunItems.{RunGlobal, SharedStackPointer, MemberMemoryBase, MemberTableBase, MemberCell, MemberGlobal, imported_as, run_global_with, run_global, address_of_global, first_value}
use Rattle.spec_loading.specs.Laws.{GlobalsBegin, GlobalsHaveValues, ImportsBegin, first_outside_slot, SharedTableBegins, OwnTablesBegin, ElemsBegin, DatasBegin}
use Rattle.spec_loading.proofs.MemberItems.{item_at}
use Rattle.spec_loading.proofs.DistinctAddresses.{item_is, FoundAt, found_at, cells_equal, of_member, globals_are_numbered}
use Rattle.spec_loading.proofs.OpeningSizes.{opened_length}
use Rattle.spec_loading.proofs.LinkedStore.{globals_many}
use Rattle.spec_loading.proofs.CellNumbers.{HasNumber, cells_numbered}
use Rattle.spec_loading.proofs.ConstantValues.{Given, own_given}

-- ---- globals

based : (o : Option ℕ) (v : Value) → as_number o ≡ Some v → Num (unwrap_or o 0) ≡ v
based None v e = absurd cc
based (Some n) v e = cc

given : (o : Option Value) (v other : Value) → o ≡ Some v → unwrap_or o other ≡ v
given o v other e = ap (λ (p : Option Value). unwrap_or p other) e

module _ (L : LinkedSet) where
  abbrev globals : List Value
  globals = (opening_store L).globals

  -- what a member has at a place stands in the store
  global_stands : (m a place : ℕ) (x : Member) (v : Value) → slice_get L.set.members m ≡ Some x → place < globals_size x.wasm
      → a ≡ memory_base_address L m + place → slice_get (opened_globals L m x.wasm) place ≡ Some v → slice_get globals a ≡ Some v
  global_stands m a place x v found within is e =
      let next : a ≡ suc (sum_before globals_size L.set.members m + place) = omega arith in
      ap (slice_get globals) next ∙ item_at (opened_globals L) globals_size (globals_many L) L.set.members m place x found within ∙ e

  cell_stands : (m a : ℕ) (c : CellName) (v : Value) (x : Member) → slice_get L.set.members m ≡ Some x → Num (cell_value L m c) ≡ v
      → FoundAt (same_cell c) (cells_of x.wasm) (memory_base_address L m + 2) a → slice_get globals a ≡ Some v
  cell_stands m a c v x found is at =
      let cells = cells_of x.wasm in
      let lt = slice_get_within cells at.place at.item at.at in
      let address = at.is in
      let value : CellName → Value = λ (d : CellName). Num (cell_value L m d) in
      let many = length-map cells value in
      let there = mapped_at value cells at.place at.item at.at in
      let same : value at.item ≡ v = ap value (sym (cells_equal c at.item at.passes)) ∙ is in
      global_stands m a (suc (suc at.place)) x v found (omega arith) (omega arith)
      (slice_get-append-left (map value cells) (map (opened_global L m) x.wasm.globals) at.place (omega arith) ∙ there ∙ ap Some same)

  own_stands : (m a k : ℕ) (v : Value) (x : Member) → slice_get L.set.members m ≡ Some x
      → (slice_get x.wasm.globals k >>= λ g. member_constant L m g.init) ≡ Some v
      → (k < length x.wasm.globals) × (a ≡ memory_base_address L m + 2 + length (cells_of x.wasm) + k) → slice_get globals a ≡ Some v
  own_stands m a k v x found e at =
      let cells = cells_of x.wasm in
      let lt = at.0 in
      let address = at.1 in
      let value : CellName → Value = λ (d : CellName). Num (cell_value L m d) in
      let many = length-map cells value in
      let g = went_on (slice_get x.wasm.globals k) (λ (y : GlobalDef). member_constant L m y.init) v e in
      let there = mapped_at (opened_global L m) x.wasm.globals k g.0 g.1 in
      let place : length cells + k - length (map value cells) ≡ k = omega arith in
      global_stands m a (suc (suc (length cells + k))) x v found (omega arith) (omega arith)
      (slice_get-append-right (map value cells) (map (opened_global L m) x.wasm.globals) (length cells + k) (omega arith)
      ∙ ap (slice_get (map (opened_global L m) x.wasm.globals)) place
      ∙ there
      ∙ ap Some (given (member_constant L m g.0.init) v (zero_of g.0.ty.value) g.2))

  pub constant_of : (m k : ℕ) (v : Value) (x : Member) → slice_get L.set.members m ≡ Some x → first_value L (MemberGlobal m k) ≡ Some v
      → (slice_get x.wasm.globals k >>= λ g. member_constant L m g.init) ≡ Some v
  constant_of m k v x found e =
      sym (ap (λ (o : Option Member). (o >>= λ y. Some y.wasm) >>= λ wasm. slice_get wasm.globals k >>= λ g. member_constant L m g.init) found) ∙ e

  begins : (x : RunGlobal) (a : ℕ) (v : Value) → address_of_global L x ≡ Some a → first_value L x ≡ Some v → slice_get globals a ≡ Some v
  begins SharedStackPointer a v at e =
      let first : 0 ≡ a = cc in
      ap (slice_get globals) (sym first) ∙ e
  begins (MemberMemoryBase m) a v at e = of_member L m a (slice_get globals a ≡ Some v) _ at (λ x found h.
      let same : memory_base_address L m ≡ a = cc in
      global_stands m a 0 x v found (omega arith) (omega arith) (ap Some (based (memory_base L m) v e)))
  begins (MemberTableBase m) a v at e = of_member L m a (slice_get globals a ≡ Some v) _ at (λ x found h.
      let same : memory_base_address L m + 1 ≡ a = cc in
      global_stands m a 1 x v found (omega arith) (omega arith) (ap Some (based (table_base L m) v e)))
  begins (MemberCell m c) a v at e = of_member L m a (slice_get globals a ≡ Some v) _ at (λ x found h.
      cell_stands m a c v x found (based (cell_number L c.1 (definition L m c.0 c.1)) v e)
      (found_at (same_cell c) (memory_base_address L m + 2) (cells_of x.wasm) a h))
  begins (MemberGlobal m k) a v at e = of_member L m a (slice_get globals a ≡ Some v) _ at (λ x found h.
      own_stands m a k v x found (constant_of m k v x found e)
      (item_is (memory_base_address L m + 2 + length (cells_of x.wasm)) (length x.wasm.globals) k a h))

  -- ---- imported globals

  import_begins : (m n : ℕ) (i : Import) (u : ImportUse) → initial_as L m i u ≡ Some n → (imported_as m i u >>= first_value L) ≡ Some (Num n)
  import_begins m n i StackPointer e = ap as_number e
  import_begins m n i MemoryBase e = ap as_number e
  import_begins m n i TableBase e = ap as_number e
  import_begins m n i DataCell e = ap as_number e
  import_begins m n i SlotCell e = ap as_number e
  import_begins m n i SharedMemory e = absurd cc
  import_begins m n i SharedTable e = absurd cc
  import_begins m n i (EnvFunction t) e = absurd cc
  import_begins m n i (ModuleFunction t) e = absurd cc
  import_begins m n i OtherUse e = absurd cc

  numbered_begins : (m g n : ℕ) → imported_number L m g ≡ Some n → (run_global L m g >>= first_value L) ≡ Some (Num n)
  numbered_begins m g n e = go (wasm_of L m) e
    where
      at : (o : Option Import) (wasm : Module) → (o >>= initial_number L m) ≡ Some n → (run_global_with m wasm g o >>= first_value L) ≡ Some (Num n)
      at None wasm h = absurd cc
      at (Some i) wasm h = import_begins m n i (use_of i) h

      go : (o : Option Module) → (o >>= λ wasm. slice_get (importing globals_in wasm.imports) g >>= initial_number L m) ≡ Some n
          → ((o >>= λ wasm. run_global_with m wasm g (slice_get (importing globals_in wasm.imports) g)) >>= first_value L) ≡ Some (Num n)
      go None h = absurd cc
      go (Some wasm) h = at (slice_get (importing globals_in wasm.imports) g) wasm h

pub globals_begin : GlobalsBegin
globals_begin L x a v at e = begins L x a v at e

module _ (L : LinkedSet) (set : IsSet L.set) (links : Links L) where
  base_there : (m : ℕ) (x : Member) → slice_get L.set.members m ≡ Some x → (o : Option ℕ) → (m < length L.set.members → (n : ℕ) × (o ≡ Some n)) → Given (as_number o)
  base_there m x found o there = (let n = there (slice_get_within L.set.members m x found) in (Num n.0, ap as_number n.1))

  cell_there : (m a : ℕ) (c : CellName) (x : Member) → slice_get L.set.members m ≡ Some x → FoundAt (same_cell c) (cells_of x.wasm) (memory_base_address L m + 2) a
      → Given (first_value L (MemberCell m c))
  cell_there m a c x found at =
      let n = holds_at (HasNumber L m) (cells_of x.wasm) at.place at.item (cells_numbered L links m x found) at.at in
      subst (λ (d : CellName). Given (first_value L (MemberCell m d))) (sym (cells_equal c at.item at.passes)) (Num n.0, ap as_number n.1)

  own_there : (m k : ℕ) (x : Member) → slice_get L.set.members m ≡ Some x → k < length x.wasm.globals → Given (first_value L (MemberGlobal m k))
  own_there m k x found lt =
      let g = got x.wasm.globals k lt in
      let v = own_given L m x found set links k g.0 g.1 in (
        v.0,
        ap (λ (o : Option Member). (o >>= λ y. Some y.wasm) >>= λ wasm. slice_get wasm.globals k >>= λ y. member_constant L m y.init) found
            ∙ ap (λ (o : Option GlobalDef). o >>= λ y. member_constant L m y.init) g.1 ∙ v.1,
      )

  value_there : (x : RunGlobal) (a : ℕ) → address_of_global L x ≡ Some a → Given (first_value L x)
  value_there SharedStackPointer a at = (_, refl)
  value_there (MemberMemoryBase m) a at =
      of_member L m a (Given (first_value L (MemberMemoryBase m))) _ at (λ x found h. base_there m x found (memory_base L m) (memory_base_there L m))
  value_there (MemberTableBase m) a at =
      of_member L m a (Given (first_value L (MemberTableBase m))) _ at (λ x found h. base_there m x found (table_base L m) (table_base_there L m))
  value_there (MemberCell m c) a at = of_member L m a (Given (first_value L (MemberCell m c))) _ at (λ x found h.
      cell_there m a c x found (found_at (same_cell c) (memory_base_address L m + 2) (cells_of x.wasm) a h))
  value_there (MemberGlobal m k) a at = of_member L m a (Given (first_value L (MemberGlobal m k))) _ at (λ x found h.
      own_there m k x found (item_is (memory_base_address L m + 2 + length (cells_of x.wasm)) (length x.wasm.globals) k a h).0)

pub globals_have_values : GlobalsHaveValues
globals_have_values L set links x a at = value_there L set links x a at

pub imports_begin : ImportsBegin
imports_begin L m g a n at e =
    let x = went_on (run_global L m g) (address_of_global L) a (sym (globals_are_numbered L m g) ∙ at) in
    let first : first_value L x.0 ≡ Some (Num n) = sym (ap (λ (o : Option RunGlobal). o >>= first_value L) x.1) ∙ numbered_begins L m g n e in
    begins L x.0 a (Num n) x.2 first

-- ---- tables and segments

module _ {X : Type 0} (of : ℕ → Module → List X) (size : Module → ℕ) (fits : (m : ℕ) (wasm : Module) → length (of m wasm) ≡ size wasm) where
  -- what the address of an item leads to
  item_read : (xs : List Member) (m i : ℕ) (x : Member) → slice_get xs m ≡ Some x
      → (item_address (sum_before size xs m) (size x.wasm) i >>= slice_get (from_members of 0 xs)) ≡ slice_get (of m x.wasm) i
  item_read xs m i x found = go (nat_lt i (size x.wasm)) refl
    where
      go : (b : Bool) → nat_lt i (size x.wasm) ≡ b
          → ((if b then Some (sum_before size xs m + i) else None) >>= slice_get (from_members of 0 xs)) ≡ slice_get (of m x.wasm) i
      go true q = (let lt : i < size x.wasm = grind (arith, nat_tests) in item_at of size fits xs m i x found lt)
      go false q =
          let past : size x.wasm ≤ i = grind (arith, nat_tests) in
          let here = fits m x.wasm in
          sym (slice_get_past (of m x.wasm) i (omega arith))

-- what a list is mapped to, at a place
pub mapped : {A B : Type 0} (f : A → B) (xs : List A) (i : ℕ) → slice_get (map f xs) i ≡ (slice_get xs i >>= λ x. Some (f x))
mapped f [] i = refl
mapped f (x ∷ xs) zero = refl
mapped f (x ∷ xs) (suc i) = mapped f xs i

-- what is so of each member is so of each number
each_member : {X : Type 0} (L : LinkedSet) (m : ℕ) (f g : Module → Option X)
    → ((x : Member) → slice_get L.set.members m ≡ Some x → f x.wasm ≡ g x.wasm) → (wasm_of L m >>= f) ≡ (wasm_of L m >>= g)
each_member {X} L m f g same = go (slice_get L.set.members m) refl
  where
    go : (o : Option Member) → slice_get L.set.members m ≡ o → ((o >>= λ x. Some x.wasm) >>= f) ≡ ((o >>= λ x. Some x.wasm) >>= g)
    go None e = refl
    go (Some x) e = same x e

grouped : {A B C : Type 0} (o : Option A) (f : A → Option B) (g : B → Option C) → ((o >>= f) >>= g) ≡ (o >>= λ x. f x >>= g)
grouped None f g = refl
grouped (Some x) f g = refl

pub elems_begin : ElemsBegin
elems_begin L m e =
    grouped (wasm_of L m) (λ wasm. item_address (sum_before (λ x. length x.elems) L.set.members m) (length wasm.elems) e) (slice_get (opening_store L).elems)
    ∙ each_member L m
    (λ wasm. item_address (sum_before (λ x. length x.elems) L.set.members m) (length wasm.elems) e >>= slice_get (opening_store L).elems)
    (λ wasm. slice_get wasm.elems e >>= λ x. Some (opened_items (member_items L m) x))
    (λ x found.
    item_read (λ k wasm. map (opened_items (member_items L k)) wasm.elems) (λ wasm. length wasm.elems)
    (λ k wasm. length-map wasm.elems (opened_items (member_items L k))) L.set.members m e x found
    ∙ mapped (opened_items (member_items L m)) x.wasm.elems e)

pub datas_begin : DatasBegin
datas_begin L m d =
    grouped (wasm_of L m) (λ wasm. item_address (sum_before (λ x. length x.datas) L.set.members m) (length wasm.datas) d) (slice_get (opening_store L).datas)
    ∙ each_member L m
    (λ wasm. item_address (sum_before (λ x. length x.datas) L.set.members m) (length wasm.datas) d >>= slice_get (opening_store L).datas)
    (λ wasm. slice_get wasm.datas d >>= λ x. Some x.bytes)
    (λ x found.
    item_read (λ k wasm. map (λ y. y.bytes) wasm.datas) (λ wasm. length wasm.datas) (λ k wasm. length-map wasm.datas (λ y. y.bytes)) L.set.members m d x found
    ∙ mapped (λ (y : Data). y.bytes) x.wasm.datas d)

-- behind one that stands in front
past_first : {X : Type 0} (start count k : ℕ) (x : X) (xs : List X)
    → (item_address (1 + start) count k >>= slice_get (x ∷ xs)) ≡ (item_address start count k >>= slice_get xs)
past_first {X} start count k x xs = go (nat_lt k count)
  where
    go : (b : Bool) → ((if b then Some (1 + start + k) else None) >>= slice_get (x ∷ xs)) ≡ ((if b then Some (start + k) else None) >>= slice_get xs)
    go true = (let next : 1 + start + k ≡ suc (start + k) = omega arith in ap (slice_get (x ∷ xs)) next)
    go false = refl

pub own_tables_begin : OwnTablesBegin
own_tables_begin L m k = each_member L m
    (λ wasm. item_address (1 + sum_before (λ x. length x.tables) L.set.members m) (length wasm.tables) k >>= slice_get (opening_store L).tables)
    (λ wasm. slice_get wasm.tables k >>= λ ty. Some (opened_table ty))
    (λ x found.
    past_first (sum_before (λ wasm. length wasm.tables) L.set.members m) (length x.wasm.tables) k (opening_table L) (from_members (λ j wasm. map opened_table wasm.tables) 0 L.set.members)
    ∙ item_read (λ j wasm. map opened_table wasm.tables) (λ wasm. length wasm.tables) (λ j wasm. length-map wasm.tables opened_table) L.set.members m k x found
    ∙ mapped opened_table x.wasm.tables k)

-- ---- the shared table

abbrev no_function : Option Ref
no_function = None

null_at : (n i : ℕ) → i < n → slice_get (replicate n no_function) i ≡ Some None
null_at zero i lt = absurd (omega arith)
null_at (suc n) zero lt = refl
null_at (suc n) (suc i) lt = null_at n i (omega arith)

-- references, and nulls behind them
front_filled : (refs : List Ref) (more i : ℕ) → i < length refs + more → slice_get (map Some refs ++ replicate more no_function) i ≡ Some (slice_get refs i)
front_filled [] more i lt = null_at more i (omega arith)
front_filled (r ∷ refs) more zero lt = refl
front_filled (r ∷ refs) more (suc i) lt = front_filled refs more i (omega arith)

-- nulls before that
behind_nulls : (at : ℕ) (refs : List Ref) (more i : ℕ) → i < at + length refs + more
    → slice_get (replicate at no_function ++ (map Some refs ++ replicate more no_function)) i ≡ Some (if nat_lt i at then None else slice_get refs (i - at))
behind_nulls at refs more i lt = go (nat_lt i at) refl
  where
    go : (b : Bool) → nat_lt i at ≡ b
        → slice_get (replicate at no_function ++ (map Some refs ++ replicate more no_function)) i ≡ Some (if b then None else slice_get refs (i - at))
    go true q =
        let before : i < at = grind (arith, nat_tests) in
        let many = length-replicate at no_function in
        slice_get-append-left (replicate at no_function) (map Some refs ++ replicate more no_function) i (omega arith) ∙ null_at at i before
    go false q =
        let past : at ≤ i = grind (arith, nat_tests) in
        let many = length-replicate at no_function in
        let place : i - length (replicate at no_function) ≡ i - at = omega arith in
        slice_get-append-right (replicate at no_function) (map Some refs ++ replicate more no_function) i (omega arith)
        ∙ ap (slice_get (map Some refs ++ replicate more no_function)) place
        ∙ front_filled refs more (i - at) (omega arith)

-- some references in the place of nulls from an index on
filled_at : (n at : ℕ) (refs : List Ref) (i : ℕ) → at + length refs ≤ n → i < n
    → slice_get (entries_overwritten (nulls n) at (map Some refs)) i ≡ Some (if nat_lt i at then None else slice_get refs (i - at))
unfolding entries_overwritten nulls
filled_at n at refs i room lt =
    let entries : List (Option Ref) = map Some refs in
    let many = length-map refs (λ (r : Ref). Some r) in
    let front : take at (replicate n no_function) ≡ replicate at no_function = take-replicate at n no_function (omega arith) in
    let back = drop-replicate (at + length entries) n no_function in
    ap₂ (λ (l r : List (Option Ref)). slice_get (l ++ (entries ++ r)) i) front back
    ∙ behind_nulls at refs (n - (at + length entries)) i (omega arith)

pub shared_table_begins : SharedTableBegins
shared_table_begins L =
    let outside = length-append (fresh_functions L) (outside_slots L) in (
      opening_table L,
      refl,
      record {
        most = refl;
        many = opened_length L;
        entries = λ n lt. filled_at (table_entries L) (first_outside_slot L) (outside_slots L) n (omega arith) lt;
      },
    )
