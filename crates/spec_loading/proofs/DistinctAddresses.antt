-- Distinct globals, tables and segments of the run of a linked set have distinct addresses.
use Rattle.std.proofs.Common.{◌≡◌, ℕ, zero, suc, ◌+◌, ◌-◌, ◌<◌, Bool, true, false, List, [], ◌∷◌, length, nat_lt, slice_get, Option, Some, None, ◌⊎◌, inl, inr, ◌↔◌, cond, if◌then◌else◌, refl, sym, ap, ap₂, ◌∙◌, arith}
use Rattle.std.specs.Prelude.{bytes_eq}
use Rattle.std.specs.List.{position_from}
use Rattle.std.proofs.lemmas.Bool.{ltb-true, lt-ltb, and_parts}
use Rattle.std.proofs.lemmas.Bool.Decides.{nat_tests}
use Rattle.std.proofs.lemmas.Option.{slice_get_within}
use Rattle.std.proofs.lemmas.Slice.Eq.{bytes_eq-Decides}
use Rattle.spec_linking.specs.wasm_form.declared.module.Import.{Import}
use Rattle.spec_linking.specs.wasm_form.declared.module.Module.{Module}
use Rattle.spec_linking.specs.spec_binary.Options.{◌>>=◌}
use Rattle.spec_linking.specs.spec_binary.IndexSpaces.{globals_in}
use Rattle.spec_linking.specs.declared.fault.Kind.{Kind}
use Rattle.spec_linking.specs.declared.fault.Kind.TheVariants as kind
use Rattle.spec_linking.specs.Sets.{Member}
use Rattle.spec_linking.specs.Imports.{ImportUse, SharedMemory, SharedTable, StackPointer, MemoryBase, TableBase, DataCell, SlotCell, EnvFunction, ModuleFunction, OtherUse, use_of, importing}
use Rattle.spec_linking.specs.LinkedSets.{LinkedSet, wasm_of}
use Rattle.spec_linking.specs.Slots.{is_shared_table, CellName, is_cell_kind, same_cell, cells_of}
use Rattle.spec_safety.proofs.Lookups.{went_on}
use Rattle.spec_loading.specs.Addresses.{sum_before, item_address, globals_size, memory_base_address, import_address, address_with, imported_tables}
use Rattle.spec_loading.specs.RunItems.{RunGlobal, SharedStackPointer, MemberMemoryBase, MemberTableBase, MemberCell, MemberGlobal, imported_as, run_global_with, run_global, address_of_global, RunTable, SharedFunctionTable, MemberTable, run_table, address_of_table}
use Rattle.spec_loading.specs.Laws.{GlobalsAreNumbered, TablesAreNumbered, GlobalsAreDistinct, TablesAreDistinct, NumbersShareGlobals, NumbersShareTables, SegmentsAreDistinct}
use Rattle.spec_loading.proofs.MemberItems.{apart}

-- ---- places

-- what an address of an item says
pub item_is : (start count k a : ℕ) → item_address start count k ≡ Some a → (k < count) × (a ≡ start + k)
item_is start count k a = go (nat_lt k count) refl
  where
    go : (b : Bool) → nat_lt k count ≡ b → (if b then Some (start + k) else None) ≡ Some a → (k < count) × (a ≡ start + k)
    go true q e = (ltb-true k count q, (let is : start + k ≡ a = cc in sym is))
    go false q e = absurd cc

-- the element that a test finds from a place on
pub record FoundAt {A : Type 0} (test : A → Bool) (xs : List A) (start a : ℕ) : Type 0 where
  pub place : ℕ
  pub is : a ≡ start + place
  pub item : A
  pub at : slice_get xs place ≡ Some item
  pub passes : test item ≡ true

pub found_at : {A : Type 0} (test : A → Bool) (start : ℕ) (xs : List A) (a : ℕ) → position_from test start xs ≡ Some a → FoundAt test xs start a
found_at test start [] a e = absurd cc
found_at {A} test start (x ∷ xs) a e = go (test x) refl (λ h. found_at test (start + 1) xs a h) e
  where
    go : (b : Bool) → test x ≡ b → (position_from test (start + 1) xs ≡ Some a → FoundAt test xs (start + 1) a)
        → cond b (Some start) (position_from test (start + 1) xs) ≡ Some a → FoundAt test (x ∷ xs) start a
    go true q others h = record { place = 0; is = (let same : start ≡ a = cc in omega arith); item = x; at = refl; passes = q }
    go false q others h =
        let later = others h in
        let same = later.is in
        record { place = suc later.place; is = omega arith; item = later.item; at = later.at; passes = later.passes }

-- ---- cells

kinds_equal : (a b : Kind) → is_cell_kind a b ≡ true → a ≡ b
kinds_equal kind.Mem kind.Mem e = refl
kinds_equal kind.Func kind.Func e = refl
kinds_equal _ _ e = absurd cc

-- cells that are the same are equal
pub cells_equal : (c d : CellName) → same_cell c d ≡ true → c ≡ d
cells_equal c d e =
    let both = and_parts (is_cell_kind c.0 d.0) (bytes_eq c.1 d.1) e in
    let kinds = kinds_equal c.0 d.0 both.0 in
    let names : c.1 ≡ d.1 = (bytes_eq-Decides c.1 d.1).0 both.1 in
    ap₂ (λ (k : Kind) (name : List ℕ). (k, name)) kinds names

-- ---- globals

-- the one at a place of those of member m
cell_or_own : ℕ → Module → ℕ → Bool → Option RunGlobal
cell_or_own m wasm j true = slice_get (cells_of wasm) j >>= λ c. Some (MemberCell m c)
cell_or_own m wasm j false = Some (MemberGlobal m (j - length (cells_of wasm)))

global_at : ℕ → Module → ℕ → Option RunGlobal
global_at m wasm zero = Some (MemberMemoryBase m)
global_at m wasm (suc zero) = Some (MemberTableBase m)
global_at m wasm (suc (suc j)) = cell_or_own m wasm j (nat_lt j (length (cells_of wasm)))

-- a global of a member has this address
record Stands (L : LinkedSet) (x : RunGlobal) (a : ℕ) : Type 0 where
  m : ℕ
  member : Member
  found : slice_get L.set.members m ≡ Some member
  place : ℕ
  within : place < globals_size member.wasm
  is : global_at m member.wasm place ≡ Some x
  address : a ≡ memory_base_address L m + place

module _ (L : LinkedSet) where
  -- what is said of a member says that there is one
  pub of_member : (m a : ℕ) (P : Type 0) (f : Module → Option ℕ) → (wasm_of L m >>= f) ≡ Some a
      → ((x : Member) → slice_get L.set.members m ≡ Some x → f x.wasm ≡ Some a → P) → P
  of_member m a P f e make =
      let wasm = went_on (wasm_of L m) f a e in
      let member = went_on (slice_get L.set.members m) (λ (x : Member). Some x.wasm) wasm.0 wasm.1 in
      let same : member.0.wasm ≡ wasm.0 = (let h = member.2 in cc) in
      make member.0 member.1 (ap f same ∙ wasm.2)

  memory_base_stands : (m a : ℕ) (x : Member) → slice_get L.set.members m ≡ Some x → Some (memory_base_address L m) ≡ Some a → Stands L (MemberMemoryBase m) a
  unfolding global_at
  memory_base_stands m a x found e =
      let same : memory_base_address L m ≡ a = cc in
      record { m = m; member = x; found = found; place = 0; within = omega arith; is = refl; address = omega arith }

  table_base_stands : (m a : ℕ) (x : Member) → slice_get L.set.members m ≡ Some x → Some (memory_base_address L m + 1) ≡ Some a → Stands L (MemberTableBase m) a
  unfolding global_at
  table_base_stands m a x found e =
      let same : memory_base_address L m + 1 ≡ a = cc in
      record { m = m; member = x; found = found; place = 1; within = omega arith; is = refl; address = omega arith }

  cell_stands : (m a : ℕ) (c : CellName) (x : Member) → slice_get L.set.members m ≡ Some x
      → position_from (same_cell c) (memory_base_address L m + 2) (cells_of x.wasm) ≡ Some a → Stands L (MemberCell m c) a
  unfolding global_at cell_or_own
  cell_stands m a c x found e =
      let at = found_at (same_cell c) (memory_base_address L m + 2) (cells_of x.wasm) a e in
      let lt = slice_get_within (cells_of x.wasm) at.place at.item at.at in
      let same = cells_equal c at.item at.passes in
      let is_at = at.is in
      record {
        m = m;
        member = x;
        found = found;
        place = suc (suc at.place);
        within = omega arith;
        is = rw (lt-ltb at.place (length (cells_of x.wasm)) lt, at.at) (ap (λ d. Some (MemberCell m d)) (sym same));
        address = omega arith;
      }

  own_stands : (m a k : ℕ) (x : Member) → slice_get L.set.members m ≡ Some x
      → item_address (memory_base_address L m + 2 + length (cells_of x.wasm)) (length x.wasm.globals) k ≡ Some a → Stands L (MemberGlobal m k) a
  unfolding global_at cell_or_own
  own_stands m a k x found e =
      let cells = length (cells_of x.wasm) in
      let at = item_is (memory_base_address L m + 2 + cells) (length x.wasm.globals) k a e in
      let lt = at.0 in
      let is_at = at.1 in
      let past : nat_lt (cells + k) cells ≡ false = grind (arith, nat_tests) in
      let place : cells + k - cells ≡ k = omega arith in
      record {
        m = m;
        member = x;
        found = found;
        place = suc (suc (cells + k));
        within = omega arith;
        is = rw past (ap (λ j. Some (MemberGlobal m j)) place);
        address = omega arith;
      }

  stands : (x : RunGlobal) (a : ℕ) → address_of_global L x ≡ Some a → ((x ≡ SharedStackPointer) × (a ≡ 0)) ⊎ Stands L x a
  stands SharedStackPointer a e = inl (refl, (let same : 0 ≡ a = cc in sym same))
  stands (MemberMemoryBase m) a e = inr (of_member m a (Stands L (MemberMemoryBase m) a) _ e (memory_base_stands m a))
  stands (MemberTableBase m) a e = inr (of_member m a (Stands L (MemberTableBase m) a) _ e (table_base_stands m a))
  stands (MemberCell m c) a e = inr (of_member m a (Stands L (MemberCell m c) a) _ e (cell_stands m a c))
  stands (MemberGlobal m k) a e = inr (of_member m a (Stands L (MemberGlobal m k) a) _ e (own_stands m a k))

  one_of_members : (x y : RunGlobal) (a : ℕ) → Stands L x a → Stands L y a → x ≡ y
  one_of_members x y a p q =
      let here = p.address in
      let there = q.address in
      let both = apart globals_size L.set.members p.m q.m p.place q.place p.member q.member p.found q.found p.within q.within (omega arith) in
      let members : Some p.member ≡ Some q.member = sym p.found ∙ ap (slice_get L.set.members) both.0 ∙ q.found in
      let member : p.member ≡ q.member = cc in
      let moved : global_at p.m p.member.wasm p.place ≡ global_at q.m q.member.wasm q.place =
      ap₂ (λ (m : ℕ) (w : Member). global_at m w.wasm p.place) both.0 member ∙ ap (global_at q.m q.member.wasm) both.1 in
      let same : Some x ≡ Some y = sym p.is ∙ moved ∙ q.is in
      cc

  one_global : (x y : RunGlobal) (a : ℕ) → ((x ≡ SharedStackPointer) × (a ≡ 0)) ⊎ Stands L x a → ((y ≡ SharedStackPointer) × (a ≡ 0)) ⊎ Stands L y a → x ≡ y
  one_global x y a (inl p) (inl q) = p.0 ∙ sym q.0
  one_global x y a (inl p) (inr q) = absurd (let none = p.1 in let some = q.address in omega arith)
  one_global x y a (inr p) (inl q) = absurd (let none = q.1 in let some = p.address in omega arith)
  one_global x y a (inr p) (inr q) = one_of_members x y a p q

pub globals_are_distinct : GlobalsAreDistinct
globals_are_distinct L x y a p q = one_global L x y a (stands L x a p) (stands L y a q)

-- ---- tables

module _ (L : LinkedSet) where
  record TableStands (m k a : ℕ) : Type 0 where
    member : Member
    found : slice_get L.set.members m ≡ Some member
    within : k < length member.wasm.tables
    address : a ≡ 1 + sum_before (λ w. length w.tables) L.set.members m + k

  table_stands : (m k a : ℕ) → address_of_table L (MemberTable m k) ≡ Some a → TableStands m k a
  table_stands m k a e = of_member L m a (TableStands m k a) _ e (λ x found h.
      let at = item_is (1 + sum_before (λ w. length w.tables) L.set.members m) (length x.wasm.tables) k a h in
      record { member = x; found = found; within = at.0; address = at.1 })

  one_table : (x y : RunTable) (a : ℕ) → address_of_table L x ≡ Some a → address_of_table L y ≡ Some a → x ≡ y
  one_table SharedFunctionTable SharedFunctionTable a p q = refl
  one_table SharedFunctionTable (MemberTable m k) a p q = absurd (let none : 0 ≡ a = cc in let some = (table_stands m k a q).address in omega arith)
  one_table (MemberTable m k) SharedFunctionTable a p q = absurd (let none : 0 ≡ a = cc in let some = (table_stands m k a p).address in omega arith)
  one_table (MemberTable m k) (MemberTable n j) a p q =
      let s = table_stands m k a p in
      let t = table_stands n j a q in
      let here = s.address in
      let there = t.address in
      let both = apart (λ w. length w.tables) L.set.members m n k j s.member t.member s.found t.found s.within t.within (omega arith) in
      ap₂ MemberTable both.0 both.1

pub tables_are_distinct : TablesAreDistinct
tables_are_distinct L x y a p q = one_table L x y a p q

-- ---- segments

segments_apart : (size : Module → ℕ) (L : LinkedSet) (m k i j a : ℕ)
    → (wasm_of L m >>= λ wasm. item_address (sum_before size L.set.members m) (size wasm) i) ≡ Some a
    → (wasm_of L k >>= λ wasm. item_address (sum_before size L.set.members k) (size wasm) j) ≡ Some a → (m ≡ k) × (i ≡ j)
segments_apart size L m k i j a p q =
    of_member L m a ((m ≡ k) × (i ≡ j)) _ p (λ x here e.
    of_member L k a ((m ≡ k) × (i ≡ j)) _ q (λ y there h.
    let s = item_is (sum_before size L.set.members m) (size x.wasm) i a e in
    let t = item_is (sum_before size L.set.members k) (size y.wasm) j a h in
    let left = s.1 in
    let right = t.1 in
    apart size L.set.members m k i j x y here there s.0 t.0 (omega arith)))

pub segments_are_distinct : SegmentsAreDistinct
segments_are_distinct = (segments_apart (λ x. length x.elems), segments_apart (λ x. length x.datas))

-- ---- numbers

module _ (L : LinkedSet) (m : ℕ) (wasm : Module) (here : wasm_of L m ≡ Some wasm) where
  import_numbered : (i : Import) (u : ImportUse) → import_address L m wasm i u ≡ (imported_as m i u >>= address_of_global L)
  import_numbered i SharedMemory = refl
  import_numbered i SharedTable = refl
  import_numbered i StackPointer = refl
  import_numbered i MemoryBase = rw here refl
  import_numbered i TableBase = rw here refl
  import_numbered i DataCell = rw here refl
  import_numbered i SlotCell = rw here refl
  import_numbered i (EnvFunction t) = refl
  import_numbered i (ModuleFunction t) = refl
  import_numbered i OtherUse = refl

  global_numbered : (g : ℕ) (o : Option Import) → address_with L m wasm g o ≡ (run_global_with m wasm g o >>= address_of_global L)
  global_numbered g (Some i) = import_numbered i (use_of i)
  global_numbered g None = rw here refl

  table_numbered : (t : ℕ) (b : Bool) → (if b then Some 0 else item_address (1 + sum_before (λ x. length x.tables) L.set.members m) (length wasm.tables) (t - imported_tables wasm))
      ≡ address_of_table L (if b then SharedFunctionTable else MemberTable m (t - imported_tables wasm))
  table_numbered t true = refl
  table_numbered t false = rw here refl

pub globals_are_numbered : GlobalsAreNumbered
globals_are_numbered L m g = go (wasm_of L m) refl
  where
    go : (o : Option Module) → wasm_of L m ≡ o → (o >>= λ wasm. address_with L m wasm g (slice_get (importing globals_in wasm.imports) g))
        ≡ ((o >>= λ wasm. run_global_with m wasm g (slice_get (importing globals_in wasm.imports) g)) >>= address_of_global L)
    go None e = refl
    go (Some wasm) e = global_numbered L m wasm e g (slice_get (importing globals_in wasm.imports) g)

pub tables_are_numbered : TablesAreNumbered
tables_are_numbered L m t = go (wasm_of L m) refl
  where
    go : (o : Option Module) → wasm_of L m ≡ o
        → (o >>= λ wasm. if is_shared_table wasm t then Some 0 else item_address (1 + sum_before (λ x. length x.tables) L.set.members m) (length wasm.tables) (t - imported_tables wasm))
        ≡ ((o >>= λ wasm. Some (if is_shared_table wasm t then SharedFunctionTable else MemberTable m (t - imported_tables wasm))) >>= address_of_table L)
    go None e = refl
    go (Some wasm) e = table_numbered L m wasm e t (is_shared_table wasm t)

-- numbers that lead to one address are of one thing, where distinct things have distinct addresses
shared : {A : Type 0} (address : A → Option ℕ) → ((x y : A) (a : ℕ) → address x ≡ Some a → address y ≡ Some a → x ≡ y)
    → (o p : Option A) (a b : ℕ) → (o >>= address) ≡ Some a → (p >>= address) ≡ Some b → (a ≡ b) ↔ (o ≡ p)
shared address distinct None p a b e q = absurd cc
shared address distinct (Some x) None a b e q = absurd cc
shared {A} address distinct (Some x) (Some y) a b e q = (
  (λ same. ap Some (distinct x y b (e ∙ ap Some same) q)),
  (λ same. let alike : Some a ≡ Some b = sym e ∙ ap (λ (o : Option A). o >>= address) same ∙ q in cc),
)

pub numbers_share_globals : NumbersShareGlobals
numbers_share_globals L m k g h a b e q =
    shared (address_of_global L) (globals_are_distinct L) (run_global L m g) (run_global L k h) a b
    (sym (globals_are_numbered L m g) ∙ e) (sym (globals_are_numbered L k h) ∙ q)

pub numbers_share_tables : NumbersShareTables
numbers_share_tables L m k t u a b e q =
    shared (address_of_table L) (tables_are_distinct L) (run_table L m t) (run_table L k u) a b
    (sym (tables_are_numbered L m t) ∙ e) (sym (tables_are_numbered L k u) ∙ q)
