-- The slots of functions in the one table are words.
use Rattle.std.proofs.Common.{◌≡◌, ℕ, zero, suc, ◌+◌, ◌^◌, ◌<◌, ◌≤◌, Bool, true, false, List, [], ◌∷◌, length, slice_get, Option, Some, None, cond, subst, arith, find, if◌then◌else◌}
use Rattle.std.specs.List.{position_from, range_with_len}
use Rattle.spec_linking.specs.wasm_form.declared.module.Module.{Module}
use Rattle.spec_linking.specs.wasm_form.declared.runtime.Ref.{Ref}
use Rattle.spec_linking.specs.wasm_form.declared.runtime.Ref.TheVariants.{Own, Loader, Host, Stub}
use Rattle.spec_linking.specs.spec_binary.Options.{◌>>=◌}
use Rattle.spec_linking.specs.Sets.{Member}
use Rattle.spec_linking.specs.Orders.{is_among}
use Rattle.spec_linking.specs.Plans.{regions_of, rounded_up, bases, end_of, least_of, most_table, maxima, limits_in, table_limits}
use Rattle.spec_linking.specs.Definitions.{or_other}
use Rattle.spec_linking.specs.LinkedSets.{LinkedSet, wasm_of}
use Rattle.spec_linking.specs.Slots.{linked_plan, table_base, is_ref, index_of, all_applied, nowhere, shared_placings, segment_slot, defined_functions, same_ref, fresh_slots, fresh_slot, own_slot, slot_of, table_entries}
use Rattle.spec_linking.specs.Links.{Links}
use Rattle.spec_linking.proofs.LinkedFacts.{linked_limits}
use Rattle.spec_linking.proofs.Placing.{end_above}
use Rattle.spec_safety.proofs.Lookups.{went_on}

-- ---- places

pub position_within : {A : Type 0} (test : A → Bool) (k : ℕ) (xs : List A) (n : ℕ) → position_from test k xs ≡ Some n → n < k + length xs
position_within test k [] n e = absurd cc
position_within {A} test k (x ∷ xs) n e = go (test x) e (position_within test (k + 1) xs n)
  where
    go : (b : Bool) → cond b (Some k) (position_from test (k + 1) xs) ≡ Some n → (position_from test (k + 1) xs ≡ Some n → n < k + 1 + length xs)
        → n < k + suc (length xs)
    go true h later = (let same : k ≡ n = cc in omega arith)
    go false h later = (let lt = later h in omega arith)

found_within : (test : ℕ → Bool) (base size n : ℕ) → find test (range_with_len base size) ≡ Some n → n < base + size
found_within test base zero n e = absurd cc
found_within test base (suc size) n e = go (test base) e (found_within test (base + 1) size n)
  where
    go : (b : Bool) → cond b (Some base) (find test (range_with_len (base + 1) size)) ≡ Some n
        → (find test (range_with_len (base + 1) size) ≡ Some n → n < base + 1 + size) → n < base + suc size
    go true h later = (let same : base ≡ n = cc in omega arith)
    go false h later = (let lt = later h in omega arith)

-- a region ends within the plan
region_within : (end : ℕ) (xs : List Member) (m b : ℕ) (y : Member)
    → slice_get (bases (λ r. r.table_size) (λ r. r.table_align) end (regions_of xs)) m ≡ Some b → slice_get xs m ≡ Some y
    → b + y.dylink.table_size ≤ end_of (λ r. r.table_size) (λ r. r.table_align) end (regions_of xs)
region_within end [] m b y e at = absurd cc
region_within end (x ∷ xs) zero b y e at =
    let same : x ≡ y = cc in
    let here : rounded_up (2 ^ x.dylink.table_align) end ≡ b = cc in
    let past = rounded_up (2 ^ x.dylink.table_align) end + x.dylink.table_size in
    let later = end_above (λ r. r.table_size) (λ r. r.table_align) past (regions_of xs) in
    let le : b + x.dylink.table_size ≤ end_of (λ r. r.table_size) (λ r. r.table_align) end (regions_of (x ∷ xs)) = omega arith in
    subst (λ (z : Member). b + z.dylink.table_size ≤ end_of (λ r. r.table_size) (λ r. r.table_align) end (regions_of (x ∷ xs))) same le
region_within end (x ∷ xs) (suc m) b y e at = region_within (rounded_up (2 ^ x.dylink.table_align) end + x.dylink.table_size) xs m b y e at

pub least_within : (bound : ℕ) (ns : List ℕ) → least_of bound ns ≤ bound
least_within bound [] = omega arith
least_within bound (n ∷ ns) = (let later = least_within bound ns in omega arith)

module _ (L : LinkedSet) (links : Links L) where
  pub table_within : table_entries L ≤ most_table
  table_within =
      let limits = linked_limits L links in
      let most = least_within most_table (maxima (limits_in table_limits L.set.members)) in
      let entries = limits.entries in
      omega arith

  -- ---- slots

  segment_within : (m f s : ℕ) → segment_slot L m f ≡ Some s → s ≤ most_table
  segment_within m f s e =
      let left : Member → ℕ → Option Ref = λ (member : Member). all_applied nowhere (shared_placings L m member.wasm) in
      let slot : Member → ℕ → Option ℕ = λ (member : Member). λ (base : ℕ). index_of (Own m f) (left member) base member.dylink.table_size in
      let y = went_on (slice_get L.set.members m) (λ (member : Member). table_base L m >>= slot member) s e in
      let base = went_on (table_base L m) (slot y.0) s y.2 in
      let within = region_within 1 L.set.members m base.0 y.0 base.1 y.1 in
      let found = found_within (λ i. is_ref (Own m f) (left y.0 i)) base.0 y.0.dylink.table_size s base.2 in
      let table = table_within in
      omega arith

  fresh_within : (r : Ref) (s : ℕ) → fresh_slot L r ≡ Some s → s ≤ most_table
  fresh_within r s e =
      let found = position_within (same_ref r) (linked_plan L).table_end (fresh_slots L) s e in
      let table = table_within in
      omega arith

  either_within : (o p : Option ℕ) (s : ℕ) → (o ≡ Some s → s ≤ most_table) → (p ≡ Some s → s ≤ most_table) → or_other o p ≡ Some s → s ≤ most_table
  either_within None p s one two e = two e
  either_within (Some k) p s one two e = one e

  own_within : (m f s : ℕ) (o : Option Module) → own_slot L m f o ≡ Some s → s ≤ most_table
  own_within m f s None e = absurd cc
  own_within m f s (Some wasm) e = go (is_among f (defined_functions wasm)) e
    where
      go : (b : Bool) → (if b then or_other (segment_slot L m f) (fresh_slot L (Own m f)) else None) ≡ Some s → s ≤ most_table
      go true h = either_within (segment_slot L m f) (fresh_slot L (Own m f)) s (segment_within m f s) (fresh_within (Own m f) s) h
      go false h = absurd cc

  pub slot_within : (r : Ref) (s : ℕ) → slot_of L r ≡ Some s → s ≤ most_table
  slot_within (Own m f) s e = own_within m f s (wasm_of L m) e
  slot_within (Loader call) s e = fresh_within (Loader call) s e
  slot_within (Host n) s e = fresh_within (Host n) s e
  slot_within (Stub m f) s e = absurd cc
