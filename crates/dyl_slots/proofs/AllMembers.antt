-- What is so of each member of a linked set.
use Rattle.std.proofs.Common.{◌≡◌, ℕ, zero, suc, ◌+◌, ◌<◌, ◌≤◌, ◌^◌, Bool, true, false, List, [], ◌∷◌, ◌++◌, length, get_or, Option, Some, None, refl, sym, ap, ap₂, ◌∙◌, subst, ◌⊎◌, inl, inr, arith, slice_get, nat_lt, nat_eq, add-one, ltb-true, ltb-false, if◌then◌else◌}
use Rattle.std.specs.List.{position_from}
use Rattle.std.specs.Option.{option_map}
use Rattle.std.proofs.lemmas.Option.{slice_get-map, slice_get_within}
use Rattle.wasm_form.specs.declared.runtime.Ref.{Ref}
use Rattle.wasm_form.specs.declared.runtime.Ref.TheVariants.{Own}
use Rattle.spec_loading.specs.spec_binary.Options.{◌>>=◌}
use Rattle.spec_loading.specs.spec_binary.Exports.{relocations_name, constructors_name}
use Rattle.spec_loading.specs.spec_linking.declared.fault.LinkFault.TheVariants.{OwnMemory}
use Rattle.spec_loading.specs.spec_linking.Plans.{Region, Plan, region_of, rounded_up, bases, end_of, regions_of}
use Rattle.spec_loading.specs.spec_linking.Sets.{Member}
use Rattle.spec_loading.specs.spec_linking.Orders.{is_among}
use Rattle.spec_loading.specs.spec_linking.Definitions.{or_other}
use Rattle.spec_loading.specs.spec_linking.LinkedSets.{LinkedSet}
use Rattle.spec_loading.specs.spec_linking.Slots.{linked_plan, segment_slot, fresh_of, fresh_slot, own_slot, slot_of}
use Rattle.spec_loading.specs.spec_linking.Links.{◌or_else◌, unless, first_fault, import_fault, tls_fault, loader_call_fault, member_fault}
use Rattle.spec_loading.proofs.of_spec_linking.LinkedFacts.{or_none, member_none}
use Rattle.spec_loading.proofs.of_spec_linking.Placing.{end_above, bases_length}
use Rattle.std.proofs.lemmas.List.{length-map}
use Rattle.spec_loading.specs.LoadedSet.{slots_before, first_slot}
use Rattle.dyl_imports.specs.dyl_search.declared.set.Member as code
use Rattle.dyl_imports.specs.dyl_search.Gathers.{member_of}
use Rattle.dyl_slots.specs.declared.placings.Bases.{Bases}
use Rattle.dyl_slots.specs.declared.segmented.Segmented.{Segmented}
use Rattle.dyl_slots.specs.Fresh.{slot_at, slot_by}
use Rattle.dyl_slots.specs.Given.{IsAt, IsGiven, IsSegmentedOf, AllAt, fresh_sum}
use Rattle.dyl_slots.proofs.OwnSlots.{own_fresh}
use Rattle.dyl_slots.proofs.Segments.{slot_read}

-- ---- lists with one more

at_end : {A : Type 0} (xs : List A) (y : A) (k : ℕ) (x : A) → slice_get (xs ++ y ∷ []) k ≡ Some x → (slice_get xs k ≡ Some x) ⊎ ((k ≡ length xs) × (y ≡ x))
at_end [] y zero x e = inr (refl, (let same : y ≡ x = cc in same))
at_end [] y (suc k) x e = absurd cc
at_end (z ∷ xs) y zero x e = inl e
at_end (z ∷ xs) y (suc k) x e = elim (at_end xs y k x e) [ inl h ↦ inl h | inr h ↦ inr ((let q = h.0 in omega arith), h.1) ]

pub all_at_more : {A : Type 0} (P : ℕ → A → Type 0) (xs : List A) (y : A) (n : ℕ) → AllAt P xs → length xs ≡ n → P n y → AllAt P (xs ++ y ∷ [])
all_at_more {A} P xs y n all count here = λ k x e. by k x (at_end xs y k x e)
  where
    by : (k : ℕ) (x : A) → (slice_get xs k ≡ Some x) ⊎ ((k ≡ length xs) × (y ≡ x)) → P k x
    by k x (inl h) = all k x h
    by k x (inr h) = subst (λ n. P n x) (sym (h.0 ∙ count)) (subst (P n) h.1 here)

-- ---- a member that is given

region_within : (size align : Region → ℕ) (e : ℕ) (rs : List Region) (m b : ℕ) (r : Region) → slice_get (bases size align e rs) m ≡ Some b → slice_get rs m ≡ Some r → b + size r ≤ end_of size align e rs
region_within size align e [] m b r p q = absurd cc
region_within size align e (s ∷ rs) zero b r p q =
    let base : rounded_up (2 ^ align s) e ≡ b = cc in
    let same : s ≡ r = cc in
    let big = ap size same in
    let le = end_above size align (rounded_up (2 ^ align s) e + size s) rs in
    omega arith
region_within size align e (s ∷ rs) (suc m) b r p q = region_within size align (rounded_up (2 ^ align s) e + size s) rs m b r p q

imports_none : (L : LinkedSet) (m : ℕ) (member : Member) → member_fault L m member ≡ None → first_fault (import_fault L m member.wasm) member.wasm.imports ≡ None
imports_none L m member e =
    let imports = first_fault (import_fault L m member.wasm) member.wasm.imports in
    let constructors = loader_call_fault m member.wasm constructors_name in
    let relocations = loader_call_fault m member.wasm relocations_name in
    let exports = first_fault (tls_fault m) member.dylink.exports in
    let one = or_none (unless (nat_eq (length member.wasm.memories) 0) (OwnMemory m)) (exports or_else (relocations or_else (constructors or_else imports))) e in
    let two = or_none exports (relocations or_else (constructors or_else imports)) one.1 in
    let three = or_none relocations (constructors or_else imports) two.1 in
    (or_none constructors imports three.1).1

pub given_member : (L : LinkedSet) (members : List code.Member) (plan : Plan) (functions : List (List Ref)) → IsGiven L members plan functions → (m : ℕ) (x : code.Member) (refs : List Ref) (b : Bases)
    → slice_get members m ≡ Some x → slice_get functions m ≡ Some refs → slice_get plan.bases m ≡ Some b.memory → slice_get plan.table_bases m ≡ Some b.table → b.memory < 2 ^ 32 → IsAt L m x refs b
given_member L members plan functions given m x refs b here names memory table small =
    let at : slice_get L.set.members m ≡ Some (member_of x) =
    ap (λ (ms : List Member). slice_get ms m) given.set ∙ slice_get-map member_of members m ∙ ap (option_map member_of) here in
    let zero_more : 0 + m ≡ m = omega arith in
    let fault : member_fault L m (member_of x) ≡ None = subst (λ k. member_fault L k (member_of x) ≡ None) zero_more (member_none L 0 L.set.members m (member_of x) given.none at) in
    let region : slice_get (regions_of L.set.members) m ≡ Some (region_of (member_of x).dylink) =
    slice_get-map (λ (y : Member). region_of y.dylink) L.set.members m ∙ ap (option_map (λ (y : Member). region_of y.dylink)) at in
    let table_there : slice_get (linked_plan L).table_bases m ≡ Some b.table = ap (λ (p : Plan). slice_get p.table_bases m) (sym given.placed) ∙ table in
    let within = region_within (λ (r : Region). r.table_size) (λ (r : Region). r.table_align) 1 (regions_of L.set.members) m b.table (region_of (member_of x).dylink) table_there region in
    let end = ap (λ (p : Plan). p.table_end) given.placed in
    let low = given.entries in
    record {
      here = at;
      names = given.names m refs names;
      memory = ap (λ (p : Plan). slice_get p.bases m) (sym given.placed) ∙ memory;
      table = table_there;
      imports = imports_none L m (member_of x) fault;
      small = small;
      within = omega arith;
    }

-- ---- the slots of a member

pub past_end : (slots : List (Option ℕ)) (f : ℕ) → length slots ≤ f → get_or slots f None ≡ None
past_end [] f le = refl
past_end (x ∷ xs) zero le = absurd (omega arith)
past_end (x ∷ xs) (suc f) le = past_end xs f (omega arith)

pub slots_exact : (L : LinkedSet) (m first : ℕ) (s : Segmented) → IsSegmentedOf L m s → first ≡ first_slot L m → (fresh slots : List (Option ℕ))
    → ((f : ℕ) → f < length s.segments.items → get_or fresh f None ≡ position_from (nat_eq f) first s.fresh)
    → length slots ≡ length s.segments.items
    → ((f : ℕ) → f < length s.segments.items → get_or slots f None ≡ slot_by s.defined s.segments.items fresh f)
    → (f : ℕ) → slot_at slots f ≡ slot_of L (Own m f)
slots_exact L m first s is same fresh slots places count found f =
    slot_read slots f ∙ by (is_among f s.defined) refl ∙ ap (λ fs. if is_among f fs then either else None) is.defined ∙ sym (ap (own_slot L m f) is.here)
  where
    either : Option ℕ
    either = or_other (segment_slot L m f) (fresh_slot L (Own m f))

    inside : m < length L.set.members
    inside = within (slice_get L.set.members m) refl is.here
      where
        within : (o : Option Member) → slice_get L.set.members m ≡ o → (o >>= λ x. Some x.wasm) ≡ Some is.wasm → m < length L.set.members
        within None q e = absurd cc
        within (Some x) q e = slice_get_within L.set.members m x q

    there : f < length s.segments.items → or_other (slot_at s.segments.items f) (slot_at fresh f) ≡ either
    there lt = ap₂ or_other (is.segments f lt) (slot_read fresh f ∙ places f lt ∙ ap₂ (position_from (nat_eq f)) same is.fresh ∙ sym (own_fresh L m f inside))

    none : (b : Bool) → is_among f s.defined ≡ false → nat_lt f (length s.segments.items) ≡ b → get_or slots f None ≡ None
    none true q p =
        let lt : f < length s.segments.items = ltb-true f (length s.segments.items) p in
        found f lt ∙ ap (λ b. if b then or_other (slot_at s.segments.items f) (slot_at fresh f) else None) q
    none false q p = let le = ltb-false f (length s.segments.items) p in past_end slots f (omega arith)

    by : (b : Bool) → is_among f s.defined ≡ b → get_or slots f None ≡ (if is_among f s.defined then either else None)
    by true q =
        let lt = is.below f q in
        found f lt
        ∙ ap (λ b. if b then or_other (slot_at s.segments.items f) (slot_at fresh f) else None) q
        ∙ there lt
        ∙ sym (ap (λ b. if b then either else None) q)
    by false q = none (nat_lt f (length s.segments.items)) q refl ∙ sym (ap (λ b. if b then either else None) q)

-- ---- how many fresh slots

fresh_sum_from : (L : LinkedSet) (n : ℕ) (xs : List Segmented) → ((k : ℕ) (x : Segmented) → slice_get xs k ≡ Some x → x.fresh ≡ fresh_of L (n + k)) → slots_before L n + fresh_sum xs ≡ slots_before L (n + length xs)
fresh_sum_from L n [] fresh = let same : n ≡ n + 0 = omega arith in let e = ap (slots_before L) same in omega arith
fresh_sum_from L n (x ∷ xs) fresh =
    let here : n + 0 ≡ n = omega arith in
    let first : length x.fresh ≡ length (fresh_of L n) = ap length (fresh 0 x refl ∙ ap (fresh_of L) here) in
    let next = ap (slots_before L) (add-one n) in
    let rest = fresh_sum_from L (n + 1) xs (λ k y e. fresh (suc k) y e ∙ ap (fresh_of L) (let q : n + suc k ≡ (n + 1) + k = omega arith in q)) in
    let same : (n + 1) + length xs ≡ n + length (x ∷ xs) = omega arith in
    let there = ap (slots_before L) same in
    omega arith

pub fresh_sum_is : (L : LinkedSet) (xs : List Segmented) → AllAt (IsSegmentedOf L) xs → fresh_sum xs ≡ slots_before L (length xs)
fresh_sum_is L xs all =
    let sum = fresh_sum_from L 0 xs (λ k x e. (all k x e).fresh ∙ ap (fresh_of L) (let q : k ≡ 0 + k = omega arith in q)) in
    let same : 0 + length xs ≡ length xs = omega arith in
    let there = ap (slots_before L) same in
    omega arith

pub next_first : (L : LinkedSet) (n : ℕ) (s : Segmented) → IsSegmentedOf L n s → first_slot L n + length s.fresh ≡ first_slot L (n + 1)
next_first L n s is =
    let count = ap length is.fresh in
    let next = ap (slots_before L) (add-one n) in
    omega arith

-- there are as many bases as members
pub as_many_bases : (L : LinkedSet) (members : List code.Member) (plan : Plan) (functions : List (List Ref)) → IsGiven L members plan functions → (length plan.bases ≡ length members) × (length plan.table_bases ≡ length members)
as_many_bases L members plan functions given =
    let regions : length (regions_of L.set.members) ≡ length members =
    length-map L.set.members (λ (y : Member). region_of y.dylink) ∙ ap length given.set ∙ length-map members member_of in (
      ap (λ (p : Plan). length p.bases) given.placed ∙ bases_length (λ (r : Region). r.mem_size) (λ (r : Region). r.mem_align) _ (regions_of L.set.members) ∙ regions,
      ap (λ (p : Plan). length p.table_bases) given.placed ∙ bases_length (λ (r : Region). r.table_size) (λ (r : Region). r.table_align) 1 (regions_of L.set.members) ∙ regions,
    )
