-- Distinct things have distinct numbers.
use Rattle.std.proofs.Common.{◌≡◌, ◌<◌, ◌≤◌, ℕ, zero, suc, ◌+◌, ◌-◌, Bool, true, false, List, [], ◌∷◌, length, nat_lt, slice_get, Option, Some, None, if◌then◌else◌, ◌↔◌, refl, sym, ap, ap₂, ◌∙◌, arith}
use Rattle.std.proofs.lemmas.Bool.Decides.{nat_tests}
use Rattle.wasm_form.specs.declared.module.Module.{Module}
use Rattle.wasm_form.specs.declared.runtime.LoaderCall.{LoaderCall}
use Rattle.wasm_form.specs.declared.runtime.LoaderCall.TheVariants.{Dlopen, Dlsym, Dlclose, Dlerror}
use Rattle.wasm_form.specs.declared.runtime.Ref.TheVariants.{Own, Loader, Host, Stub}
use Rattle.spec_loading.specs.spec_binary.Options.{◌>>=◌}
use Rattle.spec_loading.specs.spec_binary.IndexSpaces.{imported_count}
use Rattle.spec_loading.specs.spec_linking.Sets.{Member}
use Rattle.spec_loading.specs.spec_linking.LinkedSets.{LinkedSet, wasm_of}
use Rattle.spec_loading.specs.Addresses.{sum_before, item_address}
use Rattle.spec_loading.specs.Members.{uses_loader}
use Rattle.merge_match.specs.Parts.{nowhere, number_of}
use Rattle.merge_match.specs.Joined.{own_address, function_address}
use Rattle.merge_index.specs.Numbering.{host_count, first_stub, first_phase, first_call, call_place, function_number}
use Rattle.merge_index.specs.Laws.{IsThere, FunctionsAreDistinct, GeneratedIsBeside, TypesAreDistinct, SegmentsAreDistinct, PlacesHaveNumbers}
use Rattle.merge_index.proofs.StubNumbers.{some_is, stub_of, stub_above, stub_within, stubs_apart}
use Rattle.merge_index.proofs.FunctionNumbers.{sum_within}

-- ---- items of members

module _ (size : Module → ℕ) where
  pub apart : (xs : List Member) (m k i j : ℕ) (x y : Member) → slice_get xs m ≡ Some x → slice_get xs k ≡ Some y
      → i < size x.wasm → j < size y.wasm → sum_before size xs m + i ≡ sum_before size xs k + j → (m ≡ k) × (i ≡ j)
  apart [] m k i j x y p q lt lu e = absurd cc
  apart (z ∷ xs) zero zero i j x y p q lt lu e = (refl, omega arith)
  apart (z ∷ xs) zero (suc k) i j x y p q lt lu e =
      let same : size z.wasm ≡ size x.wasm = (let w : z ≡ x = cc in ap (λ (v : Member). size v.wasm) w) in absurd (omega arith)
  apart (z ∷ xs) (suc m) zero i j x y p q lt lu e =
      let same : size z.wasm ≡ size y.wasm = (let w : z ≡ y = cc in ap (λ (v : Member). size v.wasm) w) in absurd (omega arith)
  apart (z ∷ xs) (suc m) (suc k) i j x y p q lt lu e = (let r = apart xs m k i j x y p q lt lu (omega arith) in (ap suc r.0, r.1))

  -- what an address of an item says
  record Item (L : LinkedSet) (start m i a : ℕ) : Type 0 where
    member : Member
    found : slice_get L.set.members m ≡ Some member
    within : i < size member.wasm
    place : a ≡ start + sum_before size L.set.members m + i

  item_of : (L : LinkedSet) (start m i a : ℕ)
      → (wasm_of L m >>= λ wasm. item_address (start + sum_before size L.set.members m) (size wasm) i) ≡ Some a → Item L start m i a
  item_of L start m i a = go (slice_get L.set.members m) refl
    where
      at : (x : Member) → slice_get L.set.members m ≡ Some x → (b : Bool) → nat_lt i (size x.wasm) ≡ b
          → (if b then Some (start + sum_before size L.set.members m + i) else None) ≡ Some a → Item L start m i a
      at x p true q e = record { member = x; found = p; within = grind (arith, nat_tests); place = sym (some_is _ _ e) }
      at x p false q e = absurd cc

      go : (o : Option Member) → slice_get L.set.members m ≡ o
          → ((o >>= λ x. Some x.wasm) >>= λ wasm. item_address (start + sum_before size L.set.members m) (size wasm) i) ≡ Some a → Item L start m i a
      go None p e = absurd cc
      go (Some x) p e = at x p (nat_lt i (size x.wasm)) refl e

  items_apart : (L : LinkedSet) (start m k i j a b : ℕ) → Item L start m i a → Item L start k j b → a ≡ b → (m ≡ k) × (i ≡ j)
  items_apart L start m k i j a b p q e =
      let here = p.place in
      let there = q.place in
      apart L.set.members m k i j p.member q.member p.found q.found p.within q.within (omega arith)

  -- the same, where addresses begin with the first
  first_of : (L : LinkedSet) (m i a : ℕ) → (wasm_of L m >>= λ wasm. item_address (sum_before size L.set.members m) (size wasm) i) ≡ Some a → Item L 0 m i a
  first_of L m i a e =
      let none : 0 + sum_before size L.set.members m ≡ sum_before size L.set.members m = omega arith in
      item_of L 0 m i a (ap (λ n. wasm_of L m >>= λ wasm. item_address n (size wasm) i) none ∙ e)

  pub plain_apart : (L : LinkedSet) (m k i j : ℕ)
      → IsThere (wasm_of L m >>= λ wasm. item_address (sum_before size L.set.members m) (size wasm) i)
      → IsThere (wasm_of L k >>= λ wasm. item_address (sum_before size L.set.members k) (size wasm) j)
      → number_of (wasm_of L m >>= λ wasm. item_address (sum_before size L.set.members m) (size wasm) i)
      ≡ number_of (wasm_of L k >>= λ wasm. item_address (sum_before size L.set.members k) (size wasm) j)
      → (m ≡ k) × (i ≡ j)
  plain_apart L m k i j p q e =
      items_apart L 0 m k i j p.0 q.0 (first_of L m i p.0 p.1) (first_of L k j q.0 q.1)
      (ap number_of (sym p.1) ∙ e ∙ ap number_of q.1)

pub types_are_distinct : TypesAreDistinct
types_are_distinct = plain_apart (λ x. length x.types)

pub segments_are_distinct : SegmentsAreDistinct
segments_are_distinct = (plain_apart (λ x. length x.elems), plain_apart (λ x. length x.datas))

by_place : (o p : Option ℕ) (a b : ℕ) → o ≡ Some a → p ≡ Some b → (number_of o ≡ number_of p) ↔ (a ≡ b)
by_place o p a b e q = ((λ same. ap number_of (sym e) ∙ same ∙ ap number_of q), (λ same. ap number_of e ∙ same ∙ ap number_of (sym q)))

pub places_have_numbers : PlacesHaveNumbers
places_have_numbers = ((λ L m k i j a b e q. by_place _ _ a b e q), (λ L m k i j a b e q. by_place _ _ a b e q))

-- ---- functions

abbrev codes_size : Module → ℕ
codes_size x = length x.codes

record OwnFunction (L : LinkedSet) (m f a : ℕ) : Type 0 where
  member : Member
  found : slice_get L.set.members m ≡ Some member
  own : imported_count member.wasm ≤ f
  item : Item codes_size L (host_count L) m (f - imported_count member.wasm) a

own_of : (L : LinkedSet) (m f a : ℕ) → function_address L (host_count L) m f ≡ Some a → OwnFunction L m f a
own_of L m f a = go (slice_get L.set.members m) refl
  where
    at : (x : Member) → slice_get L.set.members m ≡ Some x → (b : Bool) → nat_lt f (imported_count x.wasm) ≡ b
        → (if b then None else item_address (host_count L + sum_before codes_size L.set.members m) (codes_size x.wasm) (f - imported_count x.wasm)) ≡ Some a
        → OwnFunction L m f a
    at x p true q e = absurd cc
    at x p false q e = record {
      member = x;
      found = p;
      own = grind (arith, nat_tests);
      item = item_of codes_size L (host_count L) m (f - imported_count x.wasm) a
          (ap (λ (o : Option Member). (o >>= λ y. Some y.wasm) >>= λ wasm. item_address (host_count L + sum_before codes_size L.set.members m) (codes_size wasm) (f - imported_count x.wasm)) p ∙ e);
    }

    go : (o : Option Member) → slice_get L.set.members m ≡ o
        → ((o >>= λ x. Some x.wasm) >>= λ wasm. own_address L (host_count L) m wasm f) ≡ Some a → OwnFunction L m f a
    go None p e = absurd cc
    go (Some x) p e = at x p (nat_lt f (imported_count x.wasm)) refl e

own_below : (L : LinkedSet) (m f a : ℕ) → OwnFunction L m f a → (host_count L ≤ a) × (a < first_stub L)
own_below L m f a p =
    let place = p.item.place in
    let within = p.item.within in
    let room = sum_within codes_size L.set.members m p.item.member p.item.found in
    (omega arith, omega arith)

owns_apart : (L : LinkedSet) (m k f g a b : ℕ) → OwnFunction L m f a → OwnFunction L k g b → a ≡ b → (m ≡ k) × (f ≡ g)
owns_apart L m k f g a b p q e =
    let r = items_apart codes_size L (host_count L) m k (f - imported_count p.member.wasm) (g - imported_count q.member.wasm) a b p.item q.item e in
    let same : Some p.member ≡ Some q.member = sym p.found ∙ ap (slice_get L.set.members) r.0 ∙ q.found in
    let count : imported_count p.member.wasm ≡ imported_count q.member.wasm =
    (let w : p.member ≡ q.member = cc in ap (λ (v : Member). imported_count v.wasm) w) in
    let left = p.own in
    let right = q.own in
    let rest = r.1 in
    (r.0, omega arith)

-- ---- what is generated

abbrev place_call : ℕ → LoaderCall
place_call zero = Dlopen
place_call (suc zero) = Dlsym
place_call (suc (suc zero)) = Dlclose
place_call (suc (suc (suc n))) = Dlerror

placed_call : (which : LoaderCall) → place_call (call_place which) ≡ which
placed_call Dlopen = refl
placed_call Dlsym = refl
placed_call Dlclose = refl
placed_call Dlerror = refl

call_is : (L : LinkedSet) (which : LoaderCall) → uses_loader L ≡ true → function_number L (Loader which) ≡ first_call L + call_place which
call_is L which used = ap (λ b. if b then first_call L + call_place which else nowhere) used

pub generated_is_beside : GeneratedIsBeside
generated_is_beside L (Own m f) p =
    let below = own_below L m f p.0 (own_of L m f p.0 p.1) in
    let same = ap number_of p.1 in
    let high = below.1 in
    omega (arith, high, same)
generated_is_beside L (Host e) p = omega (arith, p)
generated_is_beside L (Stub m f) p =
    let within = stub_within L m f p.0 p.1 in
    let same = ap number_of p.1 in
    let high = within.1 in
    omega (arith, high, same)
generated_is_beside L (Loader which) p = (let same = call_is L which p in omega (arith, same))

-- ---- all functions

apart_from : (L : LinkedSet) (a b : ℕ) → a < first_phase L → first_call L ≤ b → a ≡ b → ⊥
apart_from L a b low high same = omega (arith, low, high, same)

pub functions_are_distinct : FunctionsAreDistinct
functions_are_distinct L (Own m f) (Own k g) p q e =
    let r = owns_apart L m k f g p.0 q.0 (own_of L m f p.0 p.1) (own_of L k g q.0 q.1) (ap number_of (sym p.1) ∙ e ∙ ap number_of q.1) in
    ap₂ (λ a b. Own a b) r.0 r.1
functions_are_distinct L (Own m f) (Host d) p q e =
    let here = own_below L m f p.0 (own_of L m f p.0 p.1) in
    let same : p.0 ≡ d = ap number_of (sym p.1) ∙ e in
    let low = here.0 in
    absurd (omega arith)
functions_are_distinct L (Own m f) (Stub k g) p q e =
    let here = own_below L m f p.0 (own_of L m f p.0 p.1) in
    let there = stub_above L k g q.0 (stub_of L k g q.0 q.1) in
    let same : p.0 ≡ q.0 = ap number_of (sym p.1) ∙ e ∙ ap number_of q.1 in
    let high = here.1 in
    absurd (omega arith)
functions_are_distinct L (Host c) (Own k g) p q e =
    let there = own_below L k g q.0 (own_of L k g q.0 q.1) in
    let same : c ≡ q.0 = e ∙ ap number_of q.1 in
    let low = there.0 in
    absurd (omega arith)
functions_are_distinct L (Host c) (Host d) p q e = ap Host e
functions_are_distinct L (Host c) (Stub k g) p q e =
    let there = stub_above L k g q.0 (stub_of L k g q.0 q.1) in
    let same : c ≡ q.0 = e ∙ ap number_of q.1 in
    absurd (omega arith)
functions_are_distinct L (Stub m f) (Own k g) p q e =
    let here = stub_above L m f p.0 (stub_of L m f p.0 p.1) in
    let there = own_below L k g q.0 (own_of L k g q.0 q.1) in
    let same : p.0 ≡ q.0 = ap number_of (sym p.1) ∙ e ∙ ap number_of q.1 in
    let high = there.1 in
    absurd (omega arith)
functions_are_distinct L (Stub m f) (Host d) p q e =
    let here = stub_above L m f p.0 (stub_of L m f p.0 p.1) in
    let same : p.0 ≡ d = ap number_of (sym p.1) ∙ e in
    absurd (omega arith)
functions_are_distinct L (Stub m f) (Stub k g) p q e =
    let r = stubs_apart L m k f g p.0 q.0 (stub_of L m f p.0 p.1) (stub_of L k g q.0 q.1) (ap number_of (sym p.1) ∙ e ∙ ap number_of q.1) in
    ap₂ (λ a b. Stub a b) r.0 r.1
functions_are_distinct L (Loader w) (Loader v) p h e =
    let place : call_place w ≡ call_place v = (let same = sym (call_is L w p) ∙ e ∙ call_is L v h in omega (arith, same)) in
    ap Loader (sym (placed_call w) ∙ ap place_call place ∙ placed_call v)
functions_are_distinct L (Loader w) (Own m f) p h e = absurd (apart_from L _ _ (generated_is_beside L (Own m f) h) (generated_is_beside L (Loader w) p) (sym e))
functions_are_distinct L (Loader w) (Host d) p h e = absurd (apart_from L _ _ (generated_is_beside L (Host d) h) (generated_is_beside L (Loader w) p) (sym e))
functions_are_distinct L (Loader w) (Stub m f) p h e = absurd (apart_from L _ _ (generated_is_beside L (Stub m f) h) (generated_is_beside L (Loader w) p) (sym e))
functions_are_distinct L (Own m f) (Loader w) p h e = absurd (apart_from L _ _ (generated_is_beside L (Own m f) p) (generated_is_beside L (Loader w) h) e)
functions_are_distinct L (Host c) (Loader w) p h e = absurd (apart_from L _ _ (generated_is_beside L (Host c) p) (generated_is_beside L (Loader w) h) e)
functions_are_distinct L (Stub m f) (Loader w) p h e = absurd (apart_from L _ _ (generated_is_beside L (Stub m f) p) (generated_is_beside L (Loader w) h) e)
