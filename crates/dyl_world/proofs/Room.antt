-- Promoted members are few, since they are distinct members of the set.
use Rattle.std.proofs.Common.{◌≡◌, ℕ, ◌+◌, ◌<◌, Bool, true, false, List, [], ◌∷◌, ◌++◌, length, take, nat_eq, refl, ap, ap₂, sym, ◌∙◌, subst, arith, length-append}
use Rattle.std.specs.Prelude.{slice_set}
use Rattle.std.specs.List.{All, IsDistinct, list_any}
use Rattle.std.proofs.lemmas.Bool.Decides.{nat_tests}
use Rattle.std.proofs.lemmas.List.{length-set, length-take-le, take_more_set}
use Rattle.std.proofs.lemmas.List.Elements.{All-nil, All-push, All-head, All-tail}
use Rattle.std.proofs.lemmas.Map.Steps.{length-le_from_distinct_below}
use Rattle.spec_loading.specs.spec_linking.Orders.{is_among, with_number}
use Rattle.spec_loading.proofs.InsideSets.{distinct_last}
use Rattle.dyl_world.specs.Promoted.{PromotedMembers, ArePromoted}

-- what is seen of them
abbrev pub seen : List ℕ → ℕ → PromotedMembers
seen members count = record { list = take count members; room = length members }

pub none_promoted : (members : List ℕ) → ArePromoted members 0
unfolding IsDistinct
none_promoted members = record { within = omega arith; inside = All-nil (λ k. k < length members); apart = tt }

-- what is so of all is so of each that is found among them
found : (P : ℕ → Type 0) (xs : List ℕ) (q : ℕ) → All P xs → list_any (nat_eq q) xs ≡ true → P q
found P [] q all e = absurd cc
found P (x ∷ xs) q all e = by (nat_eq q x) refl (found P xs q (All-tail P x xs all))
  where
    by : (b : Bool) → nat_eq q x ≡ b → (list_any (nat_eq q) xs ≡ true → P q) → P q
    by true h rest = let same : x ≡ q = grind (arith, nat_tests) in subst P same (All-head P x xs all)
    by false h rest = rest (rw h at e)

pub not_among : (m : ℕ) (list known : List ℕ) (b : Bool) → list ≡ known → b ≡ is_among m list → b ≡ false → is_among m known ≡ false
not_among m list known b same test fails = ap (is_among m) (sym same) ∙ sym test ∙ fails

module _ (members : List ℕ) (count m : ℕ) (h : ArePromoted members count) (v : PromotedMembers) (is : seen members count ≡ v) (below : m < v.room) (new : is_among m v.list ≡ false) where
  inside : m < length members
  inside = subst (λ (x : PromotedMembers). m < x.room) (sym is) below

  abbrev more : List ℕ
  more = take count members ++ m ∷ []

  more_inside : All (λ k. k < length members) more
  more_inside = All-push (λ k. k < length members) (take count members) m h.inside inside

  new_here : is_among m (take count members) ≡ false
  new_here = ap (λ (x : PromotedMembers). is_among m x.list) is ∙ new

  -- so there is room for it
  pub has_room : count < length members
  has_room =
      let apart = distinct_last (take count members) m h.apart new_here in
      let most = length-le_from_distinct_below more (length members) apart (λ q e. found (λ k. k < length members) more q more_inside e) in
      let many : length more ≡ count + 1 = length-append (take count members) (m ∷ []) ∙ ap (λ n. n + 1) (length-take-le count members h.within) in
      omega arith

  set_is : take (count + 1) (slice_set members count m) ≡ more
  set_is = take_more_set members count m has_room

  pub one_more : ArePromoted (slice_set members count m) (count + 1)
  one_more = record {
    within = let same = length-set members count m in let room = has_room in omega arith;
    inside = rw (set_is, length-set members count m) more_inside;
    apart = rw set_is (distinct_last (take count members) m h.apart new_here);
  }

  pub one_more_is : seen (slice_set members count m) (count + 1) ≡ record v { list = with_number v.list m }
  one_more_is =
      ap₂ (λ (l : List ℕ) (n : ℕ). record { list = l; room = n }) (set_is ∙ rw new_here refl) (length-set members count m)
      ∙ ap (λ (x : PromotedMembers). record x { list = with_number x.list m }) is
