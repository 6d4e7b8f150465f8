-- Of the promoted members that define a name, the one with the least place is the first.
use Rattle.std.proofs.Common.{◌≡◌, ℕ, zero, suc, ◌+◌, ◌-◌, ◌<◌, ◌≤◌, Bool, true, false, List, [], ◌∷◌, nat_eq, Option, Some, None, cond, refl, sym, ap, ◌∙◌, subst, arith, ⊎_elim}
use Rattle.std.specs.Prelude.{unwrap_or}
use Rattle.std.specs.List.{All, filter, position_from, range_with_len}
use Rattle.std.proofs.lemmas.Bool.Decides.{nat_tests}
use Rattle.std.proofs.lemmas.List.Elements.{All-head, All-tail}
use Rattle.spec_loading.specs.spec_linking.Definitions.{Undefined, member_definition, searched}
use Rattle.spec_loading.specs.spec_linking.Orders.{is_among}
use Rattle.spec_loading.specs.spec_linking.LinkedSets.{LinkedSet}
use Rattle.spec_loading.specs.spec_linking.Slots.{cell_number}
use Rattle.spec_loading.specs.spec_linking.Links.{Links}
use Rattle.merge_start.specs.Started.{place_of}
use Rattle.merge_dl.specs.Words.{found_value, last_place}
use Rattle.merge_dl.specs.Called.{defined_number}
use Rattle.merge_dl.proofs.Defined.{definition_numbered}
use Rattle.merge_dl.proofs.Tries.{first_numbered}

same_number : (n : ℕ) → nat_eq n n ≡ true
same_number n = grind (arith, nat_tests)

at_least : (k n i : ℕ) (ps : List ℕ) → position_from (λ y. nat_eq y k) n ps ≡ Some i → n ≤ i
at_least k n i [] e = absurd cc
at_least k n i (p ∷ ps) e = go (nat_eq p k) e (at_least k (n + 1) i ps)
  where
    go : (b : Bool) → cond b (Some n) (position_from (λ y. nat_eq y k) (n + 1) ps) ≡ Some i → (position_from (λ y. nat_eq y k) (n + 1) ps ≡ Some i → n + 1 ≤ i) → n ≤ i
    go true h later = (let same : n ≡ i = cc in omega arith)
    go false h later = (let le = later h in omega arith)

placed_at : (k j : ℕ) (ps : List ℕ) → place_of ps k ≡ suc j → position_from (λ y. nat_eq y k) 1 ps ≡ Some (suc j)
placed_at k j ps e = go (position_from (λ y. nat_eq y k) 1 ps) refl e
  where
    go : (o : Option ℕ) → position_from (λ y. nat_eq y k) 1 ps ≡ o → unwrap_or o 0 ≡ suc j → position_from (λ y. nat_eq y k) 1 ps ≡ Some (suc j)
    go None q h = absurd cc
    go (Some i) q h = q ∙ ap Some h

abbrev position : List ℕ → ℕ → ℕ → Option ℕ
position ps n q = position_from (λ y. nat_eq y q) n ps

module _ (L : LinkedSet) (links : Links L) (s : List ℕ) where
  undefined_at : (p : ℕ) → defined_number L p s ≡ None → member_definition L.set p s ≡ Undefined
  undefined_at p none = ⊎_elim (λ e. e) (λ t. absurd (let some = t.1 in cc)) (definition_numbered L links p s)

  -- none of them defines it
  pub none_found : (ps : List ℕ) → ((q : ℕ) → is_among q ps ≡ true → defined_number L q s ≡ None) → cell_number L s (searched L.set ps s) ≡ None
  none_found [] none = refl
  none_found (p ∷ ps) none =
      let here : defined_number L p s ≡ None = none p (rw (same_number p) refl) in
      let undefined = undefined_at p here in
      rw undefined (none_found ps (λ q e. none q (later q e)))
    where
      later : (q : ℕ) → is_among q ps ≡ true → is_among q (p ∷ ps) ≡ true
      later q e = go (nat_eq p q) refl
        where
          go : (b : Bool) → nat_eq p q ≡ b → is_among q (p ∷ ps) ≡ true
          go true h = rw h refl
          go false h = rw h e

  -- one that defines it is before all others that do
  first_found : (ps : List ℕ) (n k w b : ℕ) → position_from (λ y. nat_eq y k) n ps ≡ Some (n + b) → defined_number L k s ≡ Some w
      → ((q j u : ℕ) → position_from (λ y. nat_eq y q) n ps ≡ Some (n + j) → defined_number L q s ≡ Some u → b ≤ j)
      → cell_number L s (searched L.set ps s) ≡ Some w
  first_found [] n k w b at tells least = absurd cc
  first_found (p ∷ ps) n k w b at tells least = go (nat_eq p k) refl (λ c e l. first_found ps (n + 1) k w c e tells l)
    where
      here : position_from (λ y. nat_eq y p) n (p ∷ ps) ≡ Some (n + 0)
      here = rw (same_number p) (ap Some (omega arith))

      go : (z : Bool) → nat_eq p k ≡ z
          → ((c : ℕ) → position ps (n + 1) k ≡ Some (n + 1 + c) → ((q j u : ℕ) → position ps (n + 1) q ≡ Some (n + 1 + j) → defined_number L q s ≡ Some u → c ≤ j) → cell_number L s (searched L.set ps s) ≡ Some w)
          → cell_number L s (searched L.set (p ∷ ps) s) ≡ Some w
      go true q later =
          let is : k ≡ p = grind (arith, nat_tests) in
          first_numbered L s (member_definition L.set p s) (searched L.set ps s) w (subst (λ i. defined_number L i s ≡ Some w) is tells)
      go false q later = ⊎_elim undefined (λ t. absurd (some t.0 t.1)) (definition_numbered L links p s)
        where
          behind : position ps (n + 1) k ≡ Some (n + b)
          behind = rw q at at

          past : n + 1 ≤ n + b
          past = at_least k (n + 1) (n + b) ps behind

          some : (u : ℕ) → defined_number L p s ≡ Some u → ⊥
          some u e = (let le = least p 0 u here e in omega (arith, le, past))

          undefined : member_definition L.set p s ≡ Undefined → cell_number L s (searched L.set (p ∷ ps) s) ≡ Some w
          undefined e =
              let moved : position ps (n + 1) k ≡ Some (n + 1 + (b - 1)) = behind ∙ ap Some (omega (arith, past)) in
              let less : (i j u : ℕ) → position ps (n + 1) i ≡ Some (n + 1 + j) → defined_number L i s ≡ Some u → b - 1 ≤ j =
              λ i j u h t. by i j u h t (nat_eq p i) refl in
              rw e (later (b - 1) moved less)
            where
              by : (i j u : ℕ) → position ps (n + 1) i ≡ Some (n + 1 + j) → defined_number L i s ≡ Some u → (z : Bool) → nat_eq p i ≡ z → b - 1 ≤ j
              by i j u h t true r =
                  let is : i ≡ p = grind (arith, nat_tests) in
                  let there : defined_number L p s ≡ Some u = subst (λ y. defined_number L y s ≡ Some u) is t in
                  let none : defined_number L p s ≡ None = ap (cell_number L s) e in
                  absurd cc
              by i j u h t false r =
                  let at_i : position_from (λ y. nat_eq y i) n (p ∷ ps) ≡ Some (n + (1 + j)) = rw r (h ∙ ap Some (omega arith)) in
                  let le = least i (1 + j) u at_i t in
                  omega (arith, le)

  -- ---- the best so far

  -- it has no place before this, or no number
  abbrev pub IsLow : List ℕ → ℕ → ℕ → Type 0
  IsLow ps b k = (j u : ℕ) → place_of ps k ≡ suc j → defined_number L k s ≡ Some u → b ≤ j

  -- nothing was found, or the number of a member of this place, counted from 0
  pub data IsBest (ps : List ℕ) (b w : ℕ) : Type 0 where
    nothing : b ≡ last_place → w ≡ 0 → IsBest ps b w
    best : (k u : ℕ) → place_of ps k ≡ suc b → defined_number L k s ≡ Some u → w ≡ found_value u → IsBest ps b w

  pub best_is_first : (ps : List ℕ) (b k u : ℕ) → place_of ps k ≡ suc b → defined_number L k s ≡ Some u → ((q : ℕ) → is_among q ps ≡ true → IsLow ps b q)
      → cell_number L s (searched L.set ps s) ≡ Some u
  best_is_first ps b k u at tells low =
      first_found ps 1 k u b (placed_at k b ps at ∙ ap Some (omega arith)) tells
      (λ q j v h t. low q (among q j ps 1 h) j v (placed q j h) t)
    where
      among : (q j : ℕ) (qs : List ℕ) (n : ℕ) → position_from (λ y. nat_eq y q) n qs ≡ Some (n + j) → is_among q qs ≡ true
      among q j qs n e = some qs n (n + j) e
        where
          some : (qs : List ℕ) (n i : ℕ) → position_from (λ y. nat_eq y q) n qs ≡ Some i → is_among q qs ≡ true
          some [] n i e = absurd cc
          some (r ∷ rs) n i e = go (nat_eq r q) refl (some rs (n + 1) i)
            where
              go : (z : Bool) → nat_eq r q ≡ z → (position_from (λ y. nat_eq y q) (n + 1) rs ≡ Some i → is_among q rs ≡ true) → is_among q (r ∷ rs) ≡ true
              go true h later = rw h refl
              go false h later = rw h (later (rw h at e))

      placed : (q j : ℕ) → position_from (λ y. nat_eq y q) 1 ps ≡ Some (1 + j) → place_of ps q ≡ suc j
      placed q j e = ap (λ (o : Option ℕ). unwrap_or o 0) e ∙ omega arith

-- what is so of the numbers of a range that a test keeps
pub kept_in_range : (P : ℕ → Type 0) (test : ℕ → Bool) (start count : ℕ) → All P (filter test (range_with_len start count)) → (k : ℕ) → start ≤ k
    → k < start + count → test k ≡ true → P k
kept_in_range P test start zero all k le lt kept = absurd (omega (arith, le, lt))
kept_in_range P test start (suc count) all k le lt kept =
    go (nat_eq start k) refl (test start) refl (λ h more. kept_in_range P test (start + 1) count h k more (omega (arith, lt)) kept)
  where
    go : (y : Bool) → nat_eq start k ≡ y → (z : Bool) → test start ≡ z → (All P (filter test (range_with_len (start + 1) count)) → start + 1 ≤ k → P k) → P k
    go true e z q later =
        let same : start ≡ k = grind (arith, nat_tests) in
        let kept_here : test start ≡ true = subst (λ i. test i ≡ true) (sym same) kept in
        let there : All P (start ∷ filter test (range_with_len (start + 1) count)) = rw kept_here at all in
        subst P same (All-head P start (filter test (range_with_len (start + 1) count)) there)
    go false e true q later =
        let there : All P (start ∷ filter test (range_with_len (start + 1) count)) = rw q at all in
        let other : start ≡ k → ⊥ = λ h. (let is : nat_eq start k ≡ true = grind (arith, nat_tests) in cc) in
        later (All-tail P start (filter test (range_with_len (start + 1) count)) there) (grind (arith, nat_tests))
    go false e false q later =
        let there : All P (filter test (range_with_len (start + 1) count)) = rw q at all in
        later there (grind (arith, nat_tests))
