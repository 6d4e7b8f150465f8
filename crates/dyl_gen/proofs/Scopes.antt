-- The member that another one needs first is in its scope.
use Rattle.std.proofs.Common.{◌≡◌, ℕ, zero, suc, ◌+◌, ◌<◌, Bool, true, false, cond, not, nat_eq, List, [], ◌∷◌, ◌++◌, length, refl, ap, ◌∙◌, arith}
use Rattle.std.specs.Prelude.{◌||◌, slice_get}
use Rattle.std.specs.List.{filter}
use Rattle.std.proofs.lemmas.Bool.Decides.{nat_tests}
use Rattle.std.proofs.lemmas.List.Folds.{list_any-append}
use Rattle.std.proofs.lemmas.Map.Views.{any-filter_same}
use Rattle.spec_linking.specs.Sets.{ClosedSet}
use Rattle.spec_linking.specs.Orders.{is_among, needs, needed_by, with_number, with_numbers, breadth_from, closure, scope}

or_true : (b : Bool) → (b || true) ≡ true
or_true true = refl
or_true false = refl

same_number : (n : ℕ) → nat_eq n n ≡ true
same_number n = grind (arith, nat_tests)

-- ---- numbers that are known stay so

last : (j : ℕ) (known : List ℕ) → is_among j (known ++ j ∷ []) ≡ true
last j known = list_any-append (λ x. nat_eq x j) known (j ∷ []) ∙ ap (λ b. is_among j known || (b || false)) (same_number j) ∙ or_true (is_among j known)

added : (j : ℕ) (known : List ℕ) → is_among j (with_number known j) ≡ true
added j known = by (is_among j known) refl
  where
    by : (b : Bool) → is_among j known ≡ b → is_among j (cond b known (known ++ j ∷ [])) ≡ true
    by true e = e
    by false e = last j known

kept : (j x : ℕ) (known : List ℕ) → is_among j known ≡ true → is_among j (with_number known x) ≡ true
kept j x known e = by (is_among x known)
  where
    by : (b : Bool) → is_among j (cond b known (known ++ x ∷ [])) ≡ true
    by true = e
    by false = list_any-append (λ y. nat_eq y j) known (x ∷ []) ∙ ap (λ b. b || is_among j (x ∷ [])) e

all_kept : (j : ℕ) (xs known : List ℕ) → is_among j known ≡ true → is_among j (with_numbers known xs) ≡ true
all_kept j [] known e = e
all_kept j (x ∷ xs) known e = all_kept j xs (with_number known x) (kept j x known e)

module _ (S : ClosedSet) (m j : ℕ) where
  breadth_kept : (turns k : ℕ) (known : List ℕ) → is_among j known ≡ true → is_among j (breadth_from S.members turns k known) ≡ true
  breadth_kept zero k known e = e
  breadth_kept (suc turns) k known e =
      breadth_kept turns (k + 1) (with_numbers known (needed_by S.members (slice_get known k))) (all_kept j (needed_by S.members (slice_get known k)) known e)

  reached : (turns : ℕ) (others : List ℕ) → 0 < turns → needs S m ≡ j ∷ others → is_among j (breadth_from S.members turns 0 (m ∷ [])) ≡ true
  reached zero others some e = absurd (omega arith)
  reached (suc turns) others some e =
      let here : is_among j (with_numbers (m ∷ []) (needs S m)) ≡ true = ap (λ ns. is_among j (with_numbers (m ∷ []) ns)) e ∙ all_kept j others (with_number (m ∷ []) j) (added j (m ∷ [])) in
      breadth_kept turns 1 (with_numbers (m ∷ []) (needs S m)) here

  -- ---- in scope

  passes : is_among j S.startup ≡ false → (k : ℕ) → nat_eq k j ≡ true → not (is_among k S.startup) ≡ true
  passes out k e = (let same : k ≡ j = grind (arith, nat_tests) in ap (λ i. not (is_among i S.startup)) same ∙ ap not out)

  pub first_in_scope : (others : List ℕ) → 0 < length S.members → needs S m ≡ j ∷ others → is_among j (scope S m) ≡ true
  first_in_scope others some e = list_any-append (λ x. nat_eq x j) S.startup (filter (λ k. not (is_among k S.startup)) (closure S m)) ∙ by (is_among j S.startup) refl
    where
      later : is_among j S.startup ≡ false → is_among j (filter (λ k. not (is_among k S.startup)) (closure S m)) ≡ true
      later out =
          any-filter_same (λ x. nat_eq x j) (λ k. not (is_among k S.startup)) true (passes out) (closure S m) ∙ reached (length S.members) others some e

      by : (b : Bool) → is_among j S.startup ≡ b → (b || is_among j (filter (λ k. not (is_among k S.startup)) (closure S m))) ≡ true
      by true out = refl
      by false out = later out
