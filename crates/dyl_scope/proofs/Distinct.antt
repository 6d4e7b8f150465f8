-- Numbers that are added, each once.
use Rattle.std.proofs.Common.{◌≡◌, ℕ, Bool, true, false, List, [], ◌∷◌, ◌++◌, refl, ap, sym, ◌∙◌, cond, nat_eq, arith}
use Rattle.std.specs.Prelude.{◌||◌}
use Rattle.std.proofs.Math.Bool.{or-true}
use Rattle.std.proofs.lemmas.Bool.Decides.{nat_tests}
use Rattle.std.proofs.lemmas.List.Sums.{fold-append}
use Rattle.spec_linking.specs.Orders.{is_among, with_number, with_numbers}

pub among_append : (n : ℕ) (xs ys : List ℕ) → is_among n (xs ++ ys) ≡ (is_among n xs || is_among n ys)
among_append n [] ys = refl
among_append n (x ∷ xs) ys = by (nat_eq x n) refl (among_append n xs ys)
  where
    by : (b : Bool) → nat_eq x n ≡ b → is_among n (xs ++ ys) ≡ (is_among n xs || is_among n ys) → is_among n ((x ∷ xs) ++ ys) ≡ (is_among n (x ∷ xs) || is_among n ys)
    by true p rest = rw p refl
    by false p rest = rw p rest

pub same_number : (n : ℕ) → nat_eq n n ≡ true
same_number n = grind (arith, nat_tests)

-- a number that is added is there
pub added : (known : List ℕ) (n : ℕ) → is_among n (with_number known n) ≡ true
added known n = by (is_among n known) refl
  where
    by : (b : Bool) → is_among n known ≡ b → is_among n (with_number known n) ≡ true
    by true p = rw p p
    by false p = rw p (among_append n known (n ∷ []) ∙ ap (λ b. is_among n known || (b || false)) (same_number n) ∙ or-true (is_among n known))

-- those that were there stay
pub kept : (known : List ℕ) (n m : ℕ) → is_among m known ≡ true → is_among m (with_number known n) ≡ true
kept known n m there = by (is_among n known) refl
  where
    by : (b : Bool) → is_among n known ≡ b → is_among m (with_number known n) ≡ true
    by true p = rw p there
    by false p = rw p (among_append m known (n ∷ []) ∙ ap (λ b. b || is_among m (n ∷ [])) there)

pub all_kept : (ns known : List ℕ) (m : ℕ) → is_among m known ≡ true → is_among m (with_numbers known ns) ≡ true
all_kept [] known m there = there
all_kept (n ∷ ns) known m there = all_kept ns (with_number known n) m (kept known n m there)

-- all that are added are there
pub all_added : (ns known : List ℕ) (m : ℕ) → is_among m ns ≡ true → is_among m (with_numbers known ns) ≡ true
all_added [] known m there = absurd cc
all_added (n ∷ ns) known m there = by (nat_eq n m) refl (all_added ns (with_number known n) m)
  where
    by : (b : Bool) → nat_eq n m ≡ b → (is_among m ns ≡ true → is_among m (with_numbers (with_number known n) ns) ≡ true) → is_among m (with_numbers (with_number known n) ns) ≡ true
    by true p later =
        let same : n ≡ m = grind (arith, nat_tests) in
        let here : is_among m (with_number known n) ≡ true = ap (λ k. is_among k (with_number known n)) (sym same) ∙ added known n in
        all_kept ns (with_number known n) m here
    by false p later = later (rw p at there)

one_more : (known a : List ℕ) (m : ℕ) → with_numbers known (with_number a m) ≡ with_number (with_numbers known a) m
one_more known a m = by (is_among m a) refl
  where
    by : (b : Bool) → is_among m a ≡ b → with_numbers known (with_number a m) ≡ with_number (with_numbers known a) m
    by true p = let there : is_among m (with_numbers known a) ≡ true = all_added a known m p in rw (p, there) refl
    by false p = ap (with_numbers known) (ap (λ b. cond b a (a ++ m ∷ [])) p) ∙ fold-append with_number known a (m ∷ [])

once_from : (ms known a : List ℕ) → with_numbers known (with_numbers a ms) ≡ with_numbers (with_numbers known a) ms
once_from [] known a = refl
once_from (m ∷ ms) known a = once_from ms known (with_number a m) ∙ ap (λ ks. with_numbers ks ms) (one_more known a m)

-- to add each of some numbers once is to add them all
pub once : (ms known : List ℕ) → with_numbers known (with_numbers [] ms) ≡ with_numbers known ms
once ms known = once_from ms known []

-- a number that isn't there comes last
pub with_new : (numbers : List ℕ) (n : ℕ) → is_among n numbers ≡ false → with_number numbers n ≡ numbers ++ n ∷ []
with_new numbers n new = ap (λ b. cond b numbers (numbers ++ n ∷ [])) new
