-- Tests of all elements of a list, and what a list is mapped to.
use Rattle.std.proofs.Common.{◌≡◌, ℕ, ◌<◌, ◌≤◌, Bool, true, false, List, ◌++◌, length, get_or, map, drop, append-nil, refl, sym, ap, ◌∙◌}
use Rattle.std.proofs.Math.ListN.{drop_of_length-le}
use Rattle.std.specs.List.{list_all}
use Rattle.std.proofs.lemmas.List.Folds.{list_all_at}

-- a test of all elements holds of each
pub all_at : {A : Type 0} (p : A → Bool) (xs : List A) (i : ℕ) (x : A) → i < length xs → x ≡ get_or xs i x → list_all p xs ≡ true → p x ≡ true
all_at p xs i x lt is all = go (p x) refl
  where
    go : (b : Bool) → p x ≡ b → p x ≡ true
    go true e = e
    go false e = absurd (let h = list_all_at p xs i x lt (rw (← is) e) in cc)

-- all that a list is mapped to is there
pub all_mapped : {A B : Type 0} (f : A → B) (all : List B) (xs : List A) (i : ℕ) → length xs ≤ i → all ++ map f (drop i xs) ≡ map f xs → all ≡ map f xs
all_mapped f all xs i past h = sym (append-nil all) ∙ ap (λ l. all ++ map f l) (sym (drop_of_length-le xs past)) ∙ h
