-- Lists at a place, and stretches that are put onto them.
use Rattle.std.proofs.Common.{◌≡◌, ◌+◌, ◌≤◌, List, [], ◌∷◌, ◌++◌, length, take, drop, slice_get, slice_set, Some, refl, ap, append_assoc, arith}
use Rattle.std.proofs.lemmas.List.{length-append, length-take, length-drop}
use Rattle.snap_module.specs.Held.{Stretch, put}

pub at_end_of : {A : Type 0} (xs : List A) (x : A) (ys : List A) → slice_get (xs ++ x ∷ ys) (length xs) ≡ Some x
at_end_of [] x ys = refl
at_end_of (y ∷ xs) x ys = at_end_of xs x ys

pub set_end_of : {A : Type 0} (xs : List A) (x : A) (ys : List A) (v : A) → slice_set (xs ++ x ∷ ys) (length xs) v ≡ xs ++ v ∷ ys
set_end_of [] x ys v = refl
set_end_of (y ∷ xs) x ys v = ap (λ l. y ∷ l) (set_end_of xs x ys v)

pub one_more : {A : Type 0} (xs : List A) (x : A) (ys : List A) → (xs ++ x ∷ []) ++ ys ≡ xs ++ x ∷ ys
one_more xs x ys = append_assoc xs (x ∷ []) ys

pub put_length : {A : Type 0} (xs : List A) (s : Stretch A) → s.at + length s.items ≤ length xs → length (put xs s) ≡ length xs
put_length xs s le =
    let outer = length-append (take s.at xs) (s.items ++ drop (s.at + length s.items) xs) in
    let inner = length-append s.items (drop (s.at + length s.items) xs) in
    omega (arith, outer, inner, length-take s.at xs, length-drop (s.at + length s.items) xs)

-- the items of stretches, and as many empty lists
abbrev pub items : {A : Type 0} → Stretch A → List A
items s = s.items

abbrev pub emptied : {A : Type 0} → Stretch A → List A
emptied s = []
