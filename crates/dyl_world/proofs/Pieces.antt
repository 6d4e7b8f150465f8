-- A string that is read piece by piece.
use Rattle.std.proofs.Common.{◌≡◌, ℕ, ◌+◌, ◌-◌, ◌≤◌, ◌<◌, Bool, true, false, List, [], ◌∷◌, ◌++◌, length, take, drop, map, Option, Some, None, nat_eq, not, refl, ap, sym, ◌∙◌, subst, arith}
use Rattle.std.proofs.lemmas.List.{map-append, take-append-drop, take_all, take-take, drop-drop, drop-take, length-drop, length-take}
use Rattle.std.proofs.Math.Nat.{min-le_right}
use Rattle.std.proofs.lemmas.Slice.Eq.{bytes_eq-Decides}
use Rattle.std.proofs.Math.Seq.{take-add}
use Rattle.std.specs.Str.{bytes_eq}
use Rattle.spec_loading.specs.spec_runtime.Numerics.{W32}
use Rattle.spec_loading.specs.spec_execution.Values.{low}
use Rattle.spec_loading.specs.LoaderAnswers.{before_zero}

-- ---- the first zero byte of a list in two parts

none_after : (x : ℕ) (xs : List ℕ) → before_zero (x ∷ xs) ≡ None → (nat_eq x 0 ≡ false) × (before_zero xs ≡ None)
none_after x xs e = by (nat_eq x 0) refl (before_zero xs) refl
  where
    by : (b : Bool) → nat_eq x 0 ≡ b → (o : Option (List ℕ)) → before_zero xs ≡ o → (nat_eq x 0 ≡ false) × (before_zero xs ≡ None)
    by true p o q = absurd (let h = rw p at e in cc)
    by false p None q = (p, q)
    by false p (Some r) q = absurd (let h = rw (p, q) at e in cc)

none_in_both : (xs ys : List ℕ) → before_zero xs ≡ None → before_zero ys ≡ None → before_zero (xs ++ ys) ≡ None
none_in_both [] ys first second = second
none_in_both (x ∷ xs) ys first second = (let n = none_after x xs first in rw (n.0, none_in_both xs ys n.1 second) refl)

after_none : (xs ys s : List ℕ) → before_zero xs ≡ None → before_zero ys ≡ Some s → before_zero (xs ++ ys) ≡ Some (xs ++ s)
after_none [] ys s first second = second
after_none (x ∷ xs) ys s first second = (let n = none_after x xs first in rw (n.0, after_none xs ys s n.1 second) refl)

-- the bytes before it stand first, and it comes after them, whatever follows
pub record Ends (xs s : List ℕ) : Type 0 where
  pub part : s ≡ take (length s) xs
  pub inside : length s < length xs
  pub more : (ys : List ℕ) → before_zero (xs ++ ys) ≡ Some s

pub ends : (xs s : List ℕ) → before_zero xs ≡ Some s → Ends xs s
ends [] s e = absurd cc
ends (x ∷ xs) s e = by (nat_eq x 0) refl (before_zero xs) refl (ends xs)
  where
    by : (b : Bool) → nat_eq x 0 ≡ b → (o : Option (List ℕ)) → before_zero xs ≡ o → ((r : List ℕ) → before_zero xs ≡ Some r → Ends xs r) → Ends (x ∷ xs) s
    by true p o q rest =
        let empty : s ≡ [] = (let h = rw p at e in cc) in
        rw empty (record { part = refl; inside = omega arith; more = λ ys. rw p refl })
    by false p None q rest = absurd (let h = rw (p, q) at e in cc)
    by false p (Some r) q rest =
        let is : s ≡ x ∷ r = (let h = rw (p, q) at e in cc) in
        let end = rest r q in
        rw is (record { part = ap (λ (t : List ℕ). x ∷ t) end.part; inside = (let lt = end.inside in omega arith); more = λ ys. rw (p, end.more ys) refl })

-- ---- the string at an address, of pieces of the memory from there on

-- a piece of a memory is one of what stands from an earlier address on, and ends inside
pub piece_here : (memory piece : List ℕ) (at place : ℕ) → at ≤ place → piece ≡ take (length piece) (drop place memory) → piece ≡ take (length piece) (drop (place - at) (drop at memory))
piece_here memory piece at place before is =
    let sum : at + (place - at) ≡ place = omega arith in
    is ∙ ap (λ k. take (length piece) (drop k memory)) (sym sum) ∙ ap (take (length piece)) (sym (drop-drop (place - at) at memory))

pub piece_fits : (memory piece : List ℕ) (place : ℕ) → piece ≡ take (length piece) (drop place memory) → length piece ≤ length memory - place
piece_fits memory piece place is =
    let size = ap length is ∙ length-take (length piece) (drop place memory) in
    let few = min-le_right (length piece) (length (drop place memory)) in
    let left = length-drop place memory in
    omega arith

-- bytes as code loads them, of which none is zero
abbrev pub IsPlain : List ℕ → Type 0
IsPlain xs = (map (low W32) xs ≡ xs) × (before_zero xs ≡ None)

module _ (xs : List ℕ) (n : ℕ) (plain : IsPlain (take n xs)) where
  pub all_plain : length xs ≤ n → before_zero (map (low W32) xs) ≡ None
  all_plain all =
      let whole : take n xs ≡ xs = take_all n xs all in
      let P : List ℕ → Type 0 = λ ys. IsPlain ys in
      let is = subst P whole plain in
      ap before_zero is.0 ∙ is.1

  module _ (piece : List ℕ) (is : piece ≡ take (length piece) (drop n xs)) (loads : map (low W32) piece ≡ piece) where
    joins : take n xs ++ piece ≡ take (n + length piece) xs
    joins = ap (λ ys. take n xs ++ ys) is ∙ sym (take-add n (length piece) xs)

    pub more_plain : before_zero piece ≡ None → IsPlain (take (n + length piece) xs)
    more_plain none =
        let P : List ℕ → Type 0 = λ ys. IsPlain ys in
        subst P joins (map-append (low W32) (take n xs) piece ∙ rw (plain.0, loads) refl, none_in_both (take n xs) piece plain.1 none)

    pub found : (s : List ℕ) → before_zero piece ≡ Some s → before_zero (map (low W32) xs) ≡ Some (take (n + length s) xs)
    found s e =
        let end = ends piece s e in
        let rest = map (low W32) (drop (length piece) (drop n xs)) in
        let split : xs ≡ take n xs ++ (piece ++ drop (length piece) (drop n xs)) =
        sym (take-append-drop n xs) ∙ ap (λ ys. take n xs ++ ys) (sym (take-append-drop (length piece) (drop n xs)) ∙ ap (λ ys. ys ++ drop (length piece) (drop n xs)) (sym is)) in
        let loaded : map (low W32) xs ≡ take n xs ++ (piece ++ rest) = ap (map (low W32)) split ∙ rw (map-append, map-append, plain.0, loads) refl in
        let low : length s ≤ length piece = (let lt = end.inside in omega arith) in
        let text : take n xs ++ s ≡ take (n + length s) xs =
        ap (λ ys. take n xs ++ ys) (end.part ∙ ap (take (length s)) is ∙ take-take (length s) (length piece) (drop n xs) low) ∙ sym (take-add n (length s) xs) in
        ap before_zero loaded ∙ after_none (take n xs) (piece ++ rest) s plain.1 (end.more rest) ∙ ap (λ (ys : List ℕ). Some ys) text

-- ---- bytes that stand at an address

pub not_same : (xs ys : List ℕ) → (xs ≡ ys → ⊥) → false ≡ bytes_eq xs ys
not_same xs ys differ = by (bytes_eq xs ys) refl
  where
    by : (b : Bool) → bytes_eq xs ys ≡ b → false ≡ bytes_eq xs ys
    by true p = absurd (differ ((bytes_eq-Decides xs ys).0 p))
    by false p = sym p

pub differ : (xs ys : List ℕ) → true ≡ not (bytes_eq xs ys) → xs ≡ ys → ⊥
differ xs ys unlike same = (let p = (bytes_eq-Decides xs ys).1 same in let h = rw p at unlike in cc)

pub alike : (xs ys : List ℕ) → false ≡ not (bytes_eq xs ys) → xs ≡ ys
alike xs ys like = by (bytes_eq xs ys) refl
  where
    by : (b : Bool) → bytes_eq xs ys ≡ b → xs ≡ ys
    by true p = (bytes_eq-Decides xs ys).0 p
    by false p = absurd (let h = rw p at like in cc)

module _ (memory bytes : List ℕ) (at : ℕ) where
  pub same_more : (done n : ℕ) (rest : List ℕ) → take done bytes ≡ take done (drop at memory) → rest ≡ take (length rest) (drop (at + done) memory) → n ≤ length rest → take n rest ≡ take (done + n - done) (drop done bytes)
      → take (done + n) bytes ≡ take (done + n) (drop at memory)
  same_more done n rest so_far is fits same =
      let n_is : done + n - done ≡ n = omega arith in
      let piece : take n (drop done bytes) ≡ take n (drop done (drop at memory)) =
      ap (λ k. take k (drop done bytes)) (sym n_is) ∙ sym same ∙ ap (take n) is ∙ take-take n (length rest) (drop (at + done) memory) fits ∙ ap (take n) (sym (drop-drop done at memory)) in
      take-add done n bytes ∙ rw (so_far, piece) (sym (take-add done n (drop at memory)))

  -- they differ where a part of them does
  pub different : (done n : ℕ) (rest : List ℕ) → done + n ≤ length bytes → rest ≡ take (length rest) (drop (at + done) memory) → n ≤ length rest → (take n rest ≡ take (done + n - done) (drop done bytes) → ⊥)
      → take (length bytes) (drop at memory) ≡ bytes → ⊥
  different done n rest within is fits unlike same =
      let n_is : done + n - done ≡ n = omega arith in
      let all : done + (length bytes - done) ≡ length bytes = omega arith in
      let split : drop done (take (length bytes) (drop at memory)) ≡ take (length bytes - done) (drop (at + done) memory) =
      ap (λ k. drop done (take k (drop at memory))) (sym all) ∙ drop-take done (length bytes - done) (drop at memory) ∙ ap (take (length bytes - done)) (drop-drop done at memory) in
      let n_low : n ≤ length bytes - done = omega arith in
      unlike (ap (take n) is ∙ take-take n (length rest) (drop (at + done) memory) fits ∙ sym (take-take n (length bytes - done) (drop (at + done) memory) n_low) ∙ ap (take n) (sym split) ∙ ap (λ ys. take n (drop done ys)) same ∙ ap (λ k. take k (drop done bytes)) (sym n_is))
