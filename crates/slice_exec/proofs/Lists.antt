-- What is so of each of a list, and lists that go together.
use Rattle.std.proofs.Common.{◌≡◌, ℕ, zero, suc, List, [], ◌∷◌, ◌++◌, ◌+◌, ◌<◌, length, take, get_or, slice_get, Some, refl, sym, ap, ◌∙◌, subst}
use Rattle.std.specs.List.{All, AllZip}
use Rattle.std.proofs.lemmas.List.{take_more}
use Rattle.std.proofs.lemmas.List.Elements.{All-head, All-tail, All-more}
use Rattle.std.proofs.lemmas.Option.{same_Some, slice_get_within, get_or_from_slice_get}

-- what is so of each is so of the one at a place
pub all_at : {X : Type 0} (P : X → Type 0) (xs : List X) (i : ℕ) (x : X) → All P xs → slice_get xs i ≡ Some x → P x
all_at P [] i x all at = absurd cc
all_at P (y ∷ xs) zero x all at = subst P (same_Some y x at) (All-head P y xs all)
all_at P (y ∷ xs) (suc i) x all at = all_at P xs i x (All-tail P y xs all) at

pub all_more : {X : Type 0} (P : X → Type 0) (xs : List X) (n : ℕ) (x : X) → All P (take n xs) → slice_get xs n ≡ Some x → P x → All P (take (n + 1) xs)
all_more P xs n x all at one = All-more P xs n x (slice_get_within xs n x at) all (subst P (sym (get_or_from_slice_get xs n x x at)) one)

-- ---- lists that go together

module _ {X Y : Type 0} (R : X → Y → Type 0) where
  pub zip_push : (xs : List X) (ys : List Y) (x : X) (y : Y) → AllZip R xs ys → R x y → AllZip R (xs ++ x ∷ []) (ys ++ y ∷ [])
  zip_push [] [] x y all one = (one, tt)
  zip_push (a ∷ xs) (b ∷ ys) x y all one = (all.0, zip_push xs ys x y all.1 one)
  zip_push [] (b ∷ ys) x y all one = absurd all
  zip_push (a ∷ xs) [] x y all one = absurd all

  pub zip_at : (xs : List X) (ys : List Y) (i : ℕ) (x : X) (y : Y) → AllZip R xs ys → slice_get xs i ≡ Some x → slice_get ys i ≡ Some y → R x y
  zip_at [] [] i x y all at there = absurd cc
  zip_at (a ∷ xs) (b ∷ ys) zero x y all at there = subst (λ z. R z y) (same_Some a x at) (subst (R a) (same_Some b y there) all.0)
  zip_at (a ∷ xs) (b ∷ ys) (suc i) x y all at there = zip_at xs ys i x y all.1 at there
  zip_at [] (b ∷ ys) i x y all at there = absurd all
  zip_at (a ∷ xs) [] i x y all at there = absurd all

  pub zip_length : (xs : List X) (ys : List Y) → AllZip R xs ys → length xs ≡ length ys
  zip_length [] [] all = refl
  zip_length (a ∷ xs) (b ∷ ys) all = ap suc (zip_length xs ys all.1)
  zip_length [] (b ∷ ys) all = absurd all
  zip_length (a ∷ xs) [] all = absurd all

  pub zip_more : (xs : List X) (ys zs : List Y) (i : ℕ) (x : X) (y : Y) → i < length xs → x ≡ get_or xs i x → AllZip R (take i xs) ys → R x y → zs ≡ ys ++ y ∷ [] → AllZip R (take (i + 1) xs) zs
  zip_more xs ys zs i x y lt is all one grown =
      let more : take (i + 1) xs ≡ take i xs ++ x ∷ [] = take_more xs i x lt ∙ ap (λ z. take i xs ++ z ∷ []) (sym is) in
      subst (AllZip R (take (i + 1) xs)) (sym grown) (subst (λ l. AllZip R l (ys ++ y ∷ [])) (sym more) (zip_push (take i xs) ys x y all one))
