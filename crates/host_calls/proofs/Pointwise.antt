-- Two lists whose elements at one place are related.
use Rattle.std.proofs.Common.{◌≡◌, ℕ, zero, suc, ◌+◌, ◌<◌, List, [], ◌∷◌, ◌++◌, length, map, take, get_or, slice_get, Some, IsSomeAnd, sym, ◌∙◌, subst, arith}
use Rattle.std.proofs.lemmas.Option.{same_Some}
use Rattle.std.proofs.lemmas.List.{map_more, length-map, length-take}

module _ {A B : Type 0} (P : A → B → Type 0) where
  abbrev pub Pointwise : List A → List B → Type 0
  Pointwise xs ys = (k : ℕ) (x : A) → slice_get xs k ≡ Some x → IsSomeAnd (slice_get ys k) (P x)

  one_more : (xs : List A) (ys : List B) (x : A) (y : B) → length ys ≡ length xs → Pointwise xs ys → P x y → Pointwise (xs ++ x ∷ []) (ys ++ y ∷ [])
  one_more [] [] x y same all last zero z at = subst (λ a. P a y) (same_Some x z at) last
  one_more [] [] x y same all last (suc k) z at = absurd cc
  one_more (a ∷ xs) (b ∷ ys) x y same all last zero z at = all zero z at
  one_more (a ∷ xs) (b ∷ ys) x y same all last (suc k) z at = one_more xs ys x y (omega (arith, same)) (λ j z. all (suc j) z) last k z at
  one_more [] (b ∷ ys) x y same all last k z at = absurd (omega (arith, same))
  one_more (a ∷ xs) [] x y same all last k z at = absurd (omega (arith, same))

module _ {A B C : Type 0} (P : A → B → Type 0) (f : C → A) where
  -- of what a list is mapped to, one element more is related
  pub pointwise_more : (xs : List C) (ys : List B) (i : ℕ) (d : C) (y : B) → i < length xs → length ys ≡ i → Pointwise P (map f (take i xs)) ys → P (f (get_or xs i d)) y
      → Pointwise P (map f (take (i + 1) xs)) (ys ++ y ∷ [])
  pointwise_more xs ys i d y lt count all last =
      let mapped : length (map f (take i xs)) ≡ i = length-map (take i xs) f ∙ omega (arith, length-take i xs) in
      subst (λ zs. Pointwise P zs (ys ++ y ∷ [])) (sym (map_more f xs i d lt)) (one_more P (map f (take i xs)) ys (f (get_or xs i d)) y (omega (arith, count, mapped)) all last)
