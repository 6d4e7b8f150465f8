-- The first name of a function is that of the first export at whose place it is noted.
use Rattle.std.proofs.Common.{◌≡◌, ℕ, suc, ◌+◌, Bool, true, false, List, [], ◌∷◌, find, Option, Some, None, slice_get, refl, ap, sym, ◌∙◌, zero-add, arith}
use Rattle.std.specs.List.{position_from}
use Rattle.spec_traces.specs.spec_hosts.spec_binary.Options.{◌>>=◌}
use Rattle.spec_linking.specs.Definitions.{or_other}

pub or_nothing : (o : Option ℕ) → or_other o None ≡ o
or_nothing None = refl
or_nothing (Some n) = refl

module _ {X : Type 0} (p : X → Bool) where
  find_from : (xs ys : List X) (i : ℕ) → ((k : ℕ) → slice_get xs (i + k) ≡ slice_get ys k) → find p ys ≡ (position_from p i ys >>= slice_get xs)
  find_from xs [] i at = refl
  find_from xs (y ∷ ys) i at = by (p y) refl (find_from xs ys (i + 1) later)
    where
      later : (k : ℕ) → slice_get xs ((i + 1) + k) ≡ slice_get ys k
      later k = let here : (i + 1) + k ≡ i + suc k = omega arith in ap (slice_get xs) here ∙ at (suc k)

      by : (b : Bool) → p y ≡ b → find p ys ≡ (position_from p (i + 1) ys >>= slice_get xs) → find p (y ∷ ys) ≡ (position_from p i (y ∷ ys) >>= slice_get xs)
      by true e rest = let here : i ≡ i + 0 = omega arith in rw e (sym (ap (slice_get xs) here ∙ at 0))
      by false e rest = rw e rest

  -- what is found is at the place that is found
  pub find_placed : (xs : List X) → find p xs ≡ (position_from p 0 xs >>= slice_get xs)
  find_placed xs = find_from xs xs 0 (λ k. ap (slice_get xs) (zero-add k))
