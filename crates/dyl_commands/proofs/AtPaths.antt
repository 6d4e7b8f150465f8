-- There is one thing to say of the file at a path, where there is one thing to say of its bytes.
use Rattle.std.proofs.Common.{◌≡◌, ◌⊎◌, ℕ, ◌<◌, ◌≤◌, List, length, Option, Some, None, sym, ◌∙◌, inl, inr, arith}
use Rattle.std.specs.Prelude.{IsSomeAnd}
use Rattle.dyl_commands.specs.OneFile.{most_run}

module _ {R : Type 0} (missing long : R) (Of : List ℕ → R → Type 0) where
  -- what is there, if anything is, and what is said of it
  abbrev pub There : Option (List ℕ) → R → Type 0
  There o said =
      ((o ≡ None) × (said ≡ missing))
      ⊎ ((IsSomeAnd o (λ bytes. most_run < length bytes) × (said ≡ long)) ⊎ IsSomeAnd o (λ bytes. (length bytes ≤ most_run) × Of bytes said))

  pub one_there : ((bytes : List ℕ) (a b : R) → Of bytes a → Of bytes b → a ≡ b) → (o : Option (List ℕ)) (a b : R) → There o a → There o b → a ≡ b
  one_there one_of o a b (inl h) (inl k) = h.1 ∙ sym k.1
  one_there one_of None a b (inl h) (inr (inl k)) = absurd k.0
  one_there one_of None a b (inl h) (inr (inr k)) = absurd k
  one_there one_of (Some bytes) a b (inl h) (inr k) = absurd (let none = h.0 in cc)
  one_there one_of None a b (inr (inl h)) k = absurd h.0
  one_there one_of None a b (inr (inr h)) k = absurd h
  one_there one_of (Some bytes) a b (inr h) (inl k) = absurd (let none = k.0 in cc)
  one_there one_of (Some bytes) a b (inr (inl h)) (inr (inl k)) = h.1 ∙ sym k.1
  one_there one_of (Some bytes) a b (inr (inl h)) (inr (inr k)) = absurd (omega (arith, h.0, k.0))
  one_there one_of (Some bytes) a b (inr (inr h)) (inr (inl k)) = absurd (omega (arith, h.0, k.0))
  one_there one_of (Some bytes) a b (inr (inr h)) (inr (inr k)) = one_of bytes a b h.1 k.1
