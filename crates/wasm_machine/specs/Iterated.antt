-- A relation, so many times.
-- Serves the contracts of this crate.
use Rattle.std.specs.Prelude.{◌≡◌, ℕ, zero, suc}

-- so many steps, each of which is one of the relation, lead from the first to the second
abbrev pub Iterated : {S : Type 0} → (S → S → Type 0) → ℕ → S → S → Type 0
Iterated R zero s t = t ≡ s
Iterated {S} R (suc n) s t = (u : S) × Iterated R n s u × R u t
