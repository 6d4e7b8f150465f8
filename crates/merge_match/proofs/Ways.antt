-- The states on the way of no step, and of one.
use Rattle.std.proofs.Common.{ℕ, zero, suc, ◌≤◌, subst, arith}
use Rattle.spec_loading.specs.spec_runs.Systems.{Outside, System}
use Rattle.spec_loading.specs.spec_runs.Agreement.{Silent}

pub low_none : {O : Outside} (T : System O) (Low : T.State → Type 0) (t : T.State) → (j : ℕ) (v : T.State) → suc j ≤ 0 → Silent T j t v → Low v
low_none T Low t j v le silent = absurd (omega (arith, le))

pub low_one : {O : Outside} (T : System O) (Low : T.State → Type 0) (t : T.State) → Low t → (j : ℕ) (v : T.State) → suc j ≤ 1 → Silent T j t v
    → Low v
low_one T Low t here zero v le silent = subst Low silent here
low_one T Low t here (suc j) v le silent = absurd (omega (arith, le))
