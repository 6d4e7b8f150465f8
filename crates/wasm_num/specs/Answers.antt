-- How the functions of this crate answer, and what an operand must be.
-- Serves the contracts of this crate, which follow Numerics of `spec_runtime`.
use Rattle.std.specs.Prelude.{ℕ, ◌<◌, ◌^◌, Result, Ok, Err, ⊤}
use Rattle.spec_runtime.specs.wasm_form.declared.runtime.Trap.{Trap}
use Rattle.spec_runtime.specs.Numerics.{Outcome, Whole, Traps, Width, bits, Compare, Eqz}

-- a number, or the trap
abbrev pub answer : Outcome → Result ℕ Trap
answer (Whole n) = Ok n
answer (Traps t) = Err t

-- a number of this width
abbrev pub FitsWidth : Width → ℕ → Type 0
FitsWidth w x = x < 2 ^ bits w

-- the second operand is a number of the width, if it is looked at
abbrev pub SecondFits : Width → Compare → ℕ → Type 0
SecondFits w Eqz b = ⊤
SecondFits w other b = FitsWidth w b
