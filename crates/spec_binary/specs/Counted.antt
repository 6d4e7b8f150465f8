-- Lists of instructions over values of one type, by the number of values: each instruction puts one there, or makes one of two.
-- Serves the contracts of `wasm_check`: docs/DECISIONS.md, "The binary format".
use Rattle.std.specs.Prelude.{ℕ, suc, Bool, false, nat_eq, List, [], ◌∷◌, Option, Some, None}
use Rattle.wasm_form.specs.declared.instr.Instr.{Instr}
use Rattle.spec_binary.specs.Options.{◌>>=◌}

pub data Step : Type 0 where
  Puts Joins Other : Step

-- how many values there are after an instruction
abbrev pub after_step : Step → ℕ → Option ℕ
after_step Puts n = Some (suc n)
after_step Joins (suc (suc n)) = Some (suc n)
after_step Joins _ = None
after_step Other n = None

-- after instructions one after the other, from so many values
abbrev pub left : (Instr → Step) → List Instr → ℕ → Option ℕ
left step [] n = Some n
left step (i ∷ is) n = after_step (step i) n >>= left step is

-- one value is left
abbrev pub is_one : Option ℕ → Bool
is_one None = false
is_one (Some n) = nat_eq n 1
