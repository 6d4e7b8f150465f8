-- How the check of a constant expression counts.
-- Serves the contracts of this crate, which follow Counted of `spec_validation`.
use Rattle.std.specs.Prelude.{ℕ, Option, Some}
use Rattle.wasm_form.specs.declared.types.ValType.{ValType}
use Rattle.spec_execution.specs.spec_binary.Options.{◌>>=◌}
use Rattle.spec_execution.specs.spec_binary.Counted.{after_step}
use Rattle.spec_execution.specs.spec_validation.Counted.{JoinsTwo, PutsOne, step_at}

-- how many values of the first type there are after one of the second is put there
abbrev pub after_put : ValType → Option ValType → ℕ → Option ℕ
after_put t u n = after_step (step_at t (u >>= λ v. Some (PutsOne v))) n

-- and after one is made of two
abbrev pub after_joined : ValType → Option ValType → ℕ → Option ℕ
after_joined t u n = after_step (step_at t (u >>= λ v. Some (JoinsTwo v))) n
