-- The heights of bodies, as they are kept.
-- Serves the contracts of this crate, which follow Faults of `spec_validation`.
use Rattle.std.specs.Prelude.{◌≡◌, ℕ, ◌<◌, List, length, slice_get, Option, Some, None}
use Rattle.wasm_form.specs.declared.module.Module.{Module}
use Rattle.spec_execution.specs.spec_binary.Saturated.{saturated}
use Rattle.spec_execution.specs.spec_binary.Options.{◌>>=◌}
use Rattle.spec_execution.specs.spec_binary.IndexSpaces.{function_space}
use Rattle.spec_execution.specs.spec_binary.WellFormed.{IsWellFormed}
use Rattle.spec_execution.specs.spec_validation.Faults.{body_height, fault}

-- the height of a body, by its number
abbrev pub height_of : Module → ℕ → Option ℕ
height_of m n = slice_get m.codes n >>= λ c. body_height m n c >>= λ h. Some (saturated h)

-- these are the heights of the first bodies
pub record HaveHeights (m : Module) (count : ℕ) (heights : List ℕ) : Type 0 where
  pub as_many : length heights ≡ count
  pub each : (n : ℕ) → n < count → slice_get heights n ≡ height_of m n

-- the module is well formed and has no fault, its functions are these by the numbers of their types, and its bodies have these heights
pub record IsChecked (m : Module) (functions heights : List ℕ) : Type 0 where
  pub formed : IsWellFormed m
  pub valid : fault m ≡ None
  pub space : functions ≡ function_space m
  pub bodies : HaveHeights m (length m.codes) heights
