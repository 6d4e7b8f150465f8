-- What a module imports, and what its function numbers name.
-- Serves the contracts of this crate, which follow Instances of `spec_execution`.
use Rattle.std.specs.Prelude.{◌≡◌, ℕ, nat_lt, if◌then◌else◌}
use Rattle.wasm_form.specs.declared.module.Module.{Module}
use Rattle.wasm_form.specs.declared.runtime.Ref.{Ref}
use Rattle.wasm_form.specs.declared.runtime.Ref.TheVariants.{Own, Host}
use Rattle.spec_safety.specs.spec_binary.IndexSpaces.{imported_count}
use Rattle.spec_safety.specs.Laws.{IsAlone}

-- a valid module that imports functions alone, and just so many
pub record ImportsFunctions (m : Module) (imported : ℕ) : Type 0 where
  pub alone : IsAlone m
  pub count : imported ≡ imported_count m

-- the function that a number names, where so many are imported
abbrev pub function_after : ℕ → ℕ → Ref
function_after imported f = if nat_lt f imported then Host f else Own 0 f
