-- Marks of functions, by their indices.
-- Serves the contracts of this crate, which follow Faults of `spec_validation`.
use Rattle.std.specs.Prelude.{◌≡◌, ℕ, ◌<◌, Bool, true, false, ◌||◌, List, length, get_or, slice_get, Option, Some}
use Rattle.wasm_form.specs.declared.module.Module.{Module}
use Rattle.wasm_form.specs.declared.index.IndexForm.{IndexForm}
use Rattle.wasm_form.specs.declared.index.IndexForm.TheVariants.{RefFunc}
use Rattle.spec_execution.specs.spec_validation.Faults.{refers}
use Rattle.wasm_typing.specs.Contexts.{is_marked}

-- ref.func
abbrev pub refers_form : Option IndexForm → Bool
refers_form (Some RefFunc) = true
refers_form _ = false

-- the functions of this kind are marked beside those that were
pub record Adds (kind : ℕ → Bool) (old new : List Bool) : Type 0 where
  pub as_many : length new ≡ length old
  pub marks : (k : ℕ) → k < length old → get_or new k false ≡ (get_or old k false || kind k)

-- just the functions that a body may refer to are marked
abbrev pub AreMarks : Module → List Bool → Type 0
AreMarks m marks = (k : ℕ) → is_marked (slice_get marks k) ≡ refers m k
