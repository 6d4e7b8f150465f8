-- What is kept of a run.
-- Serves the contracts of this crate, which follow Recorded of `spec_runtime`.
use Rattle.std.specs.Prelude.{◌≡◌, ℕ, List, Bool, false}
use Rattle.std.specs.List.{All}
use Rattle.wasm_form.specs.declared.runtime.Answer.{Answer}
use Rattle.spec_safety.specs.spec_runtime.Recorded.{Recorded}
use Rattle.spec_safety.specs.spec_runtime.Courses.{state_at, no_steps, IsAt}
use Rattle.spec_safety.specs.ValueTypes.{IsOfBytes}
use Rattle.wasm_recorder.specs.Bares.{Bares}

-- what is run, and what is recorded of its run
pub record RunOf (K : Type 0) : Type 0 where
  pub of : K
  pub run : Recorded

-- a run that has made no step
abbrev pub new_run : {K : Type 0} → K → RunOf K
new_run k = record { of = k; run = no_steps }

abbrev pub recorded : ℕ → List Answer → Bool → Bool → Recorded
recorded steps answers answered lost = record { steps = steps; answers = answers; answered = answered; lost = lost }

module _ {B K : Type 0} (D : Bares B K) where
  abbrev pub run_of : B → Recorded → RunOf K
  run_of b x = record { of = D.key b; run = x }

  -- it stands where the steps of a run lead
  abbrev pub StandsFrom : K → D.Origin → Recorded → B → Type 0
  StandsFrom k o x b = IsAt (D.course k o) x × D.IsState b k o (state_at (D.course k o) x)

  -- Its answers are of bytes, and what is run has an origin. Until memory is wanting it stands at the state of the run, from each origin.
  pub record IsKept (b : B) (x : Recorded) : Type 0 where
    pub whole : D.IsWhole b
    pub bytes : All IsOfBytes x.answers
    pub origin : (o : D.Origin) × D.IsOf (D.key b) o
    pub sound : x.lost ≡ false → D.IsSound b
    pub stands : x.lost ≡ false → (o : D.Origin) → D.IsOf (D.key b) o → StandsFrom (D.key b) o x b
