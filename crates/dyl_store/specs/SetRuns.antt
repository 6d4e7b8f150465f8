-- A linked set in its run, as the recorder sees it.
-- Serves the contracts of this crate, which follow LoadedSet of `spec_loading`.
use Rattle.std.specs.Prelude.{◌≡◌, None}
use Rattle.spec_loading.specs.spec_linking.LinkedSets.{LinkedSet, set_hosts, hosts_of}
use Rattle.spec_loading.specs.LoadedSet.{SetState, set_loading}
use Rattle.wasm_machine.specs.Steps.{TellsStatus, ArgumentsFit}
use Rattle.wasm_recorder.specs.Bares.{Bares}
use Rattle.wasm_recorder.specs.Runs as recorded
use Rattle.dyl_frames.specs.Next.{HasCodeOnTop, MayWant, next_answer}
use Rattle.dyl_store.specs.declared.set_run.SetRun.{SetRun}
use Rattle.dyl_store.specs.Stores.{set_course}
use Rattle.dyl_store.specs.Runs.{IsRunning, RunsAt}

-- it stands at this state, and what is kept is told of it
pub record IsTold (L : LinkedSet) (b : SetRun) (s : SetState) : Type 0 where
  pub at : RunsAt L b.running s
  pub tells : TellsStatus (set_hosts L) b.event s.run.status
  pub fits : ArgumentsFit (set_hosts L) b.event

-- A set has one course. The step of code that calls a function of the loader is left to the loader.
abbrev pub set_runs : Bares SetRun LinkedSet
set_runs = record {
  Origin = Unit {0};
  IsOf = λ L o. Unit {0};
  course = λ L o. set_course L;
  IsCode = λ L o s. HasCodeOnTop s × (next_answer (set_loading L) s ≡ None);
  HasCode = λ L o s. HasCodeOnTop s;
  MayWant = λ L o s. MayWant s;
  hosts = hosts_of;
  key = λ b. b.running.linked.now;
  standing = λ b. b.running.core.machine.standing;
  IsState = λ b L o s. IsTold L b s;
  IsSound = λ b. IsRunning b.running;
  IsWhole = λ b. Unit {0};
}

-- the next step is one of code, and no other's
abbrev pub IsCodeNext : LinkedSet → SetState → Type 0
IsCodeNext L s = recorded.IsCodeNext set_runs L tt s
