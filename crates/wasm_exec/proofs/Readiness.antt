-- A run that doesn't wait may make a step.
use Rattle.std.proofs.Common.{◌≡◌, true, false, true≢false, refl, sym, ◌∙◌, le_refl}
use Rattle.spec_hosts.specs.wasm_form.declared.runtime.Trap.{Trap}
use Rattle.spec_hosts.specs.spec_runs.Systems.{Status, Moving, Waits, Returned, Exited, Trapped}
use Rattle.spec_hosts.specs.spec_runtime.Names.{HostNames}
use Rattle.spec_hosts.specs.spec_runtime.Hosts.{HostCall}
use Rattle.spec_hosts.specs.spec_runtime.Recorded.{has_ended, waits}
use Rattle.spec_hosts.specs.Ends.{goes_on}
use Rattle.spec_hosts.specs.declared.ran.RunEnd.TheVariants as end
use Rattle.spec_hosts.specs.spec_runtime.Courses.{Course, status_at}
use Rattle.run_loaded.proofs.Waiting.{not_waiting}
use Rattle.wasm_exec.specs.Driving.{Progress, IsRunning, IsReady, HasEnded}

live : (status : Status HostCall Trap) → has_ended status ≡ false → goes_on status ≡ true
live Moving unended = refl
live (Waits call) unended = refl
live Returned unended = absurd (true≢false unended)
live (Exited code) unended = absurd (true≢false unended)
live (Trapped why) unended = absurd (true≢false unended)

module _ (C : Course) (names : HostNames) (p : Progress) (running : IsRunning C names p) where
  pub ready_still : waits (status_at C p.run) ≡ false → IsReady C names p
  ready_still still = record {
    declared = running.declared;
    stands = running.stands;
    answered = not_waiting p.run (status_at C p.run) still;
    within = λ waiting. absurd (true≢false (sym waiting ∙ still));
    free = running.free;
    written = running.written;
  }

  -- a run that goes on is ended by the limit of its steps
  pub limited : has_ended (status_at C p.run) ≡ false → HasEnded C p.run.steps end.StepLimit p.run
  limited unended = record {
    made = record { few = le_refl p.run.steps; real = running.stands.real; free = running.free };
    ends = (refl, live (status_at C p.run) unended);
  }
