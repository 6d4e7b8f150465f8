use Rattle.spec_safety.proofs.ModuleSteps.{step_ok}
use Rattle.spec_safety.proofs.ModuleRuns.{run_sound}
use Rattle.spec_safety.proofs.modules_never_get_stuck.Goals as goal

pub returns-clause-sound : goal.returns-clause-sound
returns-clause-sound c = run_sound

pub returns-clause-never_stuck : goal.returns-clause-never_stuck
returns-clause-never_stuck c = λ m names opening answers n alone numbers bytes each opens moving.
    let t = step_ok m alone numbers _ (run_sound m names opening answers n alone numbers bytes each opens) moving in
    (t.0, t.1)
