use Rattle.spec_loading.specs.spec_runtime.Courses.{state_at}
use Rattle.dyl_store.specs.Stores.{set_course}
use Rattle.dyl_store.proofs.Arguments.{arguments_told}
use Rattle.dyl_store.proofs.Wanting.{wait_wants, on_lost}
use Rattle.dyl_store.proofs.SetRuns.{somewhere_sound, moving_status, steps_so}
use Rattle.dyl_store.proofs.set_run.SetRunBareLinked.step.Goals as goal

pub step-requires-clause-stands : goal.step-requires-clause-stands
step-requires-clause-stands c = somewhere_sound c.linked_sets_never_get_stuck.ensures.sound c.args.self.now c.requires.sound c.requires.stands

pub returns-clause-stepped : goal.returns-clause-stepped
returns-clause-stepped c = λ o of s is.
    let b = c.args.self.now in
    let L = b.running.linked.now in
    let e = c.in_ok-event.event in
    let made = c.in_ok-event.ensures.stepped s is.at in
    let fits = arguments_told L e s c.step.new.self made c.are_numbers.ensures in
    steps_so L o (record { running = c.step.new.self; event = c.tell_step.new.kept }) s (moving_status L b.running s is.at c.requires.moving) e c.in_ok-event.ensures.answered c.in-Ok.ensures.told fits made

pub returns-clause-arguments : goal.returns-clause-arguments
returns-clause-arguments c = λ o of.
    let q = c.requires.stands in
    let L = c.args.self.now.running.linked.now in
    let s = state_at (set_course L) q.2.0 in
    arguments_told L c.in_ok-event.event s c.step.new.self (c.in_ok-event.ensures.stepped s q.2.2.at) c.are_numbers.ensures

pub returns-in_err-event-clause-wanting : goal.returns-in_err-event-clause-wanting
returns-in_err-event-clause-wanting c = on_lost c.from_residual.result _ (λ o of s is. c.in_err-event.ensures.wanting s is.at)

pub returns-in_default-clause-wanting : goal.returns-in_default-clause-wanting
returns-in_default-clause-wanting c = λ o of s is.
    wait_wants c.in_ok-event.event c.in_default.ensures.wanting c.args.self.now.running c.step.new.self c.requires.moving c.in_ok-event.ensures.stepped s is.at
