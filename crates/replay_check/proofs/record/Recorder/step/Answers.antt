-- The host call that is told is the one that the run then waits for.
use Rattle.std.proofs.Common.{sym, arith}
use Rattle.std.proofs.lemmas.Result.{on_ok_weaker}
use Rattle.run_loaded.specs.Courses.{course_of}
use Rattle.run_loaded.specs.Programs.{recorded_of}
use Rattle.replay_check.proofs.Recording.{goes_on, stops, counts}
use Rattle.replay_check.proofs.record.Recorder.step.Goals as goal

pub run_step-requires-clause-answered : goal.run_step-requires-clause-answered
run_step-requires-clause-answered c =
    let begun = c.requires.along in
    (begun.0, begun.1.0, λ _. begun.1.2.1 c.requires.few)

pub note-requires : goal.note-requires
note-requires c =
    let begun = c.requires.along in
    let o = begun.0 in
    let x = recorded_of c.args.self.now.loaded in
    let y = recorded_of c.run_step.new.self in
    let told = (c.in_ok-event.ensures.stepped o begun.1.0).1 in (
      o,
      (
        c.run_step.ensures.kept o begun.1.0,
        begun.1.1,
        stops (course_of o) c.args.ran.now begun.1.1 c.args.self.now.calls.items x begun.1.2.0 c.requires.few c.in_ok-event.event y c.in-Some.asked told (sym c.in-Some.ensures),
      ),
    )

pub returns-in-Some-clause-along : goal.returns-in-Some-clause-along
returns-in-Some-clause-along c =
    let x = recorded_of c.args.self.now.loaded in
    let y = recorded_of c.run_step.new.self in
    on_ok_weaker c.note.result
    (λ along o begun. along o (
      c.run_step.ensures.kept o begun.0,
      begun.1,
      stops (course_of o) c.args.ran.now begun.1 c.args.self.now.calls.items x begun.2.0 c.requires.few c.in_ok-event.event y c.in-Some.asked (c.in_ok-event.ensures.stepped o begun.0).1 (sym c.in-Some.ensures),
    ))
    c.note.ensures.along

pub returns-in-Some-clause-more : goal.returns-in-Some-clause-more
returns-in-Some-clause-more c =
    let begun = c.requires.along in
    let o = begun.0 in
    let x = recorded_of c.args.self.now.loaded in
    let y = recorded_of c.run_step.new.self in
    let one = counts (course_of o) c.args.ran.now begun.1.1 c.args.self.now.calls.items x begun.1.2.0 c.requires.few c.in_ok-event.event y (c.in_ok-event.ensures.stepped o begun.1.0).1 in
    on_ok_weaker c.note.result (λ same. omega (arith, same, one)) c.note.ensures.same

pub returns-in-None-clause-along : goal.returns-in-None-clause-along
returns-in-None-clause-along c = λ o begun.
    let x = recorded_of c.args.self.now.loaded in
    let y = recorded_of c.run_step.new.self in (
      c.run_step.ensures.kept o begun.0,
      begun.1,
      goes_on (course_of o) c.args.ran.now begun.1 c.args.self.now.calls.items x begun.2.0 c.requires.few c.in_ok-event.event y (c.in_ok-event.ensures.stepped o begun.0).1 (sym c.in-None.ensures),
    )

pub returns-in-None-clause-more : goal.returns-in-None-clause-more
returns-in-None-clause-more c =
    let begun = c.requires.along in
    let o = begun.0 in
    let x = recorded_of c.args.self.now.loaded in
    let y = recorded_of c.run_step.new.self in
    let one = counts (course_of o) c.args.ran.now begun.1.1 c.args.self.now.calls.items x begun.1.2.0 c.requires.few c.in_ok-event.event y (c.in_ok-event.ensures.stepped o begun.1.0).1 in
    omega (arith, one)
