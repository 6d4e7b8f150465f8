-- The answer of the call that the run waits for is taken.
use Rattle.std.proofs.Common.{◌≡◌, ◌+◌, false, ap, refl, subst, sym, ◌∙◌, arith}
use Rattle.spec_traces.specs.spec_hosts.Ends.{bytes_written}
use Rattle.spec_traces.specs.spec_hosts.spec_runtime.Courses.{with_answer, is_waiting}
use Rattle.wasm_machine.specs.Steps.{RunStepped}
use Rattle.run_loaded.specs.Courses.{course_of}
use Rattle.run_loaded.specs.Programs.{recorded_of}
use Rattle.replay_check.specs.Following.{run_of}
use Rattle.replay_check.proofs.Following.{awaits_here}
use Rattle.replay_check.proofs.Asking.{few_written}
use Rattle.replay_check.proofs.Replaying.{room_left, takes}
use Rattle.replay_check.proofs.replay.Replay.take.Goals as goal

pub overflow_add-self : goal.overflow_add-self
overflow_add-self c =
    let at = c.requires.at in
    let few = few_written (run_of c.args.self.now).answers (room_left at.0 at.1 at.2 c.args.self.now c.args.call.now at.3 c.requires.room) in
    let written = at.3.follows.written in
    omega (arith, few, written, c.bytes_written.ensures.below)

pub answer-requires : goal.answer-requires
answer-requires c =
    let at = c.requires.at in
    let o = at.0 in
    let f = at.3.follows in
    (o, f.of, rw c.in_ok-answer.ensures (awaits_here (course_of o) at.1 at.2 (run_of c.args.self.now) f.followed c.args.call.now at.3.at at.3.steps at.3.agrees))

pub run_step-requires-clause-answered : goal.run_step-requires-clause-answered
run_step-requires-clause-answered c =
    let at = c.requires.at in
    let o = at.0 in
    let f = at.3.follows in
    let same : recorded_of c.answer.new.self ≡ with_answer (run_of c.args.self.now) c.args.call.now.answer = c.in_ok-answer-2.ensures.recorded ∙ ap (with_answer (run_of c.args.self.now)) c.in_ok-answer.ensures in (
      o,
      c.answer.ensures.kept o f.of,
      λ _. subst (λ x. is_waiting (course_of o) x ≡ false) (sym same) refl,
    )

pub returns-clause-taken : goal.returns-clause-taken
returns-clause-taken c = λ o t k at.
    let f = at.follows in
    let r = c.args.self.now in
    let call = c.args.call.now in
    let same : recorded_of c.answer.new.self ≡ with_answer (run_of r) call.answer = c.in_ok-answer-2.ensures.recorded ∙ ap (with_answer (run_of r)) c.in_ok-answer.ensures in
    let of = c.answer.ensures.kept o f.of in
    let told = subst (λ x. RunStepped (course_of o) c.in_ok-event.event x (recorded_of c.run_step.new.self)) same (c.in_ok-event.ensures.stepped o of).1 in
    let counted : r.written + c.bytes_written.result ≡ r.written + bytes_written call.answer = ap (λ n. r.written + n) (c.bytes_written.ensures.bytes ∙ ap bytes_written c.in_ok-answer.ensures) in
    (takes o t k r call at c.run_step.new.self (c.run_step.ensures.kept o of) c.asked_by.result c.in_ok-event.event (r.written + c.bytes_written.result) c.asked_by.ensures counted c.requires.room told).0
