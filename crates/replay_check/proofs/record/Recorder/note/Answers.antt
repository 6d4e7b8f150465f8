-- The host call that is noted is the one that the run waits for, and its answer is the next one.
use Rattle.std.proofs.Common.{◌≡◌, ◌<◌, ◌^◌, length, slice_get, Some, sym, ap, ◌∙◌, subst, arith}
use Rattle.std.proofs.lemmas.Result.{on_ok_weaker}
use Rattle.run_loaded.specs.Courses.{course_of}
use Rattle.run_loaded.specs.Programs.{recorded_of}
use Rattle.run_loaded.proofs.Hosts.{host_of_entry}
use Rattle.replay_check.specs.Recording.{call_noted}
use Rattle.replay_check.proofs.Recording.{next_within, awaits_next, notes_so}
use Rattle.replay_check.proofs.record.Recorder.note.Goals as goal

pub answer_at-given-requires : goal.answer_at-given-requires
answer_at-given-requires c =
    let noted = c.requires in
    let o = noted.0 in
    let s = c.args.self.now in
    let x = recorded_of s.loaded in
    let lt : x.steps < c.args.ran.now.steps = subst (λ n. n < c.args.ran.now.steps) c.steps-steps.ensures.value c.if-steps-ran.true in
    let stops = noted.1.2 in
    let within = next_within (course_of o) c.args.ran.now noted.1.1 s.calls.items x stops.0 lt c.args.asked stops.1 stops.2 in
    let many : c.len.result ≡ length s.calls.items = omega (arith, s.calls.ok.0) in
    rw c.items.ensures (omega (arith, within, many))

pub answer-requires : goal.answer-requires
answer-requires c =
    let noted = c.requires in
    let o = noted.0 in
    let r = c.args.ran.now in
    let s = c.args.self.now in
    let x = recorded_of s.loaded in
    let lt : x.steps < r.steps = subst (λ n. n < r.steps) c.steps-steps.ensures.value c.if-steps-ran.true in
    let stops = noted.1.2 in
    let many : c.len.result ≡ length s.calls.items = omega (arith, s.calls.ok.0) in
    let at : slice_get r.answers (length s.calls.items) ≡ Some c.in_ok-answer.answer =
    ap (slice_get r.answers) (sym many) ∙ ap (λ l. slice_get l c.len.result) (sym c.items.ensures) ∙ c.answer_at-given.ensures ∙ ap Some (sym c.in_ok-answer.ensures) in
    (o, noted.1.0, awaits_next (course_of o) r noted.1.1 s.calls.items x stops.0 lt c.args.asked stops.1 stops.2 c.in_ok-answer.answer at)

pub returns-in_ok-push-clause-along : goal.returns-in_ok-push-clause-along
returns-in_ok-push-clause-along c =
    let r = c.args.ran.now in
    let s = c.args.self.now in
    let x = recorded_of s.loaded in
    let h = c.host_at-host.result.now in
    let given = c.answer_at-given.result.now in
    let steps = c.steps-steps.ensures.value in
    let lt : x.steps < r.steps = subst (λ n. n < r.steps) steps c.if-steps-ran.true in
    let many : c.len.result ≡ length s.calls.items = omega (arith, s.calls.ok.0) in
    let at : slice_get r.answers (length s.calls.items) ≡ Some given =
    ap (slice_get r.answers) (sym many) ∙ ap (λ l. slice_get l c.len.result) (sym c.items.ensures) ∙ c.answer_at-given.ensures in
    on_ok_weaker c.answer.result
    (λ same o noted.
    let stops = noted.2 in (
      c.answer.ensures.kept o noted.0,
      noted.1,
      notes_so (course_of o) r noted.1 s.calls.items x stops.0 lt c.args.asked stops.1 stops.2 given at
          h (host_of_entry (course_of o).host c.hosts.result.now (c.hosts.ensures o noted.0) c.args.asked.entry h c.host_at-host.ensures)
          c.in_ok-call.call c.push.new.self.items c.in_ok-answer.answer (recorded_of c.answer.new.self)
          (c.in_ok-call.ensures.call ∙ ap (λ n. call_noted n h c.args.asked.args given) steps)
          (λ few. c.in_ok-call.ensures.range (subst (λ n. n < 2 ^ 63) (sym steps) few))
          c.in_ok-push.ensures.items c.in_ok-answer.ensures same,
    ))
    c.answer.ensures.recorded
