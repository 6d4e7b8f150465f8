-- The run is made again from its opening state.
use Rattle.std.proofs.Common.{List, sym, ap, subst}
use Rattle.std.specs.List.{All}
use Rattle.spec_traces.specs.declared.trace.Trace.{Trace}
use Rattle.spec_traces.specs.declared.trace.TraceCall.{TraceCall}
use Rattle.spec_traces.specs.Texts.{IsCallInRange}
use Rattle.run_loaded.specs.Courses.{course_of}
use Rattle.run_loaded.specs.Programs.{recorded_of}
use Rattle.run_loaded.proofs.Openings.{opening_moves}
use Rattle.replay_check.proofs.Recording.{begins_so, ends_alone, is_trace}
use Rattle.replay_check.proofs.record.traced.Goals as goal

pub make_steps-made-requires : goal.make_steps-made-requires
make_steps-made-requires c =
    let begun = c.requires.run in
    let o = begun.0 in
    (o, (begun.1, begun.2, begins_so (course_of o) c.args.ran.now c.new.result.items (recorded_of c.args.loaded) (opening_moves c.args.loaded o begun.1) c.new.ensures.items c.requires.fresh))

pub end_of-requires : goal.end_of-requires
end_of-requires c = let begun = c.requires.run in ends_alone (course_of begun.0) c.args.ran.now begun.2

pub returns-in-Ok-clause-traces : goal.returns-in-Ok-clause-traces
returns-in-Ok-clause-traces c = λ o of has.
    let r = c.args.ran.now in
    let s = c.make_steps-made.new.self in
    let begun = begins_so (course_of o) r c.new.result.items (recorded_of c.args.loaded) (opening_moves c.args.loaded o of) c.new.ensures.items c.requires.fresh in
    let ended = c.in-Ok.ensures.along o (of, has, begun) in
    is_trace (course_of o) r has s.calls.items (recorded_of s.loaded) ended.2.0 c.in-Ok.ensures.all c.end_of.result c.end_of.ensures.same
    _ (ap (λ (calls : List TraceCall). let t : Trace = record { calls = calls; steps = r.steps; end = c.end_of.result } in t) c.into_calls-calls.ensures)

pub returns-in-Ok-clause-range : goal.returns-in-Ok-clause-range
returns-in-Ok-clause-range c = λ few.
    let begun = c.requires.run in
    let o = begun.0 in
    let opens = begins_so (course_of o) c.args.ran.now c.new.result.items (recorded_of c.args.loaded) (opening_moves c.args.loaded o begun.1) c.new.ensures.items c.requires.fresh in
    let ended = c.in-Ok.ensures.along o (begun.1, begun.2, opens) in
    record { calls = subst (All IsCallInRange) (sym c.into_calls-calls.ensures) (ended.2.0.range few); steps = few; end_is = c.end_of.ensures.range }
