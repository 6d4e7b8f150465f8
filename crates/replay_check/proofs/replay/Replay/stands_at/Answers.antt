-- The limits, and the ends of its own.
use Rattle.std.proofs.Common.{refl}
use Rattle.run_loaded.specs.Courses.{course_of}
use Rattle.spec_traces.specs.spec_hosts.spec_runtime.Courses.{state_at}
use Rattle.replay_check.specs.Following.{run_of}
use Rattle.replay_check.proofs.Ending.{own_ends, limit_ends, full_ends}
use Rattle.replay_check.proofs.replay.Replay.stands_at.Goals as goal

pub returns-in-StepLimit : goal.returns-in-StepLimit
returns-in-StepLimit c = λ o t k follows.
    let x = run_of c.args.self.now in
    let C = course_of o in
    rw c.in-StepLimit.is (limit_ends C.system C.deep x.steps (state_at C x) x.answers c.has_ended.result (c.has_ended.ensures follows.followed.stands.found o follows.of))

pub returns-in-HostCallLimit : goal.returns-in-HostCallLimit
returns-in-HostCallLimit c = λ o t k follows.
    let x = run_of c.args.self.now in
    let C = course_of o in
    let full = full_ends C.system C.deep x.steps (state_at C x) x.answers C.host c.args.self.now.asked x follows.asks refl in
    rw (c.in-HostCallLimit.is, c.is_full.ensures) full

pub returns-in_ok-told-in_default : goal.returns-in_ok-told-in_default
returns-in_ok-told-in_default c = λ o t k follows.
    let x = run_of c.args.self.now in
    let C = course_of o in
    own_ends C.system C.deep x.steps (state_at C x) x.answers c.args.end c.in_default.not-StepLimit c.in_default.not-HostCallLimit c.in_ok-told-in_default.told c.is_told.result (c.in_ok-told-in_default.ensures o t k follows) c.is_told.ensures
