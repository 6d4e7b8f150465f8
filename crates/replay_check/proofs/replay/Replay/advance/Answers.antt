use Rattle.std.proofs.Common.{◌∙◌, ap, sym, map, sum}
use Rattle.spec_traces.specs.spec_hosts.spec_runtime.Recorded.{Recorded}
use Rattle.spec_traces.specs.spec_hosts.Ends.{bytes_written}
use Rattle.run_loaded.specs.Courses.{course_of}
use Rattle.run_loaded.specs.Programs.{recorded_of}
use Rattle.replay_check.specs.Following.{run_of}
use Rattle.replay_check.proofs.Following.{has_advanced}
use Rattle.replay_check.proofs.replay.Replay.advance.Goals as goal

pub returns-clause-along : goal.returns-clause-along
returns-clause-along c = λ o t k follows.
    let of = c.advance.ensures.kept o follows.of in
    let found = c.in_ok-advance.ensures.found in
    let stood = c.steps-steps.ensures.stands found o of in
    let advances = c.advance.ensures.advances in
    let on = has_advanced (course_of o) t k (run_of c.args.self.now) follows.followed c.args.steps (recorded_of c.advance.new.self) advances (c.advance.ensures.code o follows.of) found stood in
    record {
      of = of;
      followed = on.0;
      asks = on.1 c.args.self.now.asked follows.asks;
      written = follows.written ∙ ap (λ (x : Recorded). sum (map bytes_written x.answers)) (sym advances.same);
    }
