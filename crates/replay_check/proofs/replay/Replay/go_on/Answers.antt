use Rattle.std.proofs.Common.{arith}
use Rattle.std.proofs.lemmas.Result.{on_ok_weaker, IfOk-weaker}
use Rattle.replay_check.proofs.Replaying.{went}
use Rattle.replay_check.proofs.replay.Replay.go_on.Goals as goal

pub returns-clause-along : goal.returns-clause-along
returns-clause-along c = on_ok_weaker c.step.result (λ along. λ o t k follows. along o t k (c.in_ok-advance.ensures.along o t k follows)) c.step.ensures.along

pub returns-clause-goes : goal.returns-clause-goes
returns-clause-goes c =
    IfOk-weaker c.step.result _ _ (λ goes h. went goes c.args.self.now c.advance.new.self c.step.new.self c.args.steps c.advance.ensures.more (omega arith) c.in_ok-advance.ensures.along h) c.step.ensures.goes
