use Rattle.std.proofs.lemmas.Result.{on_ok_weaker}
use Rattle.replay_check.proofs.record.Recorder.proceed.Goals as goal

pub step-requires-clause-along : goal.step-requires-clause-along
step-requires-clause-along c = let begun = c.requires.along in (begun.0, c.in_ok-advance.ensures.along begun.0 begun.1)

pub returns-then-steps-ran-clause-along : goal.returns-then-steps-ran-clause-along
returns-then-steps-ran-clause-along c = on_ok_weaker c.step.result (λ along o begun. along o (c.in_ok-advance.ensures.along o begun)) c.step.ensures.along
