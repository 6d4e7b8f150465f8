use Rattle.std.proofs.lemmas.Result.{IfOk-weaker}
use Rattle.replay_check.proofs.record.trace_of.Goals as goal

pub returns-in-Ok-clause-traces : goal.returns-in-Ok-clause-traces
returns-in-Ok-clause-traces c = IfOk-weaker c.traced.result _ _ (λ t told o opened has. told o (c.in-Ok.ensures.1 o opened) has) c.traced.ensures.traces
