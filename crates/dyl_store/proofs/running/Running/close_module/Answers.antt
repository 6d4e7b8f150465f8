use Rattle.std.proofs.Common.{true, false}
use Rattle.dyl_store.proofs.Calling.{closes_by}
use Rattle.dyl_store.proofs.running.Running.close_module.Goals as goal

pub returns-then-close_answer-clause-answers : goal.returns-then-close_answer-clause-answers
returns-then-close_answer-clause-answers c =
    closes_by c.args.self.now.linked.now c.args.self.now c.give.new.self c.give.result c.stages.result.now c.stages.ensures c.args.handle c.close_answer.result true c.close_answer.ensures c.if-close_answer.true c.give.ensures.answers

pub returns-else-close_answer-clause-answers : goal.returns-else-close_answer-clause-answers
returns-else-close_answer-clause-answers c =
    closes_by c.args.self.now.linked.now c.args.self.now c.refuse.new.self c.refuse.result c.stages.result.now c.stages.ensures c.args.handle c.close_answer.result false c.close_answer.ensures c.if-close_answer.false c.refuse.ensures.answers
