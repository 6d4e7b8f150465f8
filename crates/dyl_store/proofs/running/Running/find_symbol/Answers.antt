use Rattle.spec_loading.specs.declared.answers.Finding.TheVariants as finding
use Rattle.dyl_store.proofs.Calling.{finds_by, found_range}
use Rattle.dyl_store.proofs.running.Running.find_symbol.Goals as goal

pub refuse-requires-clause-some : goal.refuse-requires-clause-some
refuse-requires-clause-some c =
    (found_range c.args.self.now.linked.now c.memory.result.now c.stages.result.now c.promoted.result.now.list c.args.handle c.args.name c.symbol_answer.result (finding.Refused c.in-Refused.e) c.symbol_answer.ensures c.in-Refused.is).0

pub refuse-requires-clause-last : goal.refuse-requires-clause-last
refuse-requires-clause-last c =
    (found_range c.args.self.now.linked.now c.memory.result.now c.stages.result.now c.promoted.result.now.list c.args.handle c.args.name c.symbol_answer.result (finding.Refused c.in-Refused.e) c.symbol_answer.ensures c.in-Refused.is).1

pub returns-in-Trapped-clause-answers : goal.returns-in-Trapped-clause-answers
returns-in-Trapped-clause-answers c =
    finds_by c.args.self.now.linked.now c.args.self.now c.trap.new.self c.trap.result c.memory.result.now c.memory.ensures c.stages.result.now c.stages.ensures c.promoted.result.now c.promoted.ensures c.args.handle c.args.name c.symbol_answer.result c.symbol_answer.ensures finding.Trapped c.in-Trapped.is c.trap.ensures.answers

pub returns-in-Refused-clause-answers : goal.returns-in-Refused-clause-answers
returns-in-Refused-clause-answers c =
    finds_by c.args.self.now.linked.now c.args.self.now c.refuse.new.self c.refuse.result c.memory.result.now c.memory.ensures c.stages.result.now c.stages.ensures c.promoted.result.now c.promoted.ensures c.args.handle c.args.name c.symbol_answer.result c.symbol_answer.ensures (finding.Refused c.in-Refused.e) c.in-Refused.is c.refuse.ensures.answers

pub returns-in-Address-clause-answers : goal.returns-in-Address-clause-answers
returns-in-Address-clause-answers c =
    finds_by c.args.self.now.linked.now c.args.self.now c.give.new.self c.give.result c.memory.result.now c.memory.ensures c.stages.result.now c.stages.ensures c.promoted.result.now c.promoted.ensures c.args.handle c.args.name c.symbol_answer.result c.symbol_answer.ensures (finding.Address c.in-Address.n) c.in-Address.is c.give.ensures.answers
