use Rattle.std.proofs.lemmas.Result.{IfOk-weaker}
use Rattle.spec_loading.specs.declared.answers.Opening.TheVariants as opening
use Rattle.dyl_store.proofs.Calling.{opens_by, opened_range}
use Rattle.dyl_store.proofs.running.Running.open_module.Goals as goal

pub refuse-requires-clause-some : goal.refuse-requires-clause-some
refuse-requires-clause-some c =
    (opened_range c.args.self.now.linked.now c.memory.result.now c.args.name c.args.flags c.open_answer.result (opening.Refused c.in-Refused.e) c.open_answer.ensures c.in-Refused.is).0

pub refuse-requires-clause-last : goal.refuse-requires-clause-last
refuse-requires-clause-last c =
    (opened_range c.args.self.now.linked.now c.memory.result.now c.args.name c.args.flags c.open_answer.result (opening.Refused c.in-Refused.e) c.open_answer.ensures c.in-Refused.is).1

pub open_member-requires-clause-member : goal.open_member-requires-clause-member
open_member-requires-clause-member c =
    opened_range c.args.self.now.linked.now c.memory.result.now c.args.name c.args.flags c.open_answer.result (opening.Begin c.in-Begin.m) c.open_answer.ensures c.in-Begin.is

pub open_member-requires-clause-handle : goal.open_member-requires-clause-handle
open_member-requires-clause-handle c =
    opened_range c.args.self.now.linked.now c.memory.result.now c.args.name c.args.flags c.open_answer.result (opening.Begin c.in-Begin.m) c.open_answer.ensures c.in-Begin.is

pub open_member-requires-in-BeginGlobal-clause-member : goal.open_member-requires-in-BeginGlobal-clause-member
open_member-requires-in-BeginGlobal-clause-member c =
    opened_range c.args.self.now.linked.now c.memory.result.now c.args.name c.args.flags c.open_answer.result (opening.BeginGlobal c.in-BeginGlobal.m) c.open_answer.ensures c.in-BeginGlobal.is

pub open_member-requires-in-BeginGlobal-clause-handle : goal.open_member-requires-in-BeginGlobal-clause-handle
open_member-requires-in-BeginGlobal-clause-handle c =
    opened_range c.args.self.now.linked.now c.memory.result.now c.args.name c.args.flags c.open_answer.result (opening.BeginGlobal c.in-BeginGlobal.m) c.open_answer.ensures c.in-BeginGlobal.is

pub returns-in-Main-clause-answers : goal.returns-in-Main-clause-answers
returns-in-Main-clause-answers c =
    opens_by c.args.self.now.linked.now c.args.self.now c.give.new.self c.give.result c.memory.result.now c.memory.ensures c.args.name c.args.flags c.open_answer.result c.open_answer.ensures opening.Main c.in-Main.is c.give.ensures.answers

pub returns-in-Trapped-clause-answers : goal.returns-in-Trapped-clause-answers
returns-in-Trapped-clause-answers c =
    opens_by c.args.self.now.linked.now c.args.self.now c.trap.new.self c.trap.result c.memory.result.now c.memory.ensures c.args.name c.args.flags c.open_answer.result c.open_answer.ensures opening.Trapped c.in-Trapped.is c.trap.ensures.answers

pub returns-in-Refused-clause-answers : goal.returns-in-Refused-clause-answers
returns-in-Refused-clause-answers c =
    opens_by c.args.self.now.linked.now c.args.self.now c.refuse.new.self c.refuse.result c.memory.result.now c.memory.ensures c.args.name c.args.flags c.open_answer.result c.open_answer.ensures (opening.Refused c.in-Refused.e) c.in-Refused.is c.refuse.ensures.answers

pub returns-in-Begin-clause-answers : goal.returns-in-Begin-clause-answers
returns-in-Begin-clause-answers c =
    IfOk-weaker c.open_member.result _ _
    (λ e steps. opens_by c.args.self.now.linked.now c.args.self.now c.open_member.new.self e c.memory.result.now c.memory.ensures c.args.name c.args.flags c.open_answer.result c.open_answer.ensures (opening.Begin c.in-Begin.m) c.in-Begin.is steps) c.open_member.ensures.answers

pub returns-in-BeginGlobal-clause-answers : goal.returns-in-BeginGlobal-clause-answers
returns-in-BeginGlobal-clause-answers c =
    IfOk-weaker c.open_member-in-BeginGlobal.result _ _
    (λ e steps. opens_by c.args.self.now.linked.now c.args.self.now c.open_member-in-BeginGlobal.new.self e c.memory.result.now c.memory.ensures c.args.name c.args.flags c.open_answer.result c.open_answer.ensures (opening.BeginGlobal c.in-BeginGlobal.m) c.in-BeginGlobal.is steps) c.open_member-in-BeginGlobal.ensures.answers
