use Rattle.std.proofs.Common.{ℕ, subst}
use Rattle.dyl_frames.specs.Cores.{gives_number}
use Rattle.dyl_store.specs.Calls.{AnswersWith}
use Rattle.dyl_store.proofs.running.Running.give.Goals as goal

pub returns-clause-answers : goal.returns-clause-answers
returns-clause-answers c = subst (λ (e : ℕ). AnswersWith c.args.self.now.linked.now (gives_number c.args.self.now.core c.args.n e) c.give_with.result c.args.self.now c.give_with.new.self) c.errors-errors.ensures c.give_with.ensures.answers
