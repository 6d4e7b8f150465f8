use Rattle.dyl_store.proofs.Calling.{tells_by}
use Rattle.dyl_store.proofs.running.Running.tell_error.Goals as goal

pub returns-clause-answers : goal.returns-clause-answers
returns-clause-answers c =
    tells_by c.args.self.now.linked.now c.args.self.now c.give_with.new.self c.give_with.result c.errors-errors.result c.error_answer-address.result c.error_answer-address.new.errors c.errors-errors.ensures c.error_answer-address.ensures.value c.error_answer-address.ensures.none c.give_with.ensures.answers
