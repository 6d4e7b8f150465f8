use Rattle.wasm_check.proofs.ConstantSteps.{none_of_many}
use Rattle.wasm_check.proofs.evaluation.only.Goals as goal

pub returns-else-stack-eq1 : goal.returns-else-stack-eq1
returns-else-stack-eq1 c = λ functions. none_of_many functions c.args.stack.now (λ e. c.if-stack-eq1.false e)
