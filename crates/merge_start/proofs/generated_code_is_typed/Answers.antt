use Rattle.merge_start.proofs.Typed.{generated_is_typed}
use Rattle.merge_start.proofs.generated_code_is_typed.Goals as goal

pub returns : goal.returns
returns c = generated_is_typed
