use Rattle.std.proofs.Common.{Ok, Err}
use Rattle.spec_loading.specs.spec_execution.declared.fault.SingleFault.TheVariants as single
use Rattle.host_calls.specs.Embedders.{names_of, embedder_of}
use Rattle.dyl_commands.proofs.Executing.{with_arguments, module_takes}
use Rattle.dyl_commands.proofs.exec.exec_module.Goals as goal

pub returns-in-Ok-execute-clause-taken : goal.returns-in-Ok-execute-clause-taken
returns-in-Ok-execute-clause-taken g c = module_takes c.args.checked.now (names_of c.args.host.now) c.in-Ok-execute.ran c.in-Ok-execute.ensures.taken

pub returns-in-Ok-execute-clause-runs : goal.returns-in-Ok-execute-clause-runs
returns-in-Ok-execute-clause-runs g c =
    with_arguments c.args.checked.now (λ texts. embedder_of texts c.args.host.now) _ _ c.in-Ok.ensures c.args.steps (Ok c.in-Ok-execute.ran) _ _ c.in-Ok-execute.ensures.executes

pub returns-in-Err-Memory-clause-runs : goal.returns-in-Err-Memory-clause-runs
returns-in-Err-Memory-clause-runs g c =
    with_arguments c.args.checked.now (λ texts. embedder_of texts c.args.host.now) _ _ c.in-Ok.ensures c.args.steps (Err single.Memory) _ _ (rw c.in-Err-Memory.field-0-is at c.in-Err-Memory.ensures.executes)
