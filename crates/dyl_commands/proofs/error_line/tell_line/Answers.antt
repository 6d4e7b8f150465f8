use Rattle.dyl_commands.proofs.ToldLines.{put_tells, then_tells}
use Rattle.dyl_commands.proofs.error_line.tell_line.Goals as goal

pub returns-in-Ok-clause-told : goal.returns-in-Ok-clause-told
returns-in-Ok-clause-told g c = put_tells c.args.outcome c.args.line.now c.put.result _ _ c.requires (λ none. cc) c.put.ensures

pub returns-in-Err-Failed-clause-told : goal.returns-in-Err-Failed-clause-told
returns-in-Err-Failed-clause-told g c = put_tells c.args.outcome c.args.line.now c.put.result _ _ c.requires (λ none. cc) c.put.ensures

pub returns-in-Err-Memory-clause-told : goal.returns-in-Err-Memory-clause-told
returns-in-Err-Memory-clause-told g c = rw c.tell_memory.ensures.answer (then_tells c.args.line.now c.put.result _ _ _ (cc) c.put.ensures c.tell_memory.ensures.told)
