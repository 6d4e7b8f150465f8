use Rattle.dyl_commands.proofs.Reading.{found_fault, check_inside}
use Rattle.dyl_commands.proofs.one_file.checked.Goals as goal

pub returns-in-Err-clause-told : goal.returns-in-Err-clause-told
returns-in-Err-clause-told c = rw c.not_valid.ensures (found_fault c.args.wasm c.in-Err.refused.fault c.in-Err.ensures.first)

pub returns-in-Err-clause-inner : goal.returns-in-Err-clause-inner
returns-in-Err-clause-inner c = rw c.not_valid.ensures (check_inside c.in-Err.refused.fault)
