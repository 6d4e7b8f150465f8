use Rattle.dyl_commands.proofs.Reading.{of_decoded, of_undecoded, decode_inside}
use Rattle.dyl_commands.proofs.one_file.module_of.Goals as goal

pub returns-in-Ok-clause-told : goal.returns-in-Ok-clause-told
returns-in-Ok-clause-told c = of_decoded c.args.bytes.now c.in-Ok.wasm c.checked.result c.in-Ok.ensures.answer c.checked.ensures.told

pub returns-in-Err-clause-told : goal.returns-in-Err-clause-told
returns-in-Err-clause-told c = rw c.not_decoded.ensures (of_undecoded c.args.bytes.now c.in-Err.fault c.in-Err.ensures.answer)

pub returns-in-Err-clause-inner : goal.returns-in-Err-clause-inner
returns-in-Err-clause-inner c = rw c.not_decoded.ensures (decode_inside c.in-Err.fault)
