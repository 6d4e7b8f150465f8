use Rattle.dyl_section.specs.Recorded.{record_of}
use Rattle.dyl_search.proofs.Loading.{is_recorded, not_valid}
use Rattle.dyl_search.proofs.load.tested.Goals as goal

pub returns-in-Ok-valid : goal.returns-in-Ok-valid
returns-in-Ok-valid c = record { same = c.in-Ok-valid.ensures.0; dylink = is_recorded c.in-Ok.ensures.answer; valid = c.in-Ok-valid.ensures.1 }

pub returns-in-Err-valid : goal.returns-in-Err-valid
returns-in-Err-valid c = not_valid c.args.number c.args.wasm (record_of c.in-Ok.dylink) c.in-Err-valid.fault c.in-Ok.ensures.answer c.in-Err-valid.ensures
