use Rattle.dyl_section.proofs.SomeRecord.{some_answer}
use Rattle.dyl_section.proofs.laws.some_record_answer.Goals as goal

pub returns : goal.returns
returns c = some_answer
