use Rattle.dyl_section.proofs.RecordLaws.{one_answer}
use Rattle.dyl_section.proofs.laws.one_record_answer.Goals as goal

pub returns : goal.returns
returns c = λ m one other a b. one_answer m one other a b
