use Rattle.spec_reading.proofs.OneAnswer.{answers}
use Rattle.spec_reading.proofs.reading_answers.Goals as goal

pub returns : goal.returns
returns c = answers
