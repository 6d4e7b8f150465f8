use Rattle.spec_safety.proofs.SpelledNumbers.{spelled_numbers}
use Rattle.spec_safety.proofs.spelled_modules_hold_numbers.Goals as goal

pub returns : goal.returns
returns c = spelled_numbers
