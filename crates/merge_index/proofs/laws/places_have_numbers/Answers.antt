use Rattle.merge_index.proofs.Distinct.{places_have_numbers}
use Rattle.merge_index.proofs.laws.places_have_numbers.Goals as goal

pub returns : goal.returns
returns c = places_have_numbers
