use Rattle.merge_find.proofs.Shapes.{search_small}
use Rattle.merge_find.proofs.laws.searches_are_small.Goals as goal

pub returns : goal.returns
returns c = search_small
