use Rattle.std.proofs.Common.{arith}
use Rattle.std.proofs.lemmas.Bool.{le-leb, leb-true}
use Rattle.merge_whole.proofs.sets.is_big.Goals as goal

pub returns : goal.returns
returns c = ((λ h. let big = leb-true _ _ h in omega arith), (λ h. le-leb _ _ (omega arith)))
