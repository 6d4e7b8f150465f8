-- Lengths of strings are given.
use Rattle.merge_dl.proofs.Called.{lengths_given}
use Rattle.merge_dl.proofs.lengths_are_given.Goals as goal

pub returns : goal.returns
returns c = lengths_given
