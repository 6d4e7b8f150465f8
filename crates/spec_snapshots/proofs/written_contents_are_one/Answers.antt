use Rattle.spec_snapshots.proofs.Stretches.{written_is_one}
use Rattle.spec_snapshots.proofs.Few.{memory_is_few}
use Rattle.spec_snapshots.proofs.written_contents_are_one.Goals as goal

pub returns : goal.returns
returns c = record { one = written_is_one; few = memory_is_few }
