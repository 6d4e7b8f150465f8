use Rattle.std.proofs.Common.{take}
use Rattle.std.specs.List.{All}
use Rattle.spec_traces.specs.Texts.{IsWriteInRange}
use Rattle.replay_check.proofs.ranges.writes_in_range.Given as goal

abbrev pub invariant-loop-write : goal.invariant-loop-write
invariant-loop-write l = All IsWriteInRange (take l.write-index l.writes)
