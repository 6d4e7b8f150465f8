use Rattle.std.proofs.Common.{length}
use Rattle.replay_text.specs.Stages.{seen, IsReadTo}
use Rattle.replay_text.proofs.read.read_lines.Given as goal

abbrev pub invariant-loop-text : goal.invariant-loop-text
invariant-loop-text l = IsReadTo l.bytes l.line l.rest (seen l.stage)

abbrev pub decreases-loop-text : goal.decreases-loop-text
decreases-loop-text l = length l.rest
