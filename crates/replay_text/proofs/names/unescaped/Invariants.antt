use Rattle.std.proofs.Common.{◌≡◌, length}
use Rattle.spec_traces.specs.Reading.{unescaped}
use Rattle.replay_text.proofs.Loops.{with_front}
use Rattle.replay_text.proofs.names.unescaped.Given as goal

abbrev pub invariant-loop-rest : goal.invariant-loop-rest
invariant-loop-rest l = with_front l.bytes.items (unescaped l.rest) ≡ unescaped l.word

abbrev pub decreases-loop-rest : goal.decreases-loop-rest
decreases-loop-rest l = length l.rest
