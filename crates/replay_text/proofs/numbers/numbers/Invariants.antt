use Rattle.std.proofs.Common.{◌≡◌, drop, map}
use Rattle.spec_traces.specs.Reading.{numbers_of}
use Rattle.replay_text.proofs.Loops.{with_front}
use Rattle.replay_text.proofs.numbers.numbers.Given as goal

abbrev pub invariant-loop-word : goal.invariant-loop-word
invariant-loop-word l = with_front l.numbers.items (numbers_of (map (λ w. w.now) (drop l.word-index l.words))) ≡ numbers_of (map (λ w. w.now) l.words)
