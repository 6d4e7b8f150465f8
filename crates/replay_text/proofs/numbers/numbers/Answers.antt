use Rattle.std.proofs.Common.{map}
use Rattle.spec_traces.specs.Reading.{numbers_of}
use Rattle.replay_text.proofs.Loops.{number_goes, number_fails, numbers_end}
use Rattle.replay_text.proofs.numbers.numbers.Goals as goal

pub loop-word-preserved : goal.loop-word-preserved
loop-word-preserved c =
    rw c.in_ok-push-in-Some.ensures.items
    (number_goes c.loop-word.numbers.items c.args.words.now c.loop-word.word-index (numbers_of (map (λ word. word.now) c.args.words.now)) c.loop-word.invariant _ c.in-Some.n c.loop-word-test.true c.in-Some.ensures)

pub returns-in-None : goal.returns-in-None
returns-in-None c = number_fails c.loop-word.numbers.items c.args.words.now c.loop-word.word-index (numbers_of (map (λ word. word.now) c.args.words.now)) c.loop-word.invariant _ c.loop-word-test.true c.in-None.ensures

pub returns : goal.returns
returns c = rw c.of.ensures (numbers_end c.loop-word.numbers.items c.args.words.now c.loop-word.word-index (numbers_of (map (λ word. word.now) c.args.words.now)) c.loop-word.invariant c.loop-word-test.false)
