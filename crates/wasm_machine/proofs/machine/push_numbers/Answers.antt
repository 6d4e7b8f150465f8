use Rattle.std.proofs.Common.{◌∙◌}
use Rattle.wasm_machine.proofs.Answering.{numbers_more, numbers_spare, numbers_all}
use Rattle.wasm_machine.proofs.machine.push_numbers.Goals as goal

pub push_spare-requires : goal.push_spare-requires
push_spare-requires c = numbers_spare c.args.top.now c.loop-n.top c.args.numbers.now c.loop-n.n-index c.loop-n.invariant c.loop-n-test.true c.requires

pub loop-n-preserved : goal.loop-n-preserved
loop-n-preserved c = c.push_spare.ensures ∙ numbers_more c.args.top.now c.loop-n.top c.args.numbers.now c.loop-n.n-index c.loop-n.invariant c.loop-n-test.true 0

pub returns : goal.returns
returns c = c.loop-n.invariant ∙ numbers_all c.args.top.now c.args.numbers.now c.loop-n.n-index c.loop-n-test.false
