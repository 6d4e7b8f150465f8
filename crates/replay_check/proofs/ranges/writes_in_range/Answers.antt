use Rattle.std.proofs.Common.{subst, arith}
use Rattle.std.specs.List.{All}
use Rattle.std.proofs.lemmas.List.{take_all}
use Rattle.std.proofs.lemmas.List.Elements.{All-more}
use Rattle.spec_traces.specs.Texts.{IsWriteInRange}
use Rattle.replay_check.proofs.ranges.writes_in_range.Goals as goal

pub loop-write-preserved : goal.loop-write-preserved
loop-write-preserved c =
    All-more IsWriteInRange c.args.writes.now c.loop-write.write-index c.write-item.result c.loop-write-test.true c.loop-write.invariant (subst IsWriteInRange c.write-item.is c.write_in_range.ensures)

pub returns : goal.returns
returns c = subst (All IsWriteInRange) (take_all c.loop-write.write-index c.args.writes.now (omega arith)) c.loop-write.invariant
