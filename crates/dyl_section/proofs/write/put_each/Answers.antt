use Rattle.spec_reading.proofs.of_spec_binary.Joined.{each_started, each_next}
use Rattle.dyl_section.proofs.Shortest.{spelled_at}
use Rattle.dyl_section.proofs.write.put_each.Goals as goal

pub loop-item-init : goal.loop-item-init
loop-item-init g c = each_started c.args.to.now.items

pub put-requires : goal.put-requires
put-requires g c = spelled_at c.args.items.now c.loop-item.item-index c.item-item.result c.requires c.loop-item-test.true c.item-item.is

pub loop-item-preserved : goal.loop-item-preserved
loop-item-preserved g c = each_next c.args.items.now c.item-item.result c.loop-item.item-index _ _ _ c.loop-item-test.true c.item-item.is c.loop-item.invariant c.in_ok-put.ensures
