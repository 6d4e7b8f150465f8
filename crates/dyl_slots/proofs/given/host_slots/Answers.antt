use Rattle.dyl_slots.proofs.AllTables.{host_slots_exact}
use Rattle.dyl_slots.proofs.given.host_slots.Goals as goal

pub returns : goal.returns
returns c = host_slots_exact c.in_ok-slots.slots.items c.above-count.result c.args.first c.args.hosts.now c.above-count.ensures c.in_ok-slots.ensures.count c.in_ok-slots.ensures.slots
