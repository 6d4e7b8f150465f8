use Rattle.std.proofs.Common.{◌≡◌, ◌<◌, length, arith}
use Rattle.dyl_store.specs.Opening.{none_first, datas_of}
use Rattle.dyl_store.proofs.Beginning.{begins_more, begins_all}
use Rattle.dyl_store.proofs.contents.datas_of.Goals as goal

pub loop-m-preserved : goal.loop-m-preserved
loop-m-preserved c =
    let L = c.args.linked.now in
    let inside : c.loop-m.m < length L.set.members = omega (arith, c.loop-m-test.true) in
    begins_more none_first datas_of L c.loop-m.m _ _ inside c.loop-m.invariant c.in_ok-put_member_datas.ensures

pub returns : goal.returns
returns c =
    let L = c.args.linked.now in
    let all : c.loop-m.m ≡ length L.set.members = omega (arith, c.loop-m-test.false) in
    begins_all none_first datas_of L c.loop-m.m _ all c.loop-m.invariant
