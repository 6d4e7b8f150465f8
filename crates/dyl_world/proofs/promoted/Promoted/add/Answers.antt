use Rattle.std.proofs.Common.{◌<◌, get_or, sym, ◌∙◌, subst}
use Rattle.dyl_world.proofs.Known.{closure_below, all_promoted}
use Rattle.dyl_world.proofs.promoted.Promoted.add.Goals as goal

pub add_one-requires : goal.add_one-requires
add_one-requires c =
    let closure = c.closure-closure in
    let below = closure_below c.args.linked.now c.links.ensures.shape c.args.m c.requires.member closure.result.now closure.ensures c.loop-k.k-index 0 c.loop-k-test.true in
    subst (λ n. get_or closure.result.now c.loop-k.k-index 0 < n) (sym (c.loop-k.invariant.0 ∙ c.requires.room)) below

pub returns-clause-list : goal.returns-clause-list
returns-clause-list c =
    let startup = c.startup-startup in
    let closure = c.closure-closure in
    all_promoted c.args.linked.now.set c.args.m startup.result.now closure.result.now c.loop-k.self.list c.args.self.now.list c.loop-k.k-index startup.ensures closure.ensures c.loop-k-test.false c.loop-k.invariant.1
