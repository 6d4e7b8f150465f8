use Rattle.std.proofs.Common.{refl, arith}
use Rattle.merge_dl.specs.Words.{close_code, closes_code}
use Rattle.merge_dl.specs.Listed.{starts_in}
use Rattle.merge_dl.proofs.Making.{put_next, put_last}
use Rattle.merge_dl.proofs.dlclose.put_closes.Goals as goal

pub loop-m-preserved : goal.loop-m-preserved
loop-m-preserved c =
    let x = starts_in c.args.n.now in
    put_next (close_code x) (closes_code x) (λ m y ys. refl) c.loop-m.m c.args.linked.now.set.members
    (omega (arith, c.loop-m-test.true, c.member_count-m-end.ensures.count))
    _ _ _ _ c.in_ok-one.ensures c.in_ok-append.ensures.items c.loop-m.invariant

pub returns : goal.returns
returns c =
    let x = starts_in c.args.n.now in
    put_last (closes_code x) (λ m. refl) c.loop-m.m c.args.linked.now.set.members
    (omega (arith, c.loop-m-test.false, c.member_count-m-end.ensures.count)) _ _ c.loop-m.invariant
