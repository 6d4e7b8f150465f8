use Rattle.std.proofs.Common.{refl, arith}
use Rattle.merge_dl.specs.Words.{handle_code, handles_code}
use Rattle.merge_dl.specs.Listed.{starts_in, finders_in}
use Rattle.merge_dl.proofs.Making.{put_next, put_last}
use Rattle.merge_dl.proofs.dlsym.put_handles.Goals as goal

pub loop-m-preserved : goal.loop-m-preserved
loop-m-preserved c =
    let L = c.args.linked.now in
    let x = starts_in c.args.n.now in
    let d = finders_in c.args.n.now in
    put_next (handle_code L x d) (handles_code L x d) (λ m y ys. refl) c.loop-m.m L.set.members
    (omega (arith, c.loop-m-test.true, c.member_count-m-end.ensures.count))
    _ _ _ _ c.in_ok-one.ensures c.in_ok-append.ensures.items c.loop-m.invariant

pub returns : goal.returns
returns c =
    let L = c.args.linked.now in
    let x = starts_in c.args.n.now in
    let d = finders_in c.args.n.now in
    put_last (handles_code L x d) (λ m. refl) c.loop-m.m L.set.members
    (omega (arith, c.loop-m-test.false, c.member_count-m-end.ensures.count)) _ _ c.loop-m.invariant
