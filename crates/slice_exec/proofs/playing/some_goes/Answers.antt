use Rattle.std.proofs.Common.{subst, arith}
use Rattle.std.specs.List.{All}
use Rattle.std.proofs.lemmas.List.{take_all}
use Rattle.slice_exec.specs.Playing.{IsDone}
use Rattle.slice_exec.proofs.Lists.{all_more}
use Rattle.slice_exec.proofs.Seen.{done_of, goes_of}
use Rattle.slice_exec.proofs.playing.some_goes.Goals as goal

pub loop-p-preserved : goal.loop-p-preserved
loop-p-preserved g c =
    let at = c.store.ensures in
    all_more (IsDone c.args.most) c.args.board.now.seats.items c.loop-p.p at.0 c.loop-p.invariant at.1 (done_of c.args.most at.0 c.store.result.now c.is_done.result at.2 c.is_done.ensures c.if-not-is_done.false)

pub returns : goal.returns
returns g c =
    let count = c.count-p-end.ensures.value in
    subst (All (IsDone c.args.most)) (take_all c.loop-p.p c.args.board.now.seats.items (omega (arith, count, c.loop-p-test.false))) c.loop-p.invariant

pub returns-then-not-is_done : goal.returns-then-not-is_done
returns-then-not-is_done g c =
    let at = c.store.ensures in
    goes_of c.args.most c.loop-p.p c.args.board.now.seats.items at.0 c.store.result.now c.is_done.result at.1 at.2 c.is_done.ensures c.if-not-is_done.true
