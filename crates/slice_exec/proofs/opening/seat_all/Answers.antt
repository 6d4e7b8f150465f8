use Rattle.std.proofs.Common.{◌≡◌, length, min, take, ap, ◌∙◌, arith}
use Rattle.std.proofs.lemmas.List.{length-map, length-take}
use Rattle.slice_exec.specs.Playing.{new_seat}
use Rattle.slice_exec.proofs.opening.seat_all.Goals as goal

pub seat_one-requires : goal.seat_one-requires
seat_one-requires g c =
    let i = c.loop-linked.linked-index in
    let count : length c.loop-linked.board.seats.items ≡ min i (length c.args.sets.now) =
    ap length c.loop-linked.invariant.seated ∙ length-map (take i c.args.sets.now) (new_seat c.args.most) ∙ length-take i c.args.sets.now
    in
    omega (arith, count, c.requires.few, c.loop-linked-test.true)
