use Rattle.std.proofs.Common.{sym, subst}
use Rattle.slice_board.specs.declared.board.Seat.{Seat}
use Rattle.slice_exec.specs.Playing.{IsSeated, IsRan}
use Rattle.slice_exec.proofs.Ended.{seat_within, first_is, rest_more, counted_there}
use Rattle.slice_exec.proofs.Lists.{zip_more}
use Rattle.slice_exec.proofs.ending.end_all.Goals as goal

pub loop-bytes-preserved : goal.loop-bytes-preserved
loop-bytes-preserved c =
    let lt = seat_within c.args.seats.now.items c.args.written.now c.loop-bytes.bytes-index c.requires.written c.loop-bytes-test.true in
    record {
      rest = rest_more c.args.seats.now.items c.loop-bytes.bytes-index c.remove-seat.result lt c.loop-bytes.seats.items c.loop-bytes.invariant.rest c.remove-seat.new.self.items c.remove-seat.ensures.items;
      ran =
          zip_more IsRan c.args.seats.now.items c.loop-bytes.runs.items c.push.new.self.items c.loop-bytes.bytes-index c.remove-seat.result c.ran_of.result lt
          (first_is c.args.seats.now.items c.loop-bytes.bytes-index c.remove-seat.result lt c.loop-bytes.seats.items c.loop-bytes.invariant.rest c.remove-seat.ensures.value)
          c.loop-bytes.invariant.ran c.ran_of.ensures c.in_ok-push.ensures.items;
    }

pub ran_of-requires-clause-written : goal.ran_of-requires-clause-written
ran_of-requires-clause-written c =
    let lt = seat_within c.args.seats.now.items c.args.written.now c.loop-bytes.bytes-index c.requires.written c.loop-bytes-test.true in
    let is = first_is c.args.seats.now.items c.loop-bytes.bytes-index c.remove-seat.result lt c.loop-bytes.seats.items c.loop-bytes.invariant.rest c.remove-seat.ensures.value in
    counted_there c.args.seats.now.items c.args.written.now c.loop-bytes.bytes-index c.remove-seat.result c.requires.written lt is _

pub ran_of-requires-clause-seated : goal.ran_of-requires-clause-seated
ran_of-requires-clause-seated c =
    let x = c.remove-seat.result in
    let lt = seat_within c.args.seats.now.items c.args.written.now c.loop-bytes.bytes-index c.requires.written c.loop-bytes-test.true in
    let is = first_is c.args.seats.now.items c.loop-bytes.bytes-index x lt c.loop-bytes.seats.items c.loop-bytes.invariant.rest c.remove-seat.ensures.value in
    subst (λ (s : Seat). IsSeated s.most s.store.run) (sym is) (c.requires.seated c.loop-bytes.bytes-index x lt)
