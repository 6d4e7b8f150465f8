-- The sets have taken their places, and turns were taken.
use Rattle.std.proofs.Common.{◌∷◌, [], ◌∙◌, subst}
use Rattle.spec_hosts.specs.Devices.{devices}
use Rattle.host_calls.specs.Embedders.{embedder_of}
use Rattle.slice_board.specs.Taken.{picks_of}
use Rattle.slice_exec.specs.Playing.{RunsBoard}
use Rattle.slice_exec.proofs.Beginning.{is_fresh}
use Rattle.slice_exec.proofs.Whole.{runs_none}
use Rattle.slice_exec.proofs.exec.run_board.Goals as goal

pub returns-in_err-seat_all : goal.returns-in_err-seat_all
returns-in_err-seat_all g c = runs_none c.args.sets.now _ c.args.most c.args.slice c.args.turns _ c.from_residual.result _ _ _ c.from_residual.ensures.0

pub play_seated-requires-clause-fresh : goal.play_seated-requires-clause-fresh
play_seated-requires-clause-fresh g c =
    (is_fresh c.args.most c.args.sets.now c.seat_all.new.board.seats.items c.seat_all.new.board.turn (record { written = c.seat_all.new.written; picks = c.args.tally.now.picks }) c.in_ok-seat_all.ensures.seated
    (c.seat_all.ensures.turn ∙ c.requires.none.1) c.requires.none.2 c.in_ok-seat_all.ensures.written).0

pub play_seated-requires-clause-sets : goal.play_seated-requires-clause-sets
play_seated-requires-clause-sets g c =
    (is_fresh c.args.most c.args.sets.now c.seat_all.new.board.seats.items c.seat_all.new.board.turn (record { written = c.seat_all.new.written; picks = c.args.tally.now.picks }) c.in_ok-seat_all.ensures.seated
    (c.seat_all.ensures.turn ∙ c.requires.none.1) c.requires.none.2 c.in_ok-seat_all.ensures.written).1

pub returns : goal.returns
returns g c =
    let begun = devices (g.I.Source.seen c.args.input.now) (g.O.Sink.seen c.args.output.now) (g.E.Sink.seen c.args.errors.now) (g.A.Ambient.seen c.args.ambient.now) in
    let p = c.play_seated.new in
    let now = devices (g.I.Source.seen p.input) (g.O.Sink.seen p.output) (g.E.Sink.seen p.errors) (g.A.Ambient.seen p.ambient) in
    subst
    (λ q. RunsBoard c.args.sets.now (embedder_of (c.args.name.now ∷ []) c.args.table.now) c.args.most c.args.slice c.args.turns (picks_of q.now) c.play_seated.result p.board.seats.items p.tally begun now)
    c.seat_all.ensures.picker c.play_seated.ensures
