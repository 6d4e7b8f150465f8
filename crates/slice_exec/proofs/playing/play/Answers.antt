-- The turns, and what comes of them at each end.
use Rattle.std.proofs.Common.{◌≡◌, ◌<◌, ◌∙◌, length, Ok, Err, inl, inr, refl, sym, ap, subst, arith}
use Rattle.std.proofs.lemmas.Result.{err_from_is_err_and}
use Rattle.spec_hosts.specs.Devices.{devices}
use Rattle.slice_board.specs.Taken.{picks_of}
use Rattle.slice_exec.specs.Playing.{IsPlaying, PlayGives}
use Rattle.slice_exec.proofs.Plays.{starts, seated_all, written_all, ready, more, cut_short, ended}
use Rattle.slice_exec.proofs.playing.play.Goals as goal

pub turns-init : goal.turns-init
turns-init g c = record {
  few = let none = ap length c.requires.fresh.2 in omega (arith, none);
  sets = refl;
  picker = refl;
  plays = starts c.args.most c.args.slice c.args.turns (picks_of c.args.board.now.picker.now) c.args.hosts.now c.args.board.now.seats.items _ c.args.board.now.turn c.args.tally.now c.requires.fresh;
}

pub some_goes-requires-clause-seated : goal.some_goes-requires-clause-seated
some_goes-requires-clause-seated g c =
    let l = c.turns in
    seated_all c.args.most c.args.slice c.args.turns (picks_of l.board.picker.now) c.args.hosts.now c.args.board.now.seats.items _ l.board.seats.items l.board.turn l.tally _ l.invariant.plays l.invariant.sets c.requires.hosts

pub some_goes-requires-clause-written : goal.some_goes-requires-clause-written
some_goes-requires-clause-written g c =
    let l = c.turns in
    written_all c.args.most c.args.slice c.args.turns (picks_of l.board.picker.now) c.args.hosts.now c.args.board.now.seats.items _ l.board.seats.items l.board.turn l.tally _ l.invariant.plays l.invariant.sets c.requires.hosts

pub returns-then-not-some_goes : goal.returns-then-not-some_goes
returns-then-not-some_goes g c =
    let l = c.turns in
    let begun = devices (g.I.Source.seen c.args.input.now) (g.O.Sink.seen c.args.output.now) (g.E.Sink.seen c.args.errors.now) (g.A.Ambient.seen c.args.ambient.now) in
    let now = devices (g.I.Source.seen l.input) (g.O.Sink.seen l.output) (g.E.Sink.seen l.errors) (g.A.Ambient.seen l.ambient) in
    subst (λ q. PlayGives c.args.most c.args.slice c.args.turns (picks_of q.now) c.args.hosts.now (Ok tt) c.args.board.now.seats.items l.board.seats.items l.tally begun now) l.invariant.picker
    (ended c.args.most c.args.slice c.args.turns (picks_of l.board.picker.now) c.args.hosts.now c.args.board.now.seats.items _ l.board.seats.items l.board.turn l.tally _ l.invariant.plays l.invariant.sets tt
    (inr (rw c.if-not-some_goes.true at c.some_goes.ensures)))

pub round-requires : goal.round-requires
round-requires g c =
    let l = c.turns in
    let lt : length l.tally.picks.items < c.args.turns = (let ok = l.tally.picks.ok in omega (arith, c.turns-test.true, c.len.ensures, ok)) in
    ready c.args.most c.args.slice c.args.turns (picks_of l.board.picker.now) c.args.hosts.now c.args.board.now.seats.items _ l.board.seats.items l.board.turn l.tally _ l.invariant.plays l.invariant.sets c.requires.hosts
    (omega (arith, c.ranges.turns)) lt (rw c.if-not-some_goes.false at c.some_goes.ensures)

pub turns-preserved : goal.turns-preserved
turns-preserved g c =
    let l = c.turns in
    let begun = devices (g.I.Source.seen c.args.input.now) (g.O.Sink.seen c.args.output.now) (g.E.Sink.seen c.args.errors.now) (g.A.Ambient.seen c.args.ambient.now) in
    let now = devices (g.I.Source.seen c.round.new.input) (g.O.Sink.seen c.round.new.output) (g.E.Sink.seen c.round.new.errors) (g.A.Ambient.seen c.round.new.ambient) in
    let lt : length l.tally.picks.items < c.args.turns = (let ok = l.tally.picks.ok in omega (arith, c.turns-test.true, c.len.ensures, ok)) in
    let gives = c.in_ok-round.ensures.round in
    record {
      few = let one = gives.0.1 in omega (arith, one, lt);
      sets = gives.0.0 ∙ l.invariant.sets;
      picker = c.in_ok-round.ensures.picker ∙ l.invariant.picker;
      plays = subst (λ q. IsPlaying c.args.most c.args.slice c.args.turns (picks_of q.now) c.args.hosts.now c.args.board.now.seats.items c.round.new.board.seats.items c.round.new.board.turn c.round.new.tally begun now) (sym c.in_ok-round.ensures.picker)
          (more c.args.most c.args.slice c.args.turns (picks_of l.board.picker.now) c.args.hosts.now c.args.board.now.seats.items _ l.board.seats.items l.board.turn l.tally _ l.invariant.plays l.invariant.sets tt
          c.round.new.board.seats.items c.round.new.board.turn c.round.new.tally _ (omega (arith, c.ranges.turns)) lt (rw c.if-not-some_goes.false at c.some_goes.ensures) gives);
    }

pub returns-in_err-round : goal.returns-in_err-round
returns-in_err-round g c =
    let l = c.turns in
    let begun = devices (g.I.Source.seen c.args.input.now) (g.O.Sink.seen c.args.output.now) (g.E.Sink.seen c.args.errors.now) (g.A.Ambient.seen c.args.ambient.now) in
    let now = devices (g.I.Source.seen c.round.new.input) (g.O.Sink.seen c.round.new.output) (g.E.Sink.seen c.round.new.errors) (g.A.Ambient.seen c.round.new.ambient) in
    let lt : length l.tally.picks.items < c.args.turns = (let ok = l.tally.picks.ok in omega (arith, c.turns-test.true, c.len.ensures, ok)) in
    let r = err_from_is_err_and c.from_residual.result c.from_residual.ensures.1 in
    rw r.1
    (subst (λ q. PlayGives c.args.most c.args.slice c.args.turns (picks_of q.now) c.args.hosts.now (Err r.0) c.args.board.now.seats.items c.round.new.board.seats.items c.round.new.tally begun now) l.invariant.picker
    (cut_short c.args.most c.args.slice c.args.turns (picks_of l.board.picker.now) c.args.hosts.now c.args.board.now.seats.items _ l.board.seats.items l.board.turn l.tally _ l.invariant.plays l.invariant.sets r.0
    c.round.new.board.seats.items c.round.new.board.turn c.round.new.tally c.round.new.tally c.round.new.board.seats.items _ (omega (arith, c.ranges.turns)) lt (rw c.if-not-some_goes.false at c.some_goes.ensures) c.in_err-round.ensures.round))

pub returns : goal.returns
returns g c =
    let l = c.turns in
    let begun = devices (g.I.Source.seen c.args.input.now) (g.O.Sink.seen c.args.output.now) (g.E.Sink.seen c.args.errors.now) (g.A.Ambient.seen c.args.ambient.now) in
    let now = devices (g.I.Source.seen l.input) (g.O.Sink.seen l.output) (g.E.Sink.seen l.errors) (g.A.Ambient.seen l.ambient) in
    let all : length l.tally.picks.items ≡ c.args.turns = (let ok = l.tally.picks.ok in let few = l.invariant.few in omega (arith, c.turns-test.false, c.len.ensures, ok, few)) in
    subst (λ q. PlayGives c.args.most c.args.slice c.args.turns (picks_of q.now) c.args.hosts.now (Ok tt) c.args.board.now.seats.items l.board.seats.items l.tally begun now) l.invariant.picker
    (ended c.args.most c.args.slice c.args.turns (picks_of l.board.picker.now) c.args.hosts.now c.args.board.now.seats.items _ l.board.seats.items l.board.turn l.tally _ l.invariant.plays l.invariant.sets tt (inl all))
