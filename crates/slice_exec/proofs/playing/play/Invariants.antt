-- The turns that were taken, and what was done to the devices since the first one.
use Rattle.std.proofs.Common.{◌≡◌, ◌≤◌, ◌-◌, length}
use Rattle.spec_hosts.specs.Devices.{devices}
use Rattle.slice_board.specs.Taken.{picks_of}
use Rattle.slice_exec.specs.Playing.{sets_in, IsPlaying}
use Rattle.slice_exec.proofs.playing.play.Given as goal

abbrev pub invariant-turns : goal.invariant-turns
invariant-turns g l = record {
  few : length l.tally.picks.items ≤ l.turns;
  sets : sets_in l.board.seats.items ≡ sets_in l.fn.board.seats.items;
  picker : l.board.picker ≡ l.fn.board.picker;
  plays : IsPlaying l.most l.slice l.turns (picks_of l.board.picker.now) l.hosts l.fn.board.seats.items l.board.seats.items l.board.turn l.tally
      (devices (g.I.Source.seen l.fn.input) (g.O.Sink.seen l.fn.output) (g.E.Sink.seen l.fn.errors) (g.A.Ambient.seen l.fn.ambient))
      (devices (g.I.Source.seen l.input) (g.O.Sink.seen l.output) (g.E.Sink.seen l.errors) (g.A.Ambient.seen l.ambient));
}

abbrev pub decreases-turns : goal.decreases-turns
decreases-turns g l = l.turns - length l.tally.picks.items
