use Rattle.std.proofs.Common.{◌≡◌, take, map}
use Rattle.spec_loading.specs.spec_linking.LinkedSets.{LinkedSet}
use Rattle.slice_exec.specs.Playing.{new_seat}
use Rattle.slice_exec.proofs.opening.seat_all.Given as goal

abbrev pub invariant-loop-linked : goal.invariant-loop-linked
invariant-loop-linked g l = record {
  seated : l.board.seats.items ≡ map (new_seat l.most) (take l.linked-index l.sets);
  written : l.written.items ≡ map (λ (L : LinkedSet). 0) (take l.linked-index l.sets);
  turn : l.board.turn ≡ l.fn.board.turn;
  picker : l.board.picker ≡ l.fn.board.picker;
}
