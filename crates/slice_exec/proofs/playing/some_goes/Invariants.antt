use Rattle.std.proofs.Common.{take}
use Rattle.slice_exec.specs.Playing.{AllDone}
use Rattle.slice_exec.proofs.playing.some_goes.Given as goal

abbrev pub invariant-loop-p : goal.invariant-loop-p
invariant-loop-p g l = AllDone l.most (take l.p l.board.seats.items)
