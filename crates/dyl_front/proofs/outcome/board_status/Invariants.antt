use Rattle.std.proofs.Common.{◌≡◌, drop}
use Rattle.dyl_front.specs.Status.{board_status}
use Rattle.dyl_front.proofs.outcome.board_status.Given as goal

abbrev pub invariant-loop-run : goal.invariant-loop-run
invariant-loop-run l = board_status (drop l.run-index l.runs) ≡ board_status l.runs
