use Rattle.std.proofs.Common.{◌≡◌, ◌++◌, drop, [], unwrap_or}
use Rattle.dyl_front.specs.Lines.{board_lines}
use Rattle.dyl_front.proofs.boards.put_programs.Given as goal

abbrev pub invariant-loop-p : goal.invariant-loop-p
invariant-loop-p l = l.to.items ++ unwrap_or (board_lines l.p (drop l.p l.runs)) [] ≡ l.fn.to.items ++ unwrap_or (board_lines 0 l.runs) []
