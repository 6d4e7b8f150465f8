use Rattle.std.proofs.Common.{◌≡◌, ◌++◌, drop}
use Rattle.merge_pieces.specs.Code.{phase_calls}
use Rattle.merge_pieces.proofs.code.push_phase.Given as goal

abbrev pub invariant-loop-m : goal.invariant-loop-m
invariant-loop-m l =
    l.code.items ++ phase_calls l.first l.before (drop l.m-index l.members) ≡ l.fn.code.items ++ phase_calls l.first l.before l.members
