use Rattle.std.proofs.Common.{◌≡◌, ◌++◌, drop, map}
use Rattle.merge_match.specs.Renumbering.{instr}
use Rattle.merge_start.specs.Passive.{functions_at}
use Rattle.merge_start.proofs.passive.item_list.Given as goal

abbrev pub invariant-loop-i : goal.invariant-loop-i
invariant-loop-i l = l.list.items ++ map (instr (functions_at l.functions l.s) 0) (drop l.i-index l.is) ≡ map (instr (functions_at l.functions l.s) 0) l.is
