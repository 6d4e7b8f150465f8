use Rattle.std.proofs.Common.{◌≡◌, ◌++◌, drop, map}
use Rattle.merge_match.specs.Renumbering.{expr}
use Rattle.merge_start.specs.Passive.{functions_at}
use Rattle.merge_start.proofs.passive.item_exprs.Given as goal

abbrev pub invariant-loop-e : goal.invariant-loop-e
invariant-loop-e l = l.list.items ++ map (expr (functions_at l.functions l.s) 0) (drop l.e-index l.es) ≡ map (expr (functions_at l.functions l.s) 0) l.es
