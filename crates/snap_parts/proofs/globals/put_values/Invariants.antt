use Rattle.std.proofs.Common.{◌≡◌, ◌++◌, map, take}
use Rattle.merge_match.specs.Renumbering.{value}
use Rattle.merge_index.specs.Kept.{numbers_in}
use Rattle.snap_parts.proofs.globals.put_values.Given as goal

abbrev pub invariant-loop-v : goal.invariant-loop-v
invariant-loop-v l = l.to.items ≡ l.fn.to.items ++ map (value (numbers_in l.numbers)) (take l.v-index l.globals)
