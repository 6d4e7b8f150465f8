use Rattle.std.proofs.Common.{◌≡◌, map, take}
use Rattle.merge_match.specs.Renumbering.{instr}
use Rattle.merge_index.specs.Kept.{numbers_in}
use Rattle.merge_index.proofs.rename.+rename.Given as goal

abbrev pub invariant-rename_list-loop-i : goal.invariant-rename_list-loop-i
invariant-rename_list-loop-i l = l.out.items ≡ map (instr (numbers_in l.n) l.m) (take l.i-index l.is)
