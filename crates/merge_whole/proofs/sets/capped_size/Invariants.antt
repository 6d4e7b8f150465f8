use Rattle.std.proofs.Common.{◌≡◌, ◌≤◌, ◌+◌, min, drop}
use Rattle.merge_whole.specs.Counts.{members_of, sizes}
use Rattle.merge_whole.proofs.sets.capped_size.Given as goal

abbrev pub invariant-loop-member : goal.invariant-loop-member
invariant-loop-member l = record {
  few : l.size ≤ 16777216;
  told : min (l.size + sizes (members_of (drop l.member-index l.members))) 16777216 ≡ min (sizes (members_of l.members)) 16777216;
}
