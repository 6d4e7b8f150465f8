use Rattle.std.proofs.Common.{◌≡◌, drop}
use Rattle.merge_whole.specs.Counts.{members_of, size_in, total}
use Rattle.merge_whole.proofs.built.counts.total.Given as goal

abbrev pub invariant-loop-member : goal.invariant-loop-member
invariant-loop-member l =
    total (size_in l.space) l.next (members_of (drop l.member-index l.members)) ≡ total (size_in l.space) l.start (members_of l.members)
