use Rattle.std.proofs.Common.{◌≡◌, ◌++◌, drop}
use Rattle.spec_loading.specs.Members.{from_members}
use Rattle.snap_merge.specs.Added.{one_left}
use Rattle.snap_merge.proofs.added.segments_left.Given as goal

abbrev pub invariant-loop-m : goal.invariant-loop-m
invariant-loop-m l =
    l.all.items ++ from_members (one_left l.stages l.linked) l.m (drop l.m l.linked.set.members) ≡ from_members (one_left l.stages l.linked) 0 l.linked.set.members
