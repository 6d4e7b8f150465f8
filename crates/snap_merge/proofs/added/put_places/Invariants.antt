use Rattle.std.proofs.Common.{◌≡◌, ◌++◌, drop}
use Rattle.spec_loading.specs.Members.{from_members}
use Rattle.merge_whole.specs.Counts.{members_of}
use Rattle.snap_merge.specs.Added.{one_place}
use Rattle.snap_merge.proofs.added.put_places.Given as goal

abbrev pub invariant-loop-member : goal.invariant-loop-member
invariant-loop-member l = record {
  put : l.to.items ++ from_members (one_place l.promoted) l.m (members_of (drop l._member-index l.members)) ≡ l.fn.to.items ++ from_members (one_place l.promoted) 0 (members_of l.members);
  at : l.m ≡ l._member-index;
}
