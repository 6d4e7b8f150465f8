use Rattle.std.proofs.Common.{◌≡◌}
use Rattle.snap_merge.proofs.Places.{IsBeyond}
use Rattle.snap_merge.proofs.added.place_of.Given as goal

abbrev pub invariant-loop-other : goal.invariant-loop-other
invariant-loop-other l = record {
  at : l.place ≡ l.other-index;
  beyond : IsBeyond l.m l.promoted l.other-index l.place;
}
