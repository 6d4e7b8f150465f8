use Rattle.std.proofs.Common.{◌≡◌, ◌++◌, drop}
use Rattle.merge_whole.specs.Built.{joined, traps_of}
use Rattle.merge_whole.proofs.built.codes.put_stubs.Given as goal

abbrev pub invariant-loop-member : goal.invariant-loop-member
invariant-loop-member l = record {
  put : l.to.items ++ joined (traps_of l.linked) l.m (drop l.member-index l.members) ≡ l.fn.to.items ++ joined (traps_of l.linked) 0 l.members;
  at : l.m ≡ l.member-index;
}
