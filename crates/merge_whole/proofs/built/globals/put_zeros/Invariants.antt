use Rattle.std.proofs.Common.{◌≡◌, ◌++◌, drop}
use Rattle.merge_whole.specs.GlobalDefs.{zeros_for}
use Rattle.merge_whole.proofs.built.globals.put_zeros.Given as goal

abbrev pub invariant-loop-member : goal.invariant-loop-member
invariant-loop-member l = l.to.items ++ zeros_for (drop l._member-index l.members) ≡ l.fn.to.items ++ zeros_for l.members
