use Rattle.std.proofs.Common.{◌≡◌, ◌++◌, drop}
use Rattle.merge_index.specs.Kept.{numbers_in}
use Rattle.merge_whole.specs.Built.{joined, funcs_of}
use Rattle.merge_whole.proofs.built.funcs.put_members.Given as goal

abbrev pub invariant-loop-member : goal.invariant-loop-member
invariant-loop-member l = record {
  put : l.to.items ++ joined (funcs_of (numbers_in l.n)) l.m (drop l.member-index l.members) ≡ l.fn.to.items ++ joined (funcs_of (numbers_in l.n)) 0 l.members;
  at : l.m ≡ l.member-index;
}
