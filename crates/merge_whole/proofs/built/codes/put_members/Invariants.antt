use Rattle.std.proofs.Common.{◌≡◌, ◌++◌, drop}
use Rattle.spec_loading.specs.Members.{from_members}
use Rattle.merge_index.specs.Kept.{numbers_in}
use Rattle.merge_whole.specs.Built.{bodies_of}
use Rattle.merge_whole.proofs.built.codes.put_members.Given as goal

abbrev pub invariant-loop-m : goal.invariant-loop-m
invariant-loop-m l =
    l.to.items ++ from_members (bodies_of (numbers_in l.n)) l.m (drop l.m l.linked.set.members)
    ≡ l.fn.to.items ++ from_members (bodies_of (numbers_in l.n)) 0 l.linked.set.members
