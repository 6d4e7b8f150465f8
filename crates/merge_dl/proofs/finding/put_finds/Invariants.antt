use Rattle.std.proofs.Common.{◌≡◌, ◌++◌, drop}
use Rattle.spec_loading.specs.Members.{from_members}
use Rattle.merge_dl.specs.Listed.{find_parts}
use Rattle.merge_dl.proofs.finding.put_finds.Given as goal

abbrev pub invariant-loop-m : goal.invariant-loop-m
invariant-loop-m l =
    l.to.items ++ from_members (find_parts l.linked) l.m (drop l.m l.linked.set.members) ≡ l.fn.to.items ++ from_members (find_parts l.linked) 0 l.linked.set.members
