use Rattle.std.proofs.Common.{◌≡◌, ◌++◌, drop}
use Rattle.merge_whole.specs.Built.{joined, tables_of}
use Rattle.merge_whole.proofs.built.tables.put_members.Given as goal

abbrev pub invariant-loop-member : goal.invariant-loop-member
invariant-loop-member l =
    l.to.items ++ joined tables_of l.member-index (drop l.member-index l.members) ≡ l.fn.to.items ++ joined tables_of 0 l.members
