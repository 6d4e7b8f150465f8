use Rattle.std.proofs.Common.{◌≡◌, ◌++◌, drop}
use Rattle.merge_whole.specs.Built.{joined, one_of}
use Rattle.merge_whole.proofs.built.funcs.put_each.Given as goal

abbrev pub invariant-loop-member : goal.invariant-loop-member
invariant-loop-member l =
    l.to.items ++ joined (one_of l.t) l._member-index (drop l._member-index l.members)
    ≡ l.fn.to.items ++ joined (one_of l.t) 0 l.members
