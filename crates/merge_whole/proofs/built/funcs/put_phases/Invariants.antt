use Rattle.std.proofs.Common.{◌≡◌, ◌++◌, drop}
use Rattle.merge_whole.specs.Built.{joined, four_of}
use Rattle.merge_whole.proofs.built.funcs.put_phases.Given as goal

abbrev pub invariant-loop-member : goal.invariant-loop-member
invariant-loop-member l =
    l.to.items ++ joined (four_of l.t) l._member-index (drop l._member-index l.members)
    ≡ l.fn.to.items ++ joined (four_of l.t) 0 l.members
