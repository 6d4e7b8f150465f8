use Rattle.std.proofs.Common.{◌≡◌, ◌+◌, drop, length}
use Rattle.merge_whole.specs.Built.{joined, types_of}
use Rattle.merge_whole.proofs.built.imports.type_count.Given as goal

abbrev pub invariant-loop-member : goal.invariant-loop-member
invariant-loop-member l =
    l.count + length (joined types_of l.member-index (drop l.member-index l.members)) ≡ length (joined types_of 0 l.members)
