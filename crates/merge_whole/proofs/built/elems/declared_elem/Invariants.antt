use Rattle.std.proofs.Common.{◌≡◌, ◌++◌, drop}
use Rattle.spec_loading.specs.Members.{from_members}
use Rattle.merge_whole.specs.Elements.{exported_numbers}
use Rattle.merge_index.specs.Kept.{numbers_in}
use Rattle.merge_whole.proofs.built.elems.declared_elem.Given as goal

abbrev pub invariant-loop-m : goal.invariant-loop-m
invariant-loop-m l =
    l.list.items ++ from_members (exported_numbers (numbers_in l.n)) l.m (drop l.m l.linked.set.members)
    ≡ from_members (exported_numbers (numbers_in l.n)) 0 l.linked.set.members
