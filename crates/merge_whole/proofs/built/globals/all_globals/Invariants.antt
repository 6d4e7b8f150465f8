use Rattle.std.proofs.Common.{◌≡◌, ◌++◌, drop}
use Rattle.spec_loading.specs.Members.{from_members}
use Rattle.merge_index.specs.Kept.{numbers_in}
use Rattle.merge_whole.specs.GlobalDefs.{globals_by, all_globals}
use Rattle.merge_whole.proofs.built.globals.all_globals.Given as goal

abbrev pub invariant-loop-m : goal.invariant-loop-m
invariant-loop-m l =
    l.list.items ++ from_members (globals_by l.linked (numbers_in l.n)) l.m (drop l.m l.linked.set.members) ≡ all_globals l.linked (numbers_in l.n)
