use Rattle.std.proofs.Common.{◌≡◌, ◌++◌, drop}
use Rattle.std.specs.List.{All}
use Rattle.merge_find.specs.Decisions.{strings}
use Rattle.merge_find.specs.Building.{names_of, HasText}
use Rattle.merge_dl.specs.Words.{named_members}
use Rattle.merge_dl.specs.Listed.{starts_in}
use Rattle.merge_dl.proofs.dlopen.named_members.Given as goal

abbrev pub invariant-loop-m : goal.invariant-loop-m
invariant-loop-m l = record {
  names : names_of l.names.items ++ strings (named_members l.linked (starts_in l.n) l.m (drop l.m l.linked.set.members))
      ≡ strings (named_members l.linked (starts_in l.n) 0 l.linked.set.members);
  texts : All HasText l.names.items;
}
