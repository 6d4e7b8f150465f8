use Rattle.std.proofs.Common.{◌≡◌, ◌++◌, drop}
use Rattle.merge_index.specs.Lists.{known_of, named_from, stubs_end}
use Rattle.merge_index.proofs.functions.named_from.Given as goal

abbrev pub invariant-loop-r : goal.invariant-loop-r
invariant-loop-r l = record {
  named : l.list.items ++ named_from (known_of l.known) l.next (drop l.r-index l.refs) ≡ named_from (known_of l.known) l.stub l.refs;
  end : stubs_end l.next (drop l.r-index l.refs) ≡ stubs_end l.stub l.refs;
}
