use Rattle.std.proofs.Common.{◌≡◌, ◌++◌, drop}
use Rattle.merge_index.specs.Lists.{known_of, named_lists, all_stubs_end}
use Rattle.merge_index.proofs.functions.named_lists.Given as goal

abbrev pub invariant-loop-named : goal.invariant-loop-named
invariant-loop-named l = record {
  lists : l.lists.items ++ named_lists (known_of l.known) l.next (drop l.named-index l.refs) ≡ named_lists (known_of l.known) l.stub l.refs;
  end : all_stubs_end l.next (drop l.named-index l.refs) ≡ all_stubs_end l.stub l.refs;
}
