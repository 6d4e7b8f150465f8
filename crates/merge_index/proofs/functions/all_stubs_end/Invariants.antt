use Rattle.std.proofs.Common.{◌≡◌, drop}
use Rattle.merge_index.specs.Lists.{all_stubs_end}
use Rattle.merge_index.proofs.functions.all_stubs_end.Given as goal

abbrev pub invariant-loop-named : goal.invariant-loop-named
invariant-loop-named l = all_stubs_end l.next (drop l.named-index l.refs) ≡ all_stubs_end l.stub l.refs
