use Rattle.std.proofs.Common.{◌≡◌, drop}
use Rattle.merge_index.specs.Lists.{stubs_end}
use Rattle.merge_index.proofs.functions.stubs_end.Given as goal

abbrev pub invariant-loop-r : goal.invariant-loop-r
invariant-loop-r l = stubs_end l.next (drop l.r-index l.refs) ≡ stubs_end l.stub l.refs
