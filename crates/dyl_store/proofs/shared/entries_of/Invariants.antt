use Rattle.std.proofs.Common.{◌≡◌, ◌++◌, drop, map, Some}
use Rattle.dyl_store.proofs.shared.entries_of.Given as goal

abbrev pub invariant-loop-r : goal.invariant-loop-r
invariant-loop-r l = l.entries.items ++ map Some (drop l.r-index l.refs) ≡ map Some l.refs
