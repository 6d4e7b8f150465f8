use Rattle.std.proofs.Common.{◌≡◌, ◌++◌, drop}
use Rattle.snap_parts.specs.Zips.{zip_by, global_by}
use Rattle.snap_parts.proofs.globals.with_values.Given as goal

abbrev pub invariant-loop-k : goal.invariant-loop-k
invariant-loop-k l = l.list.items ++ zip_by global_by (drop l.k l.globals) (drop l.k l.values) ≡ zip_by global_by l.globals l.values
