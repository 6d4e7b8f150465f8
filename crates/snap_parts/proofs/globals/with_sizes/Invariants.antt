use Rattle.std.proofs.Common.{◌≡◌, ◌++◌, drop}
use Rattle.snap_parts.specs.Zips.{zip_by, table_by}
use Rattle.snap_parts.proofs.globals.with_sizes.Given as goal

abbrev pub invariant-loop-k : goal.invariant-loop-k
invariant-loop-k l = l.list.items ++ zip_by table_by (drop l.k l.tables) (drop l.k l.now) ≡ zip_by table_by l.tables l.now
