use Rattle.std.proofs.Common.{◌≡◌, ◌++◌, drop}
use Rattle.merge_whole.proofs.built.tables.put_tables.Given as goal

abbrev pub invariant-loop-ty : goal.invariant-loop-ty
invariant-loop-ty l = l.to.items ++ drop l.ty-index l.tables ≡ l.fn.to.items ++ l.tables
