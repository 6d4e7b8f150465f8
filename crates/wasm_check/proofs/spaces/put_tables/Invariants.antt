use Rattle.std.proofs.Common.{◌≡◌, ◌++◌, drop}
use Rattle.wasm_check.specs.Spaces.{entries}
use Rattle.wasm_check.proofs.spaces.put_tables.Given as goal

abbrev pub invariant-loop-ty : goal.invariant-loop-ty
invariant-loop-ty l = l.to.items ++ entries (drop l.ty-index l.tables) ≡ l.fn.to.items ++ entries l.tables
