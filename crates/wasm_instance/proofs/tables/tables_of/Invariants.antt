use Rattle.std.proofs.Common.{◌≡◌, ◌++◌, drop, map}
use Rattle.spec_safety.specs.spec_execution.OneModule.{opened_table}
use Rattle.wasm_instance.proofs.tables.tables_of.Given as goal

abbrev pub invariant-loop-ty : goal.invariant-loop-ty
invariant-loop-ty l = l.tables.items ++ map opened_table (drop l.ty-index l.types) ≡ map opened_table l.types
