use Rattle.std.proofs.Common.{◌≡◌, ◌++◌, drop}
use Rattle.spec_execution.specs.spec_binary.IndexSpaces.{imports_of, tables_in}
use Rattle.wasm_check.specs.Spaces.{entries}
use Rattle.wasm_check.proofs.spaces.imported_tables.Given as goal

abbrev pub invariant-loop-import : goal.invariant-loop-import
invariant-loop-import l = l.tables.items ++ entries (imports_of tables_in (drop l.import-index l.imports)) ≡ entries
    (imports_of tables_in l.imports)
