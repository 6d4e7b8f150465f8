use Rattle.std.proofs.Common.{◌≡◌, ◌++◌, drop}
use Rattle.spec_execution.specs.spec_binary.IndexSpaces.{imports_of, globals_in}
use Rattle.wasm_check.proofs.spaces.imported_globals.Given as goal

abbrev pub invariant-loop-import : goal.invariant-loop-import
invariant-loop-import l = l.globals.items ++ imports_of globals_in (drop l.import-index l.imports) ≡ imports_of globals_in l.imports
