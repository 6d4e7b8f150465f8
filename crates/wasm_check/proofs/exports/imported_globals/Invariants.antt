use Rattle.std.proofs.Common.{◌≡◌, ◌+◌, ◌≤◌, drop, length}
use Rattle.spec_execution.specs.spec_binary.IndexSpaces.{globals_in, imports_of}
use Rattle.wasm_check.proofs.exports.imported_globals.Given as goal

abbrev pub invariant-loop-import : goal.invariant-loop-import
invariant-loop-import l = record {
  counted : l.count + length (imports_of globals_in (drop l.import-index l.imports)) ≡ length (imports_of globals_in l.imports);
  few : l.count ≤ l.import-index;
}
