use Rattle.std.proofs.Common.{◌≡◌, ◌+◌, ◌≤◌, drop, length}
use Rattle.spec_execution.specs.spec_binary.IndexSpaces.{imports_of, memories_in}
use Rattle.wasm_check.proofs.spaces.imported_memories.Given as goal

abbrev pub invariant-loop-import : goal.invariant-loop-import
invariant-loop-import l = record {
  told : l.count + length (imports_of memories_in (drop l.import-index l.imports)) ≡ length
      (imports_of memories_in l.imports);
  few : l.count ≤ l.import-index;
}
