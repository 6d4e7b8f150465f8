use Rattle.std.proofs.Common.{◌≡◌, drop}
use Rattle.spec_execution.specs.spec_binary.Exports.{exported_as}
use Rattle.wasm_check.proofs.exports.exported.Given as goal

abbrev pub invariant-loop-export : goal.invariant-loop-export
invariant-loop-export l = exported_as l.name (drop l.export-index l.m.exports) ≡ exported_as l.name l.m.exports
