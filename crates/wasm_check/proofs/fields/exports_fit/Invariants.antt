use Rattle.std.proofs.Common.{◌≡◌, drop}
use Rattle.std.specs.List.{list_all}
use Rattle.spec_execution.specs.spec_validation.Faults.{export_fits}
use Rattle.wasm_check.proofs.fields.exports_fit.Given as goal

abbrev pub invariant-loop-export : goal.invariant-loop-export
invariant-loop-export l = list_all (export_fits l.m) (drop l.export-index l.m.exports) ≡ list_all (export_fits l.m) l.m.exports
