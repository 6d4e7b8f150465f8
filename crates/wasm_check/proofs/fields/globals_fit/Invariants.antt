use Rattle.std.proofs.Common.{◌≡◌, drop}
use Rattle.std.specs.List.{list_all}
use Rattle.spec_execution.specs.spec_validation.Faults.{global_fits}
use Rattle.wasm_check.proofs.fields.globals_fit.Given as goal

abbrev pub invariant-loop-global : goal.invariant-loop-global
invariant-loop-global l = list_all (global_fits l.m) (drop l.global-index l.m.globals) ≡ list_all (global_fits l.m) l.m.globals
