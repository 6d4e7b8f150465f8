use Rattle.std.proofs.Common.{◌≡◌, drop}
use Rattle.std.specs.List.{list_all}
use Rattle.spec_execution.specs.spec_validation.Faults.{data_fits}
use Rattle.wasm_check.proofs.fields.datas_fit.Given as goal

abbrev pub invariant-loop-segment : goal.invariant-loop-segment
invariant-loop-segment l = list_all (data_fits l.m) (drop l.segment-index l.m.datas) ≡ list_all (data_fits l.m) l.m.datas
