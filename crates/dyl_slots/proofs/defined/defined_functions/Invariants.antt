use Rattle.std.proofs.Common.{◌≡◌, [], drop}
use Rattle.spec_loading.specs.spec_linking.Slots.{functions_with}
use Rattle.dyl_slots.proofs.defined.defined_functions.Given as goal

abbrev pub invariant-loop-e : goal.invariant-loop-e
invariant-loop-e l = functions_with l.m l.known (drop l.e-index l.m.exports) ≡ functions_with l.m [] l.m.exports
