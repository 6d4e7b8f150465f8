-- Findings one after the other.
use Rattle.std.proofs.Common.{refl}
use Rattle.spec_execution.specs.spec_validation.declared.fault.CheckFault.{CheckFault}
use Rattle.spec_execution.specs.spec_validation.Faults.{Finding, ◌or_else◌}
use Rattle.wasm_check.specs.Answers.{IsFirst}

-- what is found first is found before all that comes later
pub first_stays : (fault : CheckFault) (a b : Finding) → IsFirst fault a → IsFirst fault (a or_else b)
first_stays fault a b h = λ other. rw (h other) refl
