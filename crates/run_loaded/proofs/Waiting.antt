-- A run that isn't waiting for an answer.
use Rattle.std.proofs.Common.{◌≡◌, Bool, true, false, refl, ap, ◌∙◌}
use Rattle.std.specs.Prelude.{◌&&◌, not}
use Rattle.spec_hosts.specs.wasm_form.declared.runtime.Trap.{Trap}
use Rattle.spec_hosts.specs.spec_runs.Systems.{Status}
use Rattle.spec_hosts.specs.spec_runtime.Hosts.{HostCall}
use Rattle.spec_hosts.specs.spec_runtime.Recorded.{Recorded, waits, waits_unanswered}

both_false : (a : Bool) → (a && false) ≡ false
both_false true = refl
both_false false = refl

pub not_waiting : (x : Recorded) (status : Status HostCall Trap) → waits status ≡ false → waits_unanswered x status ≡ false
not_waiting x status still = ap (λ b. not x.answered && b) still ∙ both_false (not x.answered)
