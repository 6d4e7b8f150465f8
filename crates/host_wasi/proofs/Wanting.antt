-- What came of what is wanted.
use Rattle.std.proofs.Common.{Result, Ok, Err, IfOk, OnErr}
use Rattle.spec_hosts.specs.wasm_form.declared.memory.Memory.{Memory}
use Rattle.spec_hosts.specs.wasm_form.declared.runtime.Answer.{Answer}
use Rattle.spec_hosts.specs.Devices.{Devices}
use Rattle.spec_hosts.specs.Calls.{Wanted}
use Rattle.spec_hosts.specs.Hosted.{IsAnswered, MayBegin, ComesTo}

pub comes_to : (wanted : Wanted) (result : Result Answer Memory) (old new : Devices) → IfOk result (λ a. IsAnswered wanted a old new) → OnErr result (MayBegin wanted old new) → ComesTo wanted result old new
comes_to wanted (Ok answer) old new answered begun = answered
comes_to wanted (Err why) old new answered begun = begun
