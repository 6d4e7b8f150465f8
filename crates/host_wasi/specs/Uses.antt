-- One use of a device, and the answer that came of it, if memory could be had for that.
-- Serves the contracts of this crate, which follow Hosted of `spec_hosts`.
use Rattle.std.specs.Prelude.{ℕ, List, [], Option, Result, Ok, Err, IfOk, Vec}
use Rattle.std.specs.Option.{option_map}
use Rattle.std.specs.declared.alloc.Global.{Global}
use Rattle.spec_hosts.specs.dyl_outside.declared.fault.IoFault.{IoFault}
use Rattle.spec_hosts.specs.dyl_outside.declared.fault.IoFault.TheVariants.{Failed, Memory}
use Rattle.spec_hosts.specs.dyl_outside.Source.{SourceState, Takes}
use Rattle.spec_hosts.specs.dyl_outside.Sink.{SinkState, Puts}
use Rattle.spec_hosts.specs.dyl_outside.Ambient.{AmbientState, GivesTime}
use Rattle.spec_hosts.specs.wasm_form.declared.memory.Memory as wanting
use Rattle.spec_hosts.specs.wasm_form.declared.runtime.Answer.{Answer}
use Rattle.spec_hosts.specs.spec_runtime.Memories.{MemoryInstance}
use Rattle.spec_hosts.specs.Devices.{Devices}
use Rattle.spec_hosts.specs.Calls as calls
use Rattle.spec_hosts.specs.Hosted.{AfterUse, Draws, ComesTo}
use Rattle.host_wasi.specs.declared.calls.Call.{Call}
use Rattle.host_wasi.specs.Wants.{meant}

-- these bytes were put
abbrev pub PutAnswered : List ℕ → Answer → Result Answer wanting.Memory → SinkState → SinkState → Type 0
PutAnswered bytes said answered old new = (result : Result (Unit {0}) IoFault) × Puts bytes result old new × IfOk answered (λ a. AfterUse (λ _. said) a result)

-- so many bytes at most were taken
abbrev pub TakeAnswered : ℕ → (List ℕ → Answer) → Result Answer wanting.Memory → SourceState → SourceState → Type 0
TakeAnswered most go answered old new = (result : Result (Vec ℕ Global) IoFault) × Takes most result old new × IfOk answered (λ a. AfterUse (λ bytes. go bytes.items) a result)

-- the time was told
abbrev pub TimeAnswered : (ℕ → Answer) → Result Answer wanting.Memory → AmbientState → AmbientState → Type 0
TimeAnswered go answered old new = (result : Result ℕ IoFault) × GivesTime result old new × IfOk answered (λ a. AfterUse go a result)

-- what drawing so many words came to, whatever is answered by them
abbrev pub Drawn : ℕ → Result (Vec ℕ Global) IoFault → AmbientState → AmbientState → Type 0
Drawn n (Ok words) old new = (go : List ℕ → Answer) → Draws n [] go (go words.items) old new
Drawn n (Err Failed) old new = (go : List ℕ → Answer) → Draws n [] go (calls.refused calls.io) old new
Drawn n (Err Memory) old new = Unit {0}

-- what came of a call, if the name is that of one
abbrev pub ComesToWhere : List (List ℕ) → MemoryInstance → Option Call → List ℕ → Result Answer wanting.Memory → Devices → Devices → Type 0
ComesToWhere texts memory call args result old new = ComesTo (calls.wanted_where texts memory (option_map meant call) args) result old new
