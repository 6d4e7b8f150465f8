-- The host relation: a chain of host calls with their answers, and what they do to the devices.
-- By WASI preview 1 and docs/FORMATS.md, "WASI calls".
use Rattle.std.specs.Prelude.{◌≡◌, ◌⊎◌, ℕ, zero, suc, List, [], ◌∷◌, ◌++◌, Bool, true, false, bytes_eq, Result, Ok, Err, Vec}
use Rattle.std.specs.declared.alloc.Global.{Global}
use Rattle.dyl_outside.specs.declared.fault.IoFault.{IoFault}
use Rattle.dyl_outside.specs.declared.fault.IoFault.TheVariants.{Failed, Memory}
use Rattle.dyl_outside.specs.Source.{SourceState, Takes}
use Rattle.dyl_outside.specs.Sink.{SinkState, Puts}
use Rattle.dyl_outside.specs.Ambient.{AmbientState, GivesTime, GivesWord}
use Rattle.spec_runtime.specs.wasm_form.declared.memory.Memory as wanting
use Rattle.spec_runtime.specs.wasm_form.declared.runtime.Answer.{Answer}
use Rattle.spec_runtime.specs.Memories.{MemoryInstance}
use Rattle.spec_runtime.specs.Names.{HostNames}
use Rattle.spec_runtime.specs.Hosts.{HostCall}
use Rattle.spec_hosts.specs.Devices.{Devices}
use Rattle.spec_hosts.specs.Calls as calls

-- ---- one use of a device

-- The answer where a use succeeded, or the errno of a device where it failed; a use that wants memory has no answer.
abbrev pub AfterUse : {A : Type 0} → (A → Answer) → Answer → Result A IoFault → Type 0
AfterUse go answer (Ok value) = answer ≡ go value
AfterUse go answer (Err Failed) = answer ≡ calls.refused calls.io
AfterUse go answer (Err Memory) = ⊥

-- what follows a word, or a device that failed
abbrev pub AfterWord : (ℕ → AmbientState → Type 0) → Answer → AmbientState → AmbientState → Result ℕ IoFault → Type 0
AfterWord more answer middle new (Ok word) = more word middle
AfterWord more answer middle new (Err Failed) = (answer ≡ calls.refused calls.io) × (new ≡ middle)
AfterWord more answer middle new (Err Memory) = ⊥

-- so many words are drawn after these; the first that fails ends it
abbrev pub Draws : ℕ → List ℕ → (List ℕ → Answer) → Answer → AmbientState → AmbientState → Type 0
Draws zero words go answer old new = (answer ≡ go words) × (new ≡ old)
Draws (suc n) words go answer old new =
    (result : Result ℕ IoFault) × (middle : AmbientState) × GivesWord result old middle × AfterWord (λ word clock. Draws n (words ++ word ∷ []) go answer clock new) answer middle new result

-- what is wanted is answered, over the devices before and after
abbrev pub IsAnswered : calls.Wanted → Answer → Devices → Devices → Type 0
IsAnswered (calls.Says said) answer old new = (answer ≡ said) × (new ≡ old)
IsAnswered (calls.PutsOut bytes said) answer old new =
    (result : Result (Unit {0}) IoFault) × (output : SinkState) × Puts bytes result old.output output × (new ≡ record old { output = output }) × AfterUse (λ _. said) answer result
IsAnswered (calls.PutsError bytes said) answer old new =
    (result : Result (Unit {0}) IoFault) × (output : SinkState) × Puts bytes result old.errors output × (new ≡ record old { errors = output }) × AfterUse (λ _. said) answer result
IsAnswered (calls.Takes most go) answer old new =
    (result : Result (Vec ℕ Global) IoFault) × (input : SourceState) × Takes most result old.input input × (new ≡ record old { input = input }) × AfterUse (λ bytes. go bytes.items) answer result
IsAnswered (calls.Times go) answer old new =
    (result : Result ℕ IoFault) × (clock : AmbientState) × GivesTime result old.ambient clock × (new ≡ record old { ambient = clock }) × AfterUse go answer result
IsAnswered (calls.Draws n go) answer old new = (clock : AmbientState) × Draws n [] go answer old.ambient clock × (new ≡ record old { ambient = clock })

-- ---- a use that was begun, whatever came of it

-- some of so many words were drawn
abbrev pub DrawsSome : ℕ → AmbientState → AmbientState → Type 0
DrawsSome zero old new = new ≡ old
DrawsSome (suc n) old new = (new ≡ old) ⊎ ((result : Result ℕ IoFault) × (middle : AmbientState) × GivesWord result old middle × DrawsSome n middle new)

-- what is wanted was begun, and not answered
abbrev pub IsBegun : calls.Wanted → Devices → Devices → Type 0
IsBegun (calls.Says said) old new = new ≡ old
IsBegun (calls.PutsOut bytes said) old new =
    (result : Result (Unit {0}) IoFault) × (output : SinkState) × Puts bytes result old.output output × (new ≡ record old { output = output })
IsBegun (calls.PutsError bytes said) old new =
    (result : Result (Unit {0}) IoFault) × (output : SinkState) × Puts bytes result old.errors output × (new ≡ record old { errors = output })
IsBegun (calls.Takes most go) old new =
    (result : Result (Vec ℕ Global) IoFault) × (input : SourceState) × Takes most result old.input input × (new ≡ record old { input = input })
IsBegun (calls.Times go) old new = (result : Result ℕ IoFault) × (clock : AmbientState) × GivesTime result old.ambient clock × (new ≡ record old { ambient = clock })
IsBegun (calls.Draws n go) old new = (clock : AmbientState) × DrawsSome n old.ambient clock × (new ≡ record old { ambient = clock })

-- nothing was done, or what is wanted was begun
abbrev pub MayBegin : calls.Wanted → Devices → Devices → Type 0
MayBegin wanted old new = (new ≡ old) ⊎ IsBegun wanted old new

-- What came of what is wanted: it was answered, or memory was wanting.
abbrev pub ComesTo : calls.Wanted → Result Answer wanting.Memory → Devices → Devices → Type 0
ComesTo wanted (Ok answer) old new = IsAnswered wanted answer old new
ComesTo wanted (Err why) old new = MayBegin wanted old new

-- ---- the calls of a run

-- What answers the host calls of a run: the names that are declared, the arguments of the program, which WASI tells, and what may be
-- answered to a call that isn't of WASI.
pub record Embedder : Type 1 where
  pub names : HostNames
  pub arguments : List (List ℕ)
  pub callback : HostCall → MemoryInstance → Answer → Type 0

-- one of these, by a test
abbrev pub OneOf : Bool → Type 0 → Type 0 → Type 0
OneOf true A B = A
OneOf false A B = B

abbrev pub is_wasi : HostCall → Bool
is_wasi call = bytes_eq call.host.module_name calls.wasi_name

-- what a call of WASI on a memory wants
abbrev pub wants : Embedder → HostCall → MemoryInstance → calls.Wanted
wants embedder call memory = calls.wanted embedder.arguments memory call.host.name call.args

-- One call: one of WASI is answered by its table, and another by its callback, which leaves the devices.
abbrev pub IsHosted : Embedder → HostCall × MemoryInstance → Answer → Devices → Devices → Type 0
IsHosted embedder event answer old new =
    OneOf (is_wasi event.0) (IsAnswered (wants embedder event.0 event.1) answer old new) (embedder.callback event.0 event.1 answer × (new ≡ old))

-- calls in order, each with its answer
abbrev pub Hosted : Embedder → List (HostCall × MemoryInstance) → List Answer → Devices → Devices → Type 0
Hosted embedder [] [] old new = new ≡ old
Hosted embedder (e ∷ es) (a ∷ answers) old new = (middle : Devices) × IsHosted embedder e a old middle × Hosted embedder es answers middle new
Hosted embedder _ _ old new = ⊥

-- At most the one use that a call wants was begun; a callback leaves the devices.
abbrev pub IsBroken : Embedder → HostCall × MemoryInstance → Devices → Devices → Type 0
IsBroken embedder event old new = OneOf (is_wasi event.0) (MayBegin (wants embedder event.0 event.1) old new) (new ≡ old)

-- What came of a call: it was answered, or memory was wanting.
abbrev pub CallComesTo : Embedder → HostCall × MemoryInstance → Result Answer wanting.Memory → Devices → Devices → Type 0
CallComesTo embedder event (Ok answer) old new = IsHosted embedder event answer old new
CallComesTo embedder event (Err why) old new = IsBroken embedder event old new

-- at most the one use of the call that a state waits for, if it waits
abbrev pub BreaksOff : Embedder → List (HostCall × MemoryInstance) → Devices → Devices → Type 0
BreaksOff embedder [] old new = new ≡ old
BreaksOff embedder (e ∷ es) old new = IsBroken embedder e old new
