-- A run that is driven: what is kept of it between its steps.
-- Serves the contracts of this crate, which follow Ends and Hosted of `spec_hosts`.
use Rattle.std.specs.Prelude.{◌≡◌, ◌<◌, ℕ, List, ◌++◌, map, sum, Option, Some, None, true, false, Result, Ok, Err, OnOk, IsTrue}
use Rattle.spec_hosts.specs.wasm_form.declared.memory.Memory.{Memory}
use Rattle.spec_hosts.specs.wasm_form.declared.runtime.Trap.{Trap}
use Rattle.spec_hosts.specs.wasm_form.declared.runtime.Answer.{Answer}
use Rattle.spec_hosts.specs.wasm_form.declared.runtime.Asked.{Asked}
use Rattle.spec_hosts.specs.spec_runs.Systems.{Status, Moving, Waits}
use Rattle.spec_hosts.specs.spec_runs.Systems as systems
use Rattle.spec_hosts.specs.spec_runtime.Memories.{MemoryInstance}
use Rattle.spec_hosts.specs.spec_runtime.Names.{HostName, HostNames, host_match, Fits, has_integers}
use Rattle.spec_hosts.specs.spec_runtime.Hosts.{HostCall, numbers_fit}
use Rattle.spec_hosts.specs.spec_runtime.Recorded.{Recorded, waits}
use Rattle.spec_hosts.specs.Devices.{Devices}
use Rattle.spec_hosts.specs.Hosted.{Embedder, Hosted, BreaksOff}
use Rattle.spec_hosts.specs.Ends.{bytes_written, are_many, taken_of, is_due, RunsTo, AreHosted, IsRunOf, IsCutShort}
use Rattle.spec_hosts.specs.declared.ran.Ran.{Ran}
use Rattle.spec_hosts.specs.declared.ran.RunEnd.{RunEnd}
use Rattle.host_calls.specs.declared.hosts.Hosts.{Hosts}
use Rattle.host_calls.specs.Bindings.{IsBound}
use Rattle.host_calls.specs.Embedders.{embedder}
use Rattle.wasm_exec.specs.declared.driver.Driver.{Driver}
use Rattle.run_loaded.specs.declared.loaded.Loaded.{Loaded}
use Rattle.spec_hosts.specs.spec_runtime.Courses.{Course, after, reached, status_at, is_waiting, IsAt}
use Rattle.run_loaded.specs.Courses.{Origin, course_of}
use Rattle.run_loaded.specs.Programs.{recorded_of, IsOf}

-- ---- host functions, by their entries

-- each is declared with its type, which has integers alone
abbrev pub AreDeclared : (ℕ → Option HostName) → HostNames → Type 0
AreDeclared host names = (entry : ℕ) (h : HostName) → host entry ≡ Some h → (host_match names h.module_name h.name h.ty ≡ Fits) × IsTrue (has_integers h.ty)

-- what answers each of them was found
module _ {X : Type 0} {F : X → Type 0} {g : _} where
  abbrev pub AreBound : Hosts X F g → (ℕ → Option HostName) → Type 0
  AreBound hosts host = (entry : ℕ) (h : HostName) → host entry ≡ Some h → IsBound hosts entry h

-- what is asked is what the run waits for, and the arguments fit
abbrev pub IsAskedOf : (ℕ → Option HostName) → Status HostCall Trap → Option Asked → Type 0
IsAskedOf host (Waits call) (Some asked) = (host asked.entry ≡ Some call.host) × (asked.args ≡ call.args) × IsTrue (numbers_fit call.host.ty.params call.args)
IsAskedOf host (Waits call) None = ⊥
IsAskedOf host status (Some asked) = ⊥
IsAskedOf host status None = Unit {0}

-- ---- the run as it stands

-- How far a run has come: its steps and its answers, the host call that it waits for, and how many bytes the answers have written.
pub record Progress : Type 0 where
  pub run : Recorded
  pub asked : Option Asked
  pub written : ℕ

abbrev pub progress_of : Driver → Progress
progress_of d = record { run = recorded_of d.program; asked = d.asked; written = d.written }

-- no limit was due before one of so many steps
abbrev pub IsFree : Course → ℕ → List Answer → Type 0
IsFree C steps given = (k : ℕ) → k < steps → is_due C.system C.deep (after C k given).state (taken_of given (after C k given).left) ≡ false

-- The run has made its steps from the opening state, and if it waits its host call is known.
pub record IsRunning (C : Course) (names : HostNames) (p : Progress) : Type 0 where
  pub declared : AreDeclared C.host names
  pub stands : IsAt C p.run
  pub taken : p.run.answered ≡ false
  pub asks : IsAskedOf C.host (status_at C p.run) p.asked
  pub free : IsFree C p.run.steps p.run.answers
  pub written : p.written ≡ sum (map bytes_written p.run.answers)

-- The run may make a step: if it waits, its answer is recorded, and no limit was due before that.
pub record IsReady (C : Course) (names : HostNames) (p : Progress) : Type 0 where
  pub declared : AreDeclared C.host names
  pub stands : IsAt C p.run
  pub answered : is_waiting C p.run ≡ false
  pub within : waits (status_at C p.run) ≡ true → are_many (taken_of p.run.answers (reached C p.run).left) ≡ false
  pub free : IsFree C p.run.steps p.run.answers
  pub written : p.written ≡ sum (map bytes_written p.run.answers)

abbrev pub ran_of : RunEnd → Recorded → Ran
ran_of end x = record { end = end; steps = x.steps; answers = x.answers }

-- a run that has ended so after all its steps
abbrev pub HasEnded : Course → ℕ → RunEnd → Recorded → Type 0
HasEnded C most end x = RunsTo C.system C.deep C.opening most (ran_of end x)

-- the event of the state that was reached: the host call that it waits for, over its memory
abbrev pub event_reached : Course → Recorded → List (HostCall × MemoryInstance)
event_reached C x = systems.event C.system (reached C x).state

-- the same answers, and the run waits for what it waited for, or for nothing if it did not wait
pub record KeepsCalls (C : Course) (old new : Recorded) : Type 0 where
  pub answers : new.answers ≡ old.answers
  pub calls : (calls : List (HostCall × MemoryInstance)) → (reached C old).events ≡ calls ++ event_reached C old → (reached C new).events ≡ calls ++ event_reached C new

-- the same answers, and the event of the state that was reached is one event more
pub record Grows (C : Course) (old new : Recorded) : Type 0 where
  pub answers : new.answers ≡ old.answers
  pub events : (reached C new).events ≡ (reached C old).events ++ event_reached C new

-- what came of a step: the run goes on, or has ended
abbrev pub StepGives : Course → HostNames → Option RunEnd → Progress → Progress → Type 0
StepGives C names None old new = IsRunning C names new × Grows C old.run new.run
StepGives C names (Some end) old new = ((most : ℕ) → old.run.steps < most → HasEnded C most end new.run) × Grows C old.run new.run

-- ---- the run with what it did to the devices

-- the run has made its steps, and what was done to the devices is what its host calls do
pub record IsDriven (C : Course) (embedder : Embedder) (p : Progress) (begun now : Devices) : Type 0 where
  pub running : IsRunning C embedder.names p
  pub hosted : AreHosted C.system embedder C.opening p.run.steps p.run.answers begun now

-- the run may make a step, and what was done to the devices is what its host calls do, with the one that it waits at
pub record IsPrepared (C : Course) (embedder : Embedder) (p : Progress) (begun now : Devices) : Type 0 where
  pub ready : IsReady C embedder.names p
  pub hosted : Hosted embedder (reached C p.run).events p.run.answers begun now

-- it was run from its opening state, as is told; or memory was wanting in the run
abbrev pub CourseGives : Course → Embedder → ℕ → Result Ran Memory → Devices → Devices → Type 0
CourseGives C embedder most (Ok r) begun now = IsRunOf C.system C.deep embedder C.opening most r begun now
CourseGives C embedder most (Err why) begun now = IsCutShort C.system C.deep embedder C.opening most begun now

-- the run goes on, or has ended, or is cut short
abbrev pub Proceeds : Course → Embedder → ℕ → Result (Option RunEnd) Memory → Progress → Devices → Devices → Type 0
Proceeds C embedder most (Ok None) p begun now = IsDriven C embedder p begun now
Proceeds C embedder most (Ok (Some end)) p begun now = CourseGives C embedder most (Ok (ran_of end p.run)) begun now
Proceeds C embedder most (Err why) p begun now = CourseGives C embedder most (Err why) begun now

-- ---- the driver, whatever it is that it runs

-- it runs this, which has come so far
abbrev pub Runs : Origin → HostNames → Driver → Type 0
Runs o names d = IsOf d.program o × IsRunning (course_of o) names (progress_of d)

-- it may make a step
abbrev pub MayStep : Origin → HostNames → Driver → Type 0
MayStep o names d = IsOf d.program o × IsReady (course_of o) names (progress_of d)

-- it runs this, and what was done to the devices is what its host calls do
abbrev pub Drives : Embedder → Origin → Driver → Devices → Devices → Type 0
Drives embedder o d begun now = IsOf d.program o × IsDriven (course_of o) embedder (progress_of d) begun now

-- the same before a step
abbrev pub Prepared : Embedder → Origin → Driver → Devices → Devices → Type 0
Prepared embedder o d begun now = IsOf d.program o × IsPrepared (course_of o) embedder (progress_of d) begun now

-- a run is driven whose host functions are bound
module _ {X : Type 0} {F : X → Type 0} {g : _} where
  abbrev pub IsBoundTo : Hosts X F g → Origin → Type 0
  IsBoundTo hosts o = AreBound hosts (course_of o).host

  -- a run is driven over the host functions that are bound, and nothing was done to the devices yet
  abbrev pub IsBegun : Hosts X F g → Driver → Devices → Type 0
  IsBegun hosts d begun = (o : Origin) × IsBoundTo hosts o × Drives (embedder hosts) o d begun begun

-- further steps of code leave the run with the same host calls
abbrev pub GoesAlong : Driver → Driver → Type 0
GoesAlong old new =
    (o : Origin) (names : HostNames) → Runs o names old → Runs o names new × KeepsCalls (course_of o) (recorded_of old.program) (recorded_of new.program)

-- what came of a step
abbrev pub Steps : Option RunEnd → Driver → Driver → Type 0
Steps end old new =
    (o : Origin) (names : HostNames) → MayStep o names old → IsOf new.program o × StepGives (course_of o) names end (progress_of old) (progress_of new)

-- the end of a run that has made all its steps
abbrev pub EndsSo : RunEnd → Driver → Type 0
EndsSo end d = (o : Origin) (names : HostNames) → Runs o names d → HasEnded (course_of o) (recorded_of d.program).steps end (recorded_of d.program)

-- What came of some steps and a host call, from wherever the run began.
abbrev pub GoesOn : Embedder → ℕ → Result (Option RunEnd) Memory → Driver → Driver → Devices → Devices → Type 0
GoesOn embedder most result old new before now =
    (o : Origin) (begun : Devices) → Drives embedder o old begun before → IsOf new.program o × Proceeds (course_of o) embedder most result (progress_of new) begun now

-- The host call that a run waits for is answered, or memory was wanting and at most its one use was begun.
abbrev pub IsServed : Embedder → Result (Unit {0}) Memory → Driver → Driver → Devices → Devices → Type 0
IsServed embedder result old new before now =
    (o : Origin) (begun : Devices) → Drives embedder o old begun before
    → OnOk result (Prepared embedder o new begun now) × BreaksOff embedder (event_reached (course_of o) (recorded_of old.program)) before now

-- What came of the whole run, from its beginning.
abbrev pub IsDrivenTo : Embedder → ℕ → Result Ran Memory → Driver → Devices → Devices → Type 0
IsDrivenTo embedder most result d begun now =
    (o : Origin) → Drives embedder o d begun begun → CourseGives (course_of o) embedder most result begun now

-- what comes of the run once its steps are made, as the end tells
abbrev pub Comes : Course → Embedder → ℕ → Result RunEnd Memory → Recorded → Devices → Devices → Type 0
Comes C embedder most (Ok end) x begun now = CourseGives C embedder most (Ok (ran_of end x)) begun now
Comes C embedder most (Err why) x begun now = CourseGives C embedder most (Err why) begun now

-- The same of the driver that has made the steps.
abbrev pub IsDrivenOn : Embedder → ℕ → Result RunEnd Memory → Driver → Driver → Devices → Devices → Type 0
IsDrivenOn embedder most result old new begun now =
    (o : Origin) → Drives embedder o old begun begun → Comes (course_of o) embedder most result (recorded_of new.program) begun now

-- a driver that goes on from another, with what was done to the devices since the run began
abbrev pub LeadsTo : Embedder → Driver → Driver → Devices → Devices → Type 0
LeadsTo embedder first d begun now = (o : Origin) → Drives embedder o first begun begun → Drives embedder o d begun now

-- ---- from the opening state

-- a run begins by going on, and its host functions are declared
pub record Begins (C : Course) (names : HostNames) : Type 0 where
  pub declared : AreDeclared C.host names
  pub moving : C.system.status C.opening ≡ Moving

-- a program is a run of this, which begins over these host functions
abbrev pub Opens : Origin → HostNames → Loaded → Type 0
Opens o names p = IsOf p o × Begins (course_of o) names

-- What came of the run of a program from its opening state.
abbrev pub IsRunFrom : Embedder → ℕ → Result Ran Memory → Loaded → Devices → Devices → Type 0
IsRunFrom embedder most result p begun now = (o : Origin) → Opens o embedder.names p → CourseGives (course_of o) embedder most result begun now
