-- A run that follows a trace: what is kept of it between its steps.
-- Serves the contracts of this crate, which follow Traces of `spec_traces`.
use Rattle.std.specs.Prelude.{◌≡◌, ◌≤◌, ◌<◌, ◌⊎◌, ℕ, length, map, sum, take, drop, slice_get, Bool, true, false, Option, Some, None, if◌then◌else◌}
use Rattle.spec_traces.specs.spec_hosts.wasm_form.declared.runtime.Trap.{Trap}
use Rattle.spec_traces.specs.spec_hosts.wasm_form.declared.runtime.Asked.{Asked}
use Rattle.spec_traces.specs.spec_hosts.spec_runs.Systems.{Status, Moving, Waits, Returned, Exited, Trapped}
use Rattle.spec_traces.specs.spec_hosts.spec_runtime.Names.{HostName}
use Rattle.spec_traces.specs.spec_hosts.spec_runtime.Hosts.{HostCall}
use Rattle.spec_traces.specs.spec_hosts.spec_runtime.Recorded.{Recorded, AreLeft, waits}
use Rattle.spec_traces.specs.spec_hosts.spec_runtime.Courses.{Course, state_at, status_at, memory_at, IsAt}
use Rattle.spec_traces.specs.spec_hosts.Ends.{bytes_written, are_many, is_due, taken_by, EndsAs}
use Rattle.spec_traces.specs.spec_hosts.declared.ran.RunEnd.{RunEnd}
use Rattle.spec_traces.specs.spec_hosts.declared.ran.RunEnd.TheVariants as end
use Rattle.spec_traces.specs.declared.trace.Trace.{Trace}
use Rattle.spec_traces.specs.declared.trace.TraceCall.{TraceCall}
use Rattle.spec_traces.specs.declared.trace.TraceEnd.{TraceEnd}
use Rattle.spec_traces.specs.Texts.{run_end}
use Rattle.spec_traces.specs.Traces.{answers_of, after, IsAsked, most_for, Traces, Agrees, IsAgreeing}
use Rattle.wasm_machine.specs.declared.event.Event.{Event}
use Rattle.wasm_machine.specs.declared.event.Event.TheVariants as event
use Rattle.wasm_machine.specs.Steps.{TellsStatus}
use Rattle.run_loaded.specs.Courses.{Origin, course_of}
use Rattle.run_loaded.specs.Programs.{recorded_of, IsOf}
use Rattle.replay_check.specs.declared.replay.Replay.{Replay}

-- ---- over any course

-- what is asked is what the run waits for, if it waits
abbrev pub IsAskedOf : (ℕ → Option HostName) → Status HostCall Trap → Option Asked → Type 0
IsAskedOf host status None = waits status ≡ false
IsAskedOf host status (Some asked) = TellsStatus host (event.Waits asked) status

-- The run made its steps over the answers of so many calls, each of which agrees, and no limit was due before one of the steps.
pub record HasFollowed (C : Course) (t : Trace) (k : ℕ) (x : Recorded) : Type 0 where
  pub stands : IsAt C x
  pub taken : x.answered ≡ false
  pub within : k ≤ length t.calls
  pub answers : x.answers ≡ take k (answers_of t)
  pub agrees : (j : ℕ) (c : TraceCall) → j < k → slice_get t.calls j ≡ Some c → Agrees C t j c
  pub free : (j : ℕ) → j < x.steps → is_due C.system C.deep (after C t j).state (taken_by C.system j C.opening (answers_of t)) ≡ false

-- no step of its own is to be made from a state: it waits or has ended, or the step would be too deep
abbrev pub is_held : (C : Course) → C.system.State → Bool
is_held C s = go (C.system.status s)
  where
    go : Status HostCall Trap → Bool
    go Moving = C.deep s
    go _ = true

-- the step would be too deep
abbrev pub is_deep : Event → Bool
is_deep event.Deep = true
is_deep _ = false

-- the end in which a state stands by itself, or because the next step would be too deep
abbrev pub own_end : Status HostCall Trap → Bool → Option RunEnd
own_end Moving deep = if deep then Some end.DepthLimit else None
own_end (Waits call) deep = None
own_end Returned deep = Some end.Return
own_end (Exited code) deep = Some (end.Exit code)
own_end (Trapped why) deep = Some (end.Trap why)

-- a host call is waited for, and none is answered any more
abbrev pub is_full : Option Asked → Recorded → Bool
is_full None x = false
is_full (Some asked) x = are_many x.answers

-- ---- whatever it is that is run

abbrev pub run_of : Replay → Recorded
run_of r = recorded_of r.program

-- it follows a trace, of which so many calls are answered
pub record Follows (o : Origin) (t : Trace) (k : ℕ) (r : Replay) : Type 0 where
  pub of : IsOf r.program o
  pub followed : HasFollowed (course_of o) t k (run_of r)
  pub asks : IsAskedOf (course_of o).host (status_at (course_of o) (run_of r)) r.asked
  pub written : r.written ≡ sum (map bytes_written (run_of r).answers)

abbrev pub IsFollowing : Replay → Type 0
IsFollowing r = (o : Origin) × (t : Trace) × (k : ℕ) × Follows o t k r

-- it goes on to follow what it followed
abbrev pub GoesAlong : Replay → Replay → Type 0
GoesAlong old new = (o : Origin) (t : Trace) (k : ℕ) → Follows o t k old → Follows o t k new

-- it makes no step of its own where it came to
abbrev pub Stops : Replay → Replay → Type 0
Stops old new = (o : Origin) (t : Trace) (k : ℕ) → Follows o t k old → is_held (course_of o) (state_at (course_of o) (run_of new)) ≡ true

-- ---- a call

-- it waits for this call, and the answer fits
abbrev pub Asks : Origin → TraceCall → Replay → Type 0
Asks o c r = IsAsked c (status_at (course_of o) (run_of r)) (memory_at (course_of o) (run_of r))

-- it stands where the next call of the trace is waited for, which agrees
pub record AtCall (o : Origin) (t : Trace) (k : ℕ) (c : TraceCall) (r : Replay) : Type 0 where
  pub follows : Follows o t k r
  pub at : slice_get t.calls k ≡ Some c
  pub agrees : Agrees (course_of o) t k c
  pub steps : (run_of r).steps ≡ c.steps

-- the calls were followed up to the first that doesn't agree
pub record HasMet (o : Origin) (t : Trace) (r : Replay) : Type 0 where
  pub count : ℕ
  pub follows : Follows o t count r
  pub few : (run_of r).steps ≤ t.steps
  pub agrees : (j : ℕ) (c : TraceCall) → slice_get t.calls j ≡ Some c → Agrees (course_of o) t j c
  pub answered : Bool
  pub left : AreLeft answered (status_at (course_of o) (run_of r)) (memory_at (course_of o) (run_of r)) (drop count (answers_of t))
  pub last : answered ≡ true → ((run_of r).steps ≡ t.steps) ⊎ (is_due (course_of o).system (course_of o).deep (state_at (course_of o) (run_of r)) (run_of r).answers ≡ true)

-- In so many calls the run agrees with the trace. If these are all, it stands behind the last answer, or where the last call is waited for, from
-- where it goes no further.
abbrev pub HasAgreed : Origin → Trace → ℕ → Replay → Type 0
HasAgreed o t k r = IsAgreeing (course_of o) t k × (k ≡ length t.calls → HasMet o t r)

-- ---- the end

-- it stands in this end, where it makes no step more
abbrev pub StandsAt : Origin → TraceEnd → Replay → Type 0
StandsAt o e r =
    EndsAs (course_of o).system (course_of o).deep (most_for (run_of r).steps e) (run_of r).steps (state_at (course_of o) (run_of r)) (run_of r).answers (run_end e)

-- The run is that of the trace; or it agrees in so many calls, and is not.
abbrev pub Compares : Origin → Trace → Option ℕ → Type 0
Compares o t None = Traces (course_of o) t
Compares o t (Some k) = IsAgreeing (course_of o) t k × (Traces (course_of o) t → ⊥)
