-- A run that is made again over the answers of another, whose host calls are noted.
-- Serves the contracts of this crate, which follow Traces of `spec_traces`.
use Rattle.std.specs.Prelude.{◌≡◌, ◌≤◌, ◌<◌, ◌^◌, ℕ, List, ◌++◌, map, slice_get, Option, Some, false}
use Rattle.std.specs.List.{All}
use Rattle.spec_traces.specs.spec_hosts.wasm_form.declared.runtime.Trap.{Trap}
use Rattle.spec_traces.specs.spec_hosts.wasm_form.declared.runtime.Answer.{Answer}
use Rattle.spec_traces.specs.spec_hosts.wasm_form.declared.runtime.Asked.{Asked}
use Rattle.spec_traces.specs.spec_hosts.spec_runs.Systems.{Status, Waits}
use Rattle.spec_traces.specs.spec_hosts.spec_runtime.Names.{HostName}
use Rattle.spec_traces.specs.spec_hosts.spec_runtime.Hosts.{HostCall}
use Rattle.spec_traces.specs.spec_hosts.spec_runtime.Recorded.{Recorded}
use Rattle.spec_traces.specs.spec_hosts.spec_runtime.Courses.{Course, status_at, is_waiting, IsAt}
use Rattle.spec_traces.specs.spec_hosts.declared.ran.Ran.{Ran}
use Rattle.spec_traces.specs.declared.trace.Trace.{Trace}
use Rattle.spec_traces.specs.declared.trace.TraceCall.{TraceCall}
use Rattle.spec_traces.specs.Texts.{IsCallInRange}
use Rattle.spec_traces.specs.Traces.{answers_of, IsWaited}
use Rattle.dyl_link.specs.host_table.declared.host.HostName as code
use Rattle.run_loaded.specs.Courses.{Origin, course_of}
use Rattle.run_loaded.specs.Programs.{recorded_of, IsOf}
use Rattle.replay_check.specs.declared.record.Recorder.{Recorder}
use Rattle.replay_check.specs.Checks.{HasRun}

-- a host call as it is noted
abbrev pub call_noted : ℕ → code.HostName → List ℕ → Answer → TraceCall
call_noted steps h args answer = record { steps = steps; «module» = h.module; name = h.name; args = args; answer = answer }

-- what is asked is the call that is waited for
pub record IsCalled (host : ℕ → Option HostName) (status : Status HostCall Trap) (asked : Asked) : Type 0 where
  pub call : HostCall
  pub waits : status ≡ Waits call
  pub there : host asked.entry ≡ Some call.host
  pub args : asked.args ≡ call.args

-- The run has come so far along one that was told so: its answers are the first ones of those, and the calls that they answered are noted.
pub record Follows (C : Course) (r : Ran) (calls : List TraceCall) (x : Recorded) : Type 0 where
  pub stands : IsAt C x
  pub few : x.steps ≤ r.steps
  pub answers : map (λ (c : TraceCall). c.answer) calls ≡ x.answers
  pub rest : List Answer
  pub given : r.answers ≡ x.answers ++ rest
  pub noted : (k : ℕ) (c : TraceCall) → slice_get calls k ≡ Some c → (t : Trace) → answers_of t ≡ r.answers → IsWaited C t k c
  pub range : r.steps < 2 ^ 63 → All IsCallInRange calls

-- it may go on to the end of that run: if it waits, its answer is recorded
abbrev pub GoesOn : Course → Ran → List TraceCall → Recorded → Type 0
GoesOn C r calls x = Follows C r calls x × (x.steps < r.steps → is_waiting C x ≡ false)

-- it waits for this call, whose answer isn't recorded
abbrev pub Stops : Course → Ran → List TraceCall → Recorded → Asked → Type 0
Stops C r calls x asked = Follows C r calls x × (x.answered ≡ false) × IsCalled C.host (status_at C x) asked

-- ---- the recorder, whatever it is that it runs

abbrev pub Records : Origin → Ran → Recorder → Type 0
Records o r s = IsOf s.loaded o × HasRun (course_of o) r × GoesOn (course_of o) r s.calls.items (recorded_of s.loaded)

-- the same where a call is to be noted
abbrev pub Notes : Origin → Ran → Asked → Recorder → Type 0
Notes o r asked s = IsOf s.loaded o × HasRun (course_of o) r × Stops (course_of o) r s.calls.items (recorded_of s.loaded) asked
