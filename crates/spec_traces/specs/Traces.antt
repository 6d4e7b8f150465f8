-- When a run is that of a trace.
-- This profile: docs/FORMATS.md, "The trace".
use Rattle.std.specs.Prelude.{◌≡◌, ◌≤◌, ◌<◌, ℕ, suc, List, length, map, drop, slice_get, Bool, Some, IsTrue}
use Rattle.spec_hosts.specs.wasm_form.declared.runtime.Trap.{Trap}
use Rattle.spec_hosts.specs.wasm_form.declared.runtime.Answer.{Answer}
use Rattle.spec_hosts.specs.spec_runs.Systems.{Status, Waits, Ran}
use Rattle.spec_hosts.specs.spec_runtime.Memories.{MemoryInstance}
use Rattle.spec_hosts.specs.spec_runtime.Hosts.{HostCall, hosts, answer_fits}
use Rattle.spec_hosts.specs.spec_runtime.Recorded.{AreLeft}
use Rattle.spec_hosts.specs.spec_runtime.Courses as courses
use Rattle.spec_hosts.specs.spec_runtime.Courses.{Course}
use Rattle.spec_hosts.specs.declared.ran.Ran as ran
use Rattle.spec_hosts.specs.Ends.{EndsAs, Makes, taken_by}
use Rattle.spec_traces.specs.declared.trace.Trace.{Trace}
use Rattle.spec_traces.specs.declared.trace.TraceCall.{TraceCall}
use Rattle.spec_traces.specs.declared.trace.TraceEnd.{TraceEnd}
use Rattle.spec_traces.specs.declared.trace.TraceEnd.TheVariants as end
use Rattle.spec_traces.specs.Texts.{run_end}

abbrev pub answers_of : Trace → List Answer
answers_of t = map (λ (c : TraceCall). c.answer) t.calls

-- where so many steps over the answers of the trace lead
abbrev pub after : (C : Course) → Trace → ℕ → Ran hosts C.system.State
after C t n = courses.after C n (answers_of t)

-- ---- the calls

-- this call is waited for, and its answer fits
abbrev pub IsAsked : TraceCall → Status HostCall Trap → MemoryInstance → Type 0
IsAsked c (Waits call) memory =
    (call.host.module_name ≡ c.«module») × (call.host.name ≡ c.name) × (call.args ≡ c.args) × IsTrue (answer_fits call memory c.answer)
IsAsked c _ memory = ⊥

-- Call k is waited for after its steps, which took the answers before it.
pub record IsWaited (C : Course) (t : Trace) (k : ℕ) (c : TraceCall) : Type 0 where
  pub asked : IsAsked c (C.system.status (after C t c.steps).state) (C.system.memory (after C t c.steps).state)
  pub left : (after C t c.steps).left ≡ drop k (answers_of t)

-- ---- the whole

-- the limit of steps: that many where it is told, and more where another end is
abbrev pub most_for : ℕ → TraceEnd → ℕ
most_for steps end.StepLimit = steps
most_for steps _ = suc steps

-- The run over the answers of a trace is that of the trace. Its calls are waited for, in order. Each of its steps is a real one, before which
-- no limit was due. All answers are taken, but for that to a call which the run then waits for. It ends as is told, by itself or by a limit.
pub record Traces (C : Course) (t : Trace) : Type 0 where
  pub calls : (k : ℕ) (c : TraceCall) → slice_get t.calls k ≡ Some c → IsWaited C t k c
  pub made : Makes C.system C.deep C.opening (most_for t.steps t.end) t.steps (answers_of t)
  pub answered : Bool
  pub left : AreLeft answered (C.system.status (after C t t.steps).state) (C.system.memory (after C t t.steps).state) (after C t t.steps).left
  pub ends : EndsAs C.system C.deep (most_for t.steps t.end) t.steps (after C t t.steps).state (taken_by C.system t.steps C.opening (answers_of t)) (run_end t.end)

-- The trace is that of a run which was told so: with its answers, its steps and its end.
pub record IsTraceOf (C : Course) (r : ran.Ran) (t : Trace) : Type 0 where
  pub traces : Traces C t
  pub answers : answers_of t ≡ r.answers
  pub steps : t.steps ≡ r.steps
  pub ends : run_end t.end ≡ r.end

-- ---- how far a run agrees

-- Call k agrees: it is waited for after its steps. These are no more than those of the trace, and each is a real one.
pub record Agrees (C : Course) (t : Trace) (k : ℕ) (c : TraceCall) : Type 0 where
  pub waited : IsWaited C t k c
  pub made : Makes C.system C.deep C.opening t.steps c.steps (answers_of t)

-- the number of the first call that doesn't agree, or the number of calls where each does
pub record IsAgreeing (C : Course) (t : Trace) (k : ℕ) : Type 0 where
  pub within : k ≤ length t.calls
  pub before : (j : ℕ) (c : TraceCall) → j < k → slice_get t.calls j ≡ Some c → Agrees C t j c
  pub last : (c : TraceCall) → slice_get t.calls k ≡ Some c → Agrees C t k c → ⊥
