-- When the answers of a trace are those of WASI.
-- This profile: docs/FORMATS.md, "The trace" and "WASI calls".
use Rattle.std.specs.Prelude.{◌≡◌, ℕ, List, slice_get, true, bytes_eq, Some}
use Rattle.spec_hosts.specs.spec_runtime.Memories.{MemoryInstance}
use Rattle.spec_hosts.specs.spec_runtime.Courses.{Course}
use Rattle.spec_hosts.specs.Calls.{wasi_name, wanted}
use Rattle.spec_hosts.specs.Allowed.{Allows}
use Rattle.spec_traces.specs.declared.trace.Trace.{Trace}
use Rattle.spec_traces.specs.declared.trace.TraceCall.{TraceCall}
use Rattle.spec_traces.specs.Traces.{after}

-- Where a call on a memory is one of WASI, its answer is one that the table of calls allows, for a program with these arguments. Nothing is
-- said of other calls.
abbrev pub IsLawfulCall : List (List ℕ) → MemoryInstance → TraceCall → Type 0
IsLawfulCall arguments memory c = bytes_eq c.«module» wasi_name ≡ true → Allows (wanted arguments memory c.name c.args) c.answer

-- each call of the trace is such, on the memory where it is waited for
abbrev pub IsLawful : List (List ℕ) → Course → Trace → Type 0
IsLawful arguments C t =
    (k : ℕ) (c : TraceCall) → slice_get t.calls k ≡ Some c → IsLawfulCall arguments (C.system.memory (after C t c.steps).state) c
