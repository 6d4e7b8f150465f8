-- What is so of the calls in which a run agrees with a trace, and of the traces of one run.
-- Part of the statement of laws: docs/LAWS.md, "A run has one trace" and "A run agrees with a trace
-- up to one call".
use Rattle.std.specs.Prelude.{◌≡◌, ℕ, length}
use Rattle.spec_traces.specs.spec_hosts.declared.ran.Ran.{Ran}
use Rattle.spec_traces.specs.declared.trace.Trace.{Trace}
use Rattle.spec_traces.specs.Traces.{Traces, IsAgreeing, IsTraceOf}
use Rattle.run_loaded.specs.Courses.{Origin, course_of}

-- it agrees up to one call
abbrev pub OneAgreeing : Type 0
OneAgreeing = (o : Origin) (t : Trace) (k j : ℕ) → IsAgreeing (course_of o) t k → IsAgreeing (course_of o) t j → k ≡ j

-- where it is that of the trace, it agrees with all calls
abbrev pub TracesAgree : Type 0
TracesAgree = (o : Origin) (t : Trace) → Traces (course_of o) t → IsAgreeing (course_of o) t (length t.calls)

-- a run that was told so has one trace, and so one text of it
abbrev pub OneTrace : Type 0
OneTrace = (o : Origin) (r : Ran) (t u : Trace) → IsTraceOf (course_of o) r t → IsTraceOf (course_of o) r u → t ≡ u
