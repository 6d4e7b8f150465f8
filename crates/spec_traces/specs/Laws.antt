-- What is so of the texts of traces.
-- Part of the statement of laws: docs/LAWS.md, "One text is of one trace".
use Rattle.std.specs.Prelude.{◌≡◌}
use Rattle.spec_traces.specs.declared.trace.Trace.{Trace}
use Rattle.spec_traces.specs.Texts.{IsInRange, trace_text}

-- one text is that of one trace
abbrev pub OneTrace : Type 0
OneTrace = (t u : Trace) → IsInRange t → IsInRange u → trace_text t ≡ trace_text u → t ≡ u
