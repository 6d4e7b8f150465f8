-- What printing and reading the text of a trace answer.
-- Serves the contracts of this crate, which follow Texts of `spec_traces`.
use Rattle.std.specs.Prelude.{ℕ, List, Result, Ok, Err}
use Rattle.spec_traces.specs.declared.trace.Trace.{Trace}
use Rattle.spec_traces.specs.declared.trace.TraceFault.{TraceFault}
use Rattle.spec_traces.specs.declared.trace.TraceFault.TheVariants as fault
use Rattle.spec_traces.specs.Texts.{IsTextOf, BreaksAt}

-- The trace that the bytes are the text of, or the first line at which no text goes on.
abbrev pub Reads : List ℕ → Result Trace TraceFault → Type 0
Reads bytes (Ok t) = IsTextOf bytes t
Reads bytes (Err (fault.Line line)) = BreaksAt bytes line
Reads bytes (Err fault.Memory) = Unit {0}
Reads bytes (Err fault.Steps) = ⊥
Reads bytes (Err (fault.Single why)) = ⊥
Reads bytes (Err (fault.Differs call)) = ⊥
