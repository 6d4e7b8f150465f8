-- What is answered behind the last line.
use Rattle.std.proofs.Common.{◌≡◌, ℕ, List, [], Result, Ok, Err, sym, subst}
use Rattle.spec_traces.specs.declared.trace.Trace.{Trace}
use Rattle.spec_traces.specs.declared.trace.TraceFault.{TraceFault}
use Rattle.spec_traces.specs.declared.trace.TraceFault.TheVariants as fault
use Rattle.spec_traces.specs.Texts.{lines_of, BreaksAt}
use Rattle.replay_text.specs.Answers.{Reads}
use Rattle.replay_text.specs.Stages.{SoFar, whole, IsReadTo, Ends}
use Rattle.replay_text.proofs.Lines.{breaks_behind, is_text}

module _ (bytes : List ℕ) (line : ℕ) (rest : List ℕ) (s : SoFar) (r : IsReadTo bytes line rest s) (last : lines_of rest ≡ []) where
  pub ends_read : (result : Result Trace TraceFault) → Ends (whole s) line rest result → Reads bytes result
  ends_read (Ok t) h = is_text bytes line rest s r last t h.0 h.1
  ends_read (Err (fault.Line n)) h = subst (BreaksAt bytes) (sym h.0) (breaks_behind bytes line rest s r last h.1)
  ends_read (Err fault.Memory) h = absurd h
  ends_read (Err fault.Steps) h = absurd h
  ends_read (Err (fault.Single why)) h = absurd h
  ends_read (Err (fault.Differs call)) h = absurd h
