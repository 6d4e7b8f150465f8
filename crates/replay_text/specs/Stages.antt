-- How a trace is read, line by line.
-- Serves the contracts of this crate, which follow Texts of `spec_traces`.
use Rattle.std.specs.Prelude.{◌≡◌, ◌+◌, ℕ, List, [], ◌∷◌, ◌++◌, length, Option, Some, None, Result, Ok, Err}
use Rattle.spec_traces.specs.spec_hosts.spec_binary.Options.{◌>>=◌}
use Rattle.spec_traces.specs.spec_hosts.wasm_form.declared.runtime.Answer.{Answer}
use Rattle.spec_traces.specs.spec_hosts.wasm_form.declared.runtime.Answer.TheVariants as answer
use Rattle.spec_traces.specs.spec_hosts.wasm_form.declared.runtime.Write.{Write}
use Rattle.spec_traces.specs.declared.trace.Trace.{Trace}
use Rattle.spec_traces.specs.declared.trace.TraceCall.{TraceCall}
use Rattle.spec_traces.specs.declared.trace.TraceEnd.{TraceEnd}
use Rattle.spec_traces.specs.declared.trace.TraceFault.{TraceFault}
use Rattle.spec_traces.specs.declared.trace.TraceFault.TheVariants as fault
use Rattle.spec_traces.specs.declared.line.CallHead.{CallHead}
use Rattle.spec_traces.specs.declared.line.Line.{Line}
use Rattle.spec_traces.specs.declared.line.Line.TheVariants.{Header, Call, Put, Reply, Exit, End}
use Rattle.spec_traces.specs.Texts.{line_feed, lines_of}
use Rattle.spec_traces.specs.Lines.{text_of}
use Rattle.spec_traces.specs.Reading.{line_of}
use Rattle.replay_text.specs.declared.stage.Due.{Due}
use Rattle.replay_text.specs.declared.stage.Due.TheVariants as due
use Rattle.replay_text.specs.declared.stage.Stage.{Stage}

-- ---- how far a trace is read

-- the calls with their answers, the writes of the answer that is due, and which line is due
pub record SoFar : Type 0 where
  pub calls : List TraceCall
  pub writes : List Write
  pub due : Due

abbrev pub seen : Stage → SoFar
seen s = record { calls = s.calls.items; writes = s.writes.items; due = s.due }

abbrev pub start : SoFar
start = record { calls = []; writes = []; due = due.Header }

-- ---- one more line

abbrev pub answered : CallHead → Answer → TraceCall
answered head a = record { steps = head.steps; «module» = head.«module»; name = head.name; args = head.args; answer = a }

abbrev pub header_step : Due → SoFar → Option SoFar
header_step due.Header s = Some (record s { due = due.Call })
header_step _ s = None

abbrev pub call_step : CallHead → Due → SoFar → Option SoFar
call_step head due.Call s = Some (record s { due = due.Answer head })
call_step head _ s = None

abbrev pub put_step : Write → Due → SoFar → Option SoFar
put_step write (due.Answer head) s = Some (record s { writes = s.writes ++ write ∷ [] })
put_step write _ s = None

abbrev pub reply_step : List ℕ → Due → SoFar → Option SoFar
reply_step results (due.Answer head) s = Some (record { calls = s.calls ++ answered head (answer.Reply results s.writes) ∷ []; writes = []; due = due.Call })
reply_step results _ s = None

-- an exit stands behind no writes
abbrev pub exit_behind : List Write → SoFar → Option SoFar
exit_behind [] s = Some s
exit_behind (w ∷ writes) s = None

abbrev pub exit_step : ℕ → Due → SoFar → Option SoFar
exit_step code (due.Answer head) s = exit_behind s.writes (record { calls = s.calls ++ answered head (answer.Exit code) ∷ []; writes = []; due = due.Call })
exit_step code _ s = None

abbrev pub end_step : ℕ → TraceEnd → Due → SoFar → Option SoFar
end_step steps how due.Call s = Some (record s { due = due.Nothing steps how })
end_step steps how _ s = None

abbrev pub step : SoFar → Line → Option SoFar
step s Header = header_step s.due s
step s (Call head) = call_step head s.due s
step s (Put write) = put_step write s.due s
step s (Reply results) = reply_step results s.due s
step s (Exit code) = exit_step code s.due s
step s (End steps how) = end_step steps how s.due s

abbrev pub text_step : SoFar → List ℕ → Option SoFar
text_step s text = line_of text >>= λ line. step s line

-- ---- several lines

abbrev pub steps : SoFar → List (List ℕ) → Option SoFar
steps s [] = Some s
steps s (text ∷ texts) = text_step s text >>= λ next. steps next texts

-- the trace, if no line is due
abbrev pub whole_by : Due → List TraceCall → Option Trace
whole_by (due.Nothing steps how) calls = Some (record { calls = calls; steps = steps; end = how })
whole_by _ calls = None

abbrev pub whole : SoFar → Option Trace
whole s = whole_by s.due s.calls

-- ---- bytes

-- bytes are a line, its end, and what stands behind it
pub record IsFirstLine (bytes text behind : List ℕ) : Type 0 where
  pub bytes_are : bytes ≡ text ++ line_feed ∷ behind
  pub lines_are : lines_of bytes ≡ text ∷ lines_of behind

-- The lines before this number are read, and led so far. The rest stands behind them.
pub record IsReadTo (bytes : List ℕ) (line : ℕ) (rest : List ℕ) (s : SoFar) : Type 0 where
  pub front : List (List ℕ)
  pub number : line ≡ length front + 1
  pub bytes_are : bytes ≡ text_of front ++ rest
  pub lines_are : lines_of bytes ≡ front ++ lines_of rest
  pub led : steps start front ≡ Some s

-- behind the last line: the trace, if it is whole and nothing is left
abbrev pub Ends : Option Trace → ℕ → List ℕ → Result Trace TraceFault → Type 0
Ends read line rest (Ok t) = (rest ≡ []) × (read ≡ Some t)
Ends read line rest (Err (fault.Line n)) = (n ≡ line) × (rest ≡ [] → read ≡ None)
Ends read line rest (Err fault.Memory) = ⊥
Ends read line rest (Err fault.Steps) = ⊥
Ends read line rest (Err (fault.Single why)) = ⊥
Ends read line rest (Err (fault.Differs call)) = ⊥
