-- The lines of the text of a trace by what they say: a device by which the law of the text is proved, and by which it is read.
-- Serves the proof of laws: docs/LAWS.md, "One text is of one trace".
use Rattle.std.specs.Prelude.{◌<◌, ◌^◌, ℕ, List, [], ◌∷◌, ◌++◌, map, flat_map, codes, decimal, IsUtf8}
use Rattle.std.specs.List.{All}
use Rattle.spec_hosts.specs.wasm_form.declared.runtime.Answer.{Answer}
use Rattle.spec_hosts.specs.wasm_form.declared.runtime.Answer.TheVariants as answer
use Rattle.dyl_print.specs.Printed.{escaped, end_word}
use Rattle.spec_traces.specs.declared.trace.Trace.{Trace}
use Rattle.spec_traces.specs.declared.trace.TraceCall.{TraceCall}
use Rattle.spec_traces.specs.declared.line.CallHead.{CallHead}
use Rattle.spec_traces.specs.declared.line.Line.{Line}
use Rattle.spec_traces.specs.declared.line.Line.TheVariants.{Header, Call, Put, Reply, Exit, End}
use Rattle.spec_traces.specs.Texts.{run_end, spaced, put_line, line_feed, IsWriteInRange, IsEndInRange}

-- ---- the text of a line

abbrev pub line_text : Line → List ℕ
line_text Header = codes "trace 1"
line_text (Call head) = codes "call" ++ spaced (decimal head.steps ∷ escaped head.«module» ∷ escaped head.name ∷ map decimal head.args)
line_text (Put write) = put_line write
line_text (Reply results) = codes "reply" ++ spaced (map decimal results)
line_text (Exit code) = codes "exit" ++ spaced (decimal code ∷ [])
line_text (End steps how) = codes "end" ++ spaced (decimal steps ∷ end_word (run_end how) ∷ [])

-- the text of lines, each with its end
abbrev pub text_of : List (List ℕ) → List ℕ
text_of lines = flat_map (λ line. line ++ line_feed ∷ []) lines

-- ---- the lines of a trace

abbrev pub head_of : TraceCall → CallHead
head_of c = record { steps = c.steps; «module» = c.«module»; name = c.name; args = c.args }

abbrev pub answer_as_lines : Answer → List Line
answer_as_lines (answer.Reply results writes) = map Put writes ++ Reply results ∷ []
answer_as_lines (answer.Exit code) = Exit code ∷ []

abbrev pub call_as_lines : TraceCall → List Line
call_as_lines c = Call (head_of c) ∷ answer_as_lines c.answer

abbrev pub trace_as_lines : Trace → List Line
trace_as_lines t = Header ∷ (flat_map call_as_lines t.calls ++ End t.steps t.end ∷ [])

-- ---- the ranges of numbers

pub record IsHeadInRange (head : CallHead) : Type 0 where
  pub steps : head.steps < 2 ^ 63
  pub from : IsUtf8 head.«module»
  pub name : IsUtf8 head.name
  pub args : All (λ n. n < 2 ^ 64) head.args

abbrev pub IsLineInRange : Line → Type 0
IsLineInRange Header = Unit {0}
IsLineInRange (Call head) = IsHeadInRange head
IsLineInRange (Put write) = IsWriteInRange write
IsLineInRange (Reply results) = All (λ n. n < 2 ^ 64) results
IsLineInRange (Exit code) = code < 2 ^ 32
IsLineInRange (End steps how) = (steps < 2 ^ 63) × IsEndInRange how
