-- The text of a trace.
-- This profile: docs/FORMATS.md, "The trace".
use Rattle.std.specs.Prelude.{◌≡◌, ◌<◌, ◌≤◌, ◌^◌, ℕ, suc, List, [], ◌∷◌, ◌++◌, length, map, take, flat_map, codes, decimal, nat_eq, IsUtf8, if◌then◌else◌}
use Rattle.std.specs.List.{All}
use Rattle.spec_hosts.specs.wasm_form.declared.runtime.Answer.{Answer}
use Rattle.spec_hosts.specs.wasm_form.declared.runtime.Answer.TheVariants.{Reply, Exit}
use Rattle.spec_hosts.specs.wasm_form.declared.runtime.Write.{Write}
use Rattle.spec_hosts.specs.declared.ran.RunEnd.{RunEnd}
use Rattle.spec_hosts.specs.declared.ran.RunEnd.TheVariants as ran
use Rattle.dyl_print.specs.Printed.{escaped, bytes_word, end_word}
use Rattle.spec_traces.specs.declared.trace.Trace.{Trace}
use Rattle.spec_traces.specs.declared.trace.TraceCall.{TraceCall}
use Rattle.spec_traces.specs.declared.trace.TraceEnd.{TraceEnd}
use Rattle.spec_traces.specs.declared.trace.TraceEnd.TheVariants as end

-- the end of a run that is told
abbrev pub run_end : TraceEnd → RunEnd
run_end end.Return = ran.Return
run_end (end.Exit code) = ran.Exit code
run_end (end.Trap why) = ran.Trap why
run_end end.StepLimit = ran.StepLimit
run_end end.DepthLimit = ran.DepthLimit
run_end end.HostCallLimit = ran.HostCallLimit

-- ---- lines, without their ends

-- the further words of a line, each behind one space
abbrev pub spaced : List (List ℕ) → List ℕ
spaced words = flat_map (λ word. 0x20 ∷ word) words

abbrev pub put_line : Write → List ℕ
put_line w = codes "put" ++ spaced (decimal w.at ∷ bytes_word w.bytes ∷ [])

-- the writes in order and then the results, or the exit
abbrev pub answer_lines : Answer → List (List ℕ)
answer_lines (Reply results writes) = map put_line writes ++ (codes "reply" ++ spaced (map decimal results)) ∷ []
answer_lines (Exit code) = (codes "exit" ++ spaced (decimal code ∷ [])) ∷ []

abbrev pub call_line : TraceCall → List ℕ
call_line c = codes "call" ++ spaced (decimal c.steps ∷ escaped c.«module» ∷ escaped c.name ∷ map decimal c.args)

abbrev pub call_lines : TraceCall → List (List ℕ)
call_lines c = call_line c ∷ answer_lines c.answer

abbrev pub end_line : Trace → List ℕ
end_line t = codes "end" ++ spaced (decimal t.steps ∷ end_word (run_end t.end) ∷ [])

abbrev pub trace_lines : Trace → List (List ℕ)
trace_lines t = codes "trace 1" ∷ (flat_map call_lines t.calls ++ end_line t ∷ [])

-- ---- the text: each line ends with a line feed

abbrev pub line_feed : ℕ
line_feed = 0x0A

abbrev pub trace_text : Trace → List ℕ
trace_text t = flat_map (λ line. line ++ line_feed ∷ []) (trace_lines t)

-- ---- the ranges of numbers

abbrev pub IsWriteInRange : Write → Type 0
IsWriteInRange w = (w.at < 2 ^ 32) × All (λ b. b < 256) w.bytes

abbrev pub IsAnswerInRange : Answer → Type 0
IsAnswerInRange (Reply results writes) = All (λ n. n < 2 ^ 64) results × All IsWriteInRange writes
IsAnswerInRange (Exit code) = code < 2 ^ 32

pub record IsCallInRange (c : TraceCall) : Type 0 where
  pub steps : c.steps < 2 ^ 63
  pub from : IsUtf8 c.«module»
  pub name : IsUtf8 c.name
  pub args : All (λ n. n < 2 ^ 64) c.args
  pub answer : IsAnswerInRange c.answer

abbrev pub IsEndInRange : TraceEnd → Type 0
IsEndInRange (end.Exit code) = code < 2 ^ 32
IsEndInRange _ = Unit {0}

pub record IsInRange (t : Trace) : Type 0 where
  pub calls : All IsCallInRange t.calls
  pub steps : t.steps < 2 ^ 63
  pub end_is : IsEndInRange t.end

-- ---- reading

-- the bytes are the text of a trace
abbrev pub IsTextOf : List ℕ → Trace → Type 0
IsTextOf bytes t = (bytes ≡ trace_text t) × IsInRange t

-- what stands behind the first byte goes on its line
abbrev pub on_line : ℕ → List (List ℕ) → List (List ℕ)
on_line b [] = []
on_line b (line ∷ lines) = (b ∷ line) ∷ lines

-- the lines of bytes, each of which ends with a line feed; what stands behind the last one is no line
abbrev pub lines_of : List ℕ → List (List ℕ)
lines_of [] = []
lines_of (b ∷ bytes) = if nat_eq b line_feed then [] ∷ lines_of bytes else on_line b (lines_of bytes)

-- so many lines are there, and are the first ones of a text
abbrev pub GoesOn : List ℕ → ℕ → Type 0
GoesOn bytes n =
    (t : Trace) × IsInRange t × (n ≤ length (lines_of bytes)) × (n ≤ length (trace_lines t)) × (take n (lines_of bytes) ≡ take n (trace_lines t))

-- The bytes are no text, and this is the first line, from 1, at which no text goes on.
pub record BreaksAt (bytes : List ℕ) (line : ℕ) : Type 0 where
  pub before : ℕ
  pub number : line ≡ suc before
  pub goes : GoesOn bytes before
  pub stops : GoesOn bytes line → ⊥
  pub no_text : (t : Trace) → IsTextOf bytes t → ⊥
