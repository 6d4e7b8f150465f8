-- What is put to the errors.
-- Cited by the clause `does` of `serve`, through Runs.
-- This profile: docs/FORMATS.md, "The line".
use Rattle.std.specs.Prelude.{◌≡◌, ◌⊎◌, IsSome, Result}
use Rattle.spec_hosts.specs.dyl_outside.declared.fault.IoFault.{IoFault}
use Rattle.spec_hosts.specs.dyl_outside.Sink.{SinkState, Puts}
use Rattle.spec_hosts.specs.Devices.{PutsLine}
use Rattle.dyl_front.specs.declared.outcome.Outcome.{Outcome}
use Rattle.dyl_front.specs.declared.outcome.Outcome.TheVariants.{Memory}
use Rattle.dyl_front.specs.Lines.{line_of, line_with, memory_text}

-- the answer is the outcome, or no memory could be had to tell of it
abbrev pub IsTold : Outcome → Outcome → Type 0
IsTold outcome answer = (answer ≡ outcome) ⊎ ((answer ≡ Memory) × IsSome (line_of outcome))

-- What is put for an answer: its line, if it has one. Even the put of the line of Memory may want memory.
abbrev pub TellsErrors : Outcome → SinkState → SinkState → Type 0
TellsErrors Memory old new = (result : Result (Unit {0}) IoFault) × Puts (line_with memory_text) result old new
TellsErrors answer old new = PutsLine (line_of answer) old new
