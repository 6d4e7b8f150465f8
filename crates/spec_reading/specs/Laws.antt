-- What reading from left to right finds is what the definition of spelling says.
-- Part of the statement of laws: docs/LAWS.md, "There is one answer for bytes" and "Laws of the
-- parts".
use Rattle.std.specs.Prelude.{◌≡◌, ℕ, List, All, Result}
use Rattle.spec_binary.specs.wasm_form.declared.module.Module.{Module}
use Rattle.spec_binary.specs.BodyLimits.{IsWithinLimits}
use Rattle.spec_binary.specs.Modules.{SpellsModule}
use Rattle.spec_binary.specs.WellFormed.{CountsAgree, IsWellFormed}
use Rattle.spec_binary.specs.declared.fault.DecodeFault.{DecodeFault}
use Rattle.spec_binary.specs.DecodeAnswers.{DecodeAnswer}
use Rattle.spec_reading.specs.Sections.{answer_of}

-- there is one answer for bytes, and reading gives it
abbrev pub ReadingAnswers : Type 0
ReadingAnswers = (bytes : List ℕ) → DecodeAnswer bytes (answer_of bytes) × ((answer : Result Module DecodeFault) → DecodeAnswer bytes answer → answer ≡ answer_of bytes)

-- bytes spell at most one module
abbrev pub OneModule : Type 0
OneModule = (one other : Module) (bytes : List ℕ) → SpellsModule one bytes → SpellsModule other bytes → one ≡ other

-- a module that bytes spell is well formed where its bodies keep the limits and its numbers agree
abbrev pub SpelledIsFormed : Type 0
SpelledIsFormed = (m : Module) (bytes : List ℕ) → SpellsModule m bytes → All IsWithinLimits m.codes → CountsAgree m → IsWellFormed m
