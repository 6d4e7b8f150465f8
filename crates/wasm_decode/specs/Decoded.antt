-- What a decoded result says of the bytes.
-- Serves the contracts of this crate, which follow DecodeAnswers of `spec_binary`.
use Rattle.std.specs.Prelude.{ℕ, List, Result, Err}
use Rattle.wasm_form.specs.declared.module.Module.{Module}
use Rattle.spec_reading.specs.spec_binary.declared.fault.DecodeFault.{DecodeFault}
use Rattle.spec_reading.specs.spec_binary.declared.fault.DecodeFault.TheVariants as faults
use Rattle.spec_reading.specs.spec_binary.DecodeAnswers.{DecodeAnswer}
use Rattle.wasm_decode.specs.Given.{Tells}

-- The result is to say of the bytes. Of want of memory nothing is said.
abbrev pub Decodes : List ℕ → Result Module DecodeFault → Type 0
Decodes bytes (Err faults.Memory) = Unit {0}
Decodes bytes result = DecodeAnswer bytes result

-- the result is this answer, or memory ran out
abbrev pub Yields : Result Module DecodeFault → Result Module DecodeFault → Type 0
Yields answer result = Tells (λ m. m) result answer
