-- What reading gives is what there is to say of bytes.
use Rattle.std.proofs.Common.{◌≡◌, ℕ, List, Result, Ok, Err, refl, subst, sym}
use Rattle.std.specs.Prelude.{IfOk}
use Rattle.wasm_form.specs.declared.module.Module.{Module}
use Rattle.spec_reading.specs.spec_binary.declared.fault.DecodeFault.{DecodeFault}
use Rattle.spec_reading.specs.spec_binary.declared.fault.DecodeFault.TheVariants as faults
use Rattle.spec_reading.specs.spec_binary.WellFormed.{IsWellFormed}
use Rattle.spec_reading.specs.spec_binary.DecodeAnswers.{DecodeAnswer, too_many_locals, too_deep, no_header, malformed, counts, spelled}
use Rattle.spec_reading.specs.Sections.{answer_of}
use Rattle.spec_reading.specs.Laws.{ReadingAnswers, SpelledIsFormed}
use Rattle.spec_reading.proofs.Steps.{ok_is}
use Rattle.wasm_decode.specs.Given.{Tells}
use Rattle.wasm_decode.specs.Decoded.{Decodes, Yields}

moved : (bytes : List ℕ) (answer : Result Module DecodeFault) → ReadingAnswers → answer_of bytes ≡ answer → DecodeAnswer bytes answer
moved bytes answer law e = subst (DecodeAnswer bytes) e (law bytes).0

pub decoded : (bytes : List ℕ) (result : Result Module DecodeFault) → ReadingAnswers → Tells (λ m. m) result (answer_of bytes) → Decodes bytes result
decoded bytes (Ok m) law h = moved bytes (Ok m) law h
decoded bytes (Err (faults.Malformed section)) law h = moved bytes (Err (faults.Malformed section)) law h
decoded bytes (Err faults.Counts) law h = moved bytes (Err faults.Counts) law h
decoded bytes (Err (faults.TooDeep function)) law h = moved bytes (Err (faults.TooDeep function)) law h
decoded bytes (Err (faults.TooManyLocals function)) law h = moved bytes (Err (faults.TooManyLocals function)) law h
decoded bytes (Err faults.Memory) law h = tt

pub yielded : (bytes : List ℕ) (result : Result Module DecodeFault) → ReadingAnswers → Tells (λ m. m) result (answer_of bytes) → (answer : Result Module DecodeFault) → DecodeAnswer bytes answer → Yields answer result
yielded bytes result law h answer a = subst (λ answer. Yields answer result) (sym ((law bytes).1 answer a)) h

-- the module of an answer is well formed
formed_of : (bytes : List ℕ) (answer : Result Module DecodeFault) (m : Module) → SpelledIsFormed → DecodeAnswer bytes answer → answer ≡ Ok m → IsWellFormed m
formed_of bytes answer m law (too_many_locals r p) e = absurd cc
formed_of bytes answer m law (too_deep r p) e = absurd cc
formed_of bytes answer m law (no_header h) e = absurd cc
formed_of bytes answer m law (malformed r n o l d) e = absurd cc
formed_of bytes answer m law (counts s l c) e = absurd cc
formed_of bytes answer m law (spelled {m = n} s l c) e = subst IsWellFormed (ok_is DecodeFault n m e) (law n bytes s l c)

formed : (bytes : List ℕ) (m : Module) → ReadingAnswers → SpelledIsFormed → answer_of bytes ≡ Ok m → IsWellFormed m
formed bytes m law formed_law e = formed_of bytes (Ok m) m formed_law (moved bytes (Ok m) law e) refl

pub formed_result : (bytes : List ℕ) (result : Result Module DecodeFault) → ReadingAnswers → SpelledIsFormed → Tells (λ m. m) result (answer_of bytes) → IfOk result IsWellFormed
formed_result bytes (Ok m) law formed_law h = formed bytes m law formed_law h
formed_result bytes (Err e) law formed_law h = tt
