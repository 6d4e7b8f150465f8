use Rattle.std.proofs.Common.{rules, arith, FitsSigned, w64}
use Rattle.std.proofs.lemmas.Int.{to_z-of_z}
use Rattle.spec_binary.specs.Number.{SpellsSigned}
use Rattle.spec_reading.specs.Values.{signed_at}
use Rattle.spec_reading.proofs.Values.{signed_complete, signed_sound, signed_plain}
use Rattle.wasm_read.proofs.Fronts.{slice_read, not_begun, small_signed}
use Rattle.wasm_read.proofs.number.s64_of.Goals as goal

pub returns-in-Some-clause-reads : goal.returns-in-Some-clause-reads
returns-in-Some-clause-reads c =
    let fits : FitsSigned w64 c.in-Some.n = search rules in
    rw (to_z-of_z w64 c.in-Some.n fits) (slice_read (SpellsSigned 64) (signed_at 64) (signed_complete 64) c.args.bytes.now c.in-Some.n c.in-Some.end c.in-Some.ensures.found)

pub returns-in-None-clause-reads : goal.returns-in-None-clause-reads
returns-in-None-clause-reads c = not_begun (SpellsSigned 64) (signed_at 64) (signed_sound 64) (signed_plain 64) c.args.bytes.now c.in-None.ensures.none

pub returns-clause-reads : goal.returns-clause-reads
returns-clause-reads c =
    let fits : FitsSigned w64 c.from.result = search rules in
    rw (to_z-of_z w64 c.from.result fits, c.from.ensures) (small_signed 64 (omega arith) c.args.bytes.now _ c.in-len1-up.len_at_least c.if-b-lt64.true)
