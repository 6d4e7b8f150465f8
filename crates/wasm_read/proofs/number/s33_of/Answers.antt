use Rattle.std.proofs.Common.{rules, FitsSigned, w64}
use Rattle.std.proofs.lemmas.Int.{to_z-of_z}
use Rattle.spec_binary.specs.Number.{SpellsSigned}
use Rattle.spec_reading.specs.Values.{signed_at}
use Rattle.spec_reading.proofs.Values.{signed_complete, signed_sound, signed_plain}
use Rattle.wasm_read.proofs.Fronts.{slice_read, not_begun}
use Rattle.wasm_read.proofs.number.s33_of.Goals as goal

pub returns-in-Some-clause-reads : goal.returns-in-Some-clause-reads
returns-in-Some-clause-reads c =
    let fits : FitsSigned w64 c.in-Some.n = search rules in
    rw (to_z-of_z w64 c.in-Some.n fits) (slice_read (SpellsSigned 33) (signed_at 33) (signed_complete 33) c.args.bytes.now c.in-Some.n c.in-Some.end c.in-Some.ensures.found)

pub returns-in-None-clause-reads : goal.returns-in-None-clause-reads
returns-in-None-clause-reads c = not_begun (SpellsSigned 33) (signed_at 33) (signed_sound 33) (signed_plain 33) c.args.bytes.now c.in-None.ensures.none
