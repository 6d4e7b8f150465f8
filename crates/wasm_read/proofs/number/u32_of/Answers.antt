use Rattle.spec_binary.specs.Number.{SpellsUnsigned}
use Rattle.spec_reading.specs.Values.{number_at}
use Rattle.spec_reading.proofs.Values.{number_complete, number_sound, number_plain}
use Rattle.wasm_read.proofs.Fronts.{slice_read, not_begun, small_number}
use Rattle.wasm_read.proofs.number.u32_of.Goals as goal

pub returns-in-Some-clause-reads : goal.returns-in-Some-clause-reads
returns-in-Some-clause-reads c = slice_read (SpellsUnsigned 32) (number_at 32) (number_complete 32) c.args.bytes.now c.in-Some.n c.in-Some.end c.in-Some.ensures.found

pub returns-in-None-clause-reads : goal.returns-in-None-clause-reads
returns-in-None-clause-reads c = not_begun (SpellsUnsigned 32) (number_at 32) (number_sound 32) (number_plain 32) c.args.bytes.now c.in-None.ensures.none

pub returns-clause-reads : goal.returns-clause-reads
returns-clause-reads c = rw (c.from.ensures) (small_number c.args.bytes.now _ c.in-len1-up.len_at_least c.if-b-lt128.true)
