use Rattle.std.proofs.Common.{arith}
use Rattle.wasm_read.proofs.Bits.{bits_short, eight_read}
use Rattle.wasm_read.proofs.number.bits_of_eight.Goals as goal

pub returns-in_default-clause-reads : goal.returns-in_default-clause-reads
returns-in_default-clause-reads c = bits_short 8 c.args.bytes.now c.in_default.len_below (λ i. omega (arith, c.type_inv.bytes i))

pub returns-in-len8-up-clause-reads : goal.returns-in-len8-up-clause-reads
returns-in-len8-up-clause-reads c = eight_read c.args.bytes.now c.from_le_bytes-number.result c.in-len8-up.len_at_least (λ i. omega (arith, c.type_inv.bytes i)) c.from_le_bytes-number.ensures
