use Rattle.spec_binary.proofs.UnsignedSpelling.{one_shortest_unsigned}
use Rattle.spec_binary.proofs.SignedSpelling.{one_shortest_signed}
use Rattle.wasm_leb.proofs.laws.one_shortest_number.Goals as goal

pub returns : goal.returns
returns c = record { unsigned = one_shortest_unsigned; signed = one_shortest_signed }
