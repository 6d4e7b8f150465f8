use Rattle.spec_binary.proofs.UnsignedSpelling.{one_unsigned}
use Rattle.spec_binary.proofs.SignedSpelling.{one_signed}
use Rattle.wasm_leb.proofs.laws.no_number_begins_another.Goals as goal

pub returns : goal.returns
returns c = record { unsigned = one_unsigned; signed = one_signed }
