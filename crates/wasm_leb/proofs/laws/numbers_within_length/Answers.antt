use Rattle.std.proofs.Common.{arith}
use Rattle.spec_binary.proofs.UnsignedSpelling.{unsigned_some, unsigned_length}
use Rattle.spec_binary.proofs.SignedSpelling.{signed_some, signed_length}
use Rattle.wasm_leb.proofs.laws.numbers_within_length.Goals as goal

pub returns : goal.returns
returns c = record {
  unsigned = λ n v word h s. (unsigned_some s, let short = unsigned_length h s in omega arith);
  signed = λ n v word h s. (signed_some s, let short = signed_length h s in omega arith);
}
