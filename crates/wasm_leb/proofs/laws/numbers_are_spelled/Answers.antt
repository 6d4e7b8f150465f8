use Rattle.spec_binary.proofs.UnsignedSpelling.{some_shortest_unsigned, unsigned_small}
use Rattle.spec_binary.proofs.SignedSpelling.{some_shortest_signed, signed_range}
use Rattle.wasm_leb.proofs.laws.numbers_are_spelled.Goals as goal

pub returns : goal.returns
returns c = record {
  unsigned = (some_shortest_unsigned, λ n v word s. unsigned_small s);
  signed = (some_shortest_signed, λ n v word s. signed_range s);
}
