use Rattle.std.proofs.Common.{arith}
use Rattle.wasm_encode.proofs.Lengths.{contents_about}
use Rattle.wasm_encode.proofs.Light.{body_most}
use Rattle.wasm_encode.proofs.Least.{weight_least}
use Rattle.wasm_encode.proofs.laws.weights_bound_lengths.Goals as goal

pub returns : goal.returns
returns c = record {
  least = weight_least;
  sections = λ m id w s. (let most = (contents_about s).most in omega arith);
  bodies = body_most;
}
