use Rattle.wasm_encode.proofs.OneModule.{one_shortest}
use Rattle.wasm_encode.proofs.laws.one_shortest_module.Goals as goal

pub returns : goal.returns
returns c = one_shortest
