use Rattle.wasm_encode.proofs.Light.{first_never}
use Rattle.wasm_encode.proofs.laws.light_modules_fit.Goals as goal

pub returns : goal.returns
returns c = first_never
