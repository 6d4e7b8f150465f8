use Rattle.std.proofs.Common.{arith}
use Rattle.wasm_step.proofs.Laid.{open_there}
use Rattle.wasm_step.proofs.current.Current.again.Goals as goal

pub innermost-requires : goal.innermost-requires
innermost-requires c = omega (arith, open_there _ _ _ _ _ _ c.self.invariant.laid c.self.view_is c.requires)
