use Rattle.std.proofs.Common.{arith}
use Rattle.wasm_step.proofs.Laid.{can_open_at}
use Rattle.wasm_step.proofs.current.Current.widen.Goals as goal

pub returns-clause-fits : goal.returns-clause-fits
returns-clause-fits c =
    can_open_at _ _ _ _ _ _ c.self.invariant.laid c.self.view_is _ _ _ _ _ c.reserve-2.ensures.items c.reserve.ensures.items (omega (arith, (c.in_ok-reserve-2.ensures {u = tt}).ok)) (omega (arith, (c.in_ok-reserve.ensures {u = tt}).ok))
