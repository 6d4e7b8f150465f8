use Rattle.std.proofs.Common.{arith}
use Rattle.std.proofs.lemmas.Bool.{leb-true}
use Rattle.wasm_step.proofs.Laid.{can_open_here}
use Rattle.wasm_step.proofs.current.Current.fits.Goals as goal

pub returns-then-room-capacity : goal.returns-then-room-capacity
returns-then-room-capacity c = λ h. let k = leb-true 1001 _ h in can_open_here _ _ _ _ _ _ c.self.invariant.laid c.self.view_is c.args.room (omega arith) (omega (arith, k))
