use Rattle.std.proofs.Common.{arith}
use Rattle.wasm_leb.proofs.unsigned.put_u32.Goals as goal

pub returns-in-Ok-clause-ok : goal.returns-in-Ok-clause-ok
returns-in-Ok-clause-ok c = rw (← c.from.ensures) (c.in-Ok.ensures.ok 32 (omega (arith, c.from.ensures)))
