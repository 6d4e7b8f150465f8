use Rattle.spec_reading.specs.spec_binary.Types.{constant, variable}
use Rattle.wasm_encode.proofs.types.mutability.Goals as goal

pub returns-then-mutable : goal.returns-then-mutable
returns-then-mutable c = rw c.if-mutable.true variable

pub returns-else-mutable : goal.returns-else-mutable
returns-else-mutable c = rw c.if-mutable.false constant
