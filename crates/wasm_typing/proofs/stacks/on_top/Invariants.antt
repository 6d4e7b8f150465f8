use Rattle.std.proofs.Common.{◌≡◌, length}
use Rattle.std.specs.Prelude.{reverse}
use Rattle.spec_validation.specs.Stacks.{begins}
use Rattle.wasm_typing.proofs.stacks.on_top.Given as goal

abbrev pub decreases-loop-ty : goal.decreases-loop-ty
decreases-loop-ty l = length l.above

abbrev pub invariant-loop-ty : goal.invariant-loop-ty
invariant-loop-ty l = begins (reverse l.above) (reverse l.under) l.loose ≡ begins (reverse l.types) (reverse l.entries) l.loose
