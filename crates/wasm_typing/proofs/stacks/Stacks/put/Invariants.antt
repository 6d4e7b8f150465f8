use Rattle.std.proofs.Common.{◌≡◌, take}
use Rattle.spec_validation.specs.Stacks.{put_on}
use Rattle.wasm_typing.specs.States.{with_stack}
use Rattle.wasm_typing.proofs.stacks.Stacks.put.Given as goal

abbrev pub invariant-loop-ty : goal.invariant-loop-ty
invariant-loop-ty l = l.self ≡ with_stack l.fn.self (put_on (take l.ty-index l.types) l.fn.self.stack)
