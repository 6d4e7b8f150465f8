use Rattle.wasm_typing.proofs.LayoutLaws.{state-emptied}
use Rattle.wasm_typing.proofs.stacks.Stacks.leave_unreachable.Goals as goal

pub returns : goal.returns
returns c = state-emptied _ _ _ _ _ _ _ c.self.invariant c.self.view_is c.truncate.ensures.items
