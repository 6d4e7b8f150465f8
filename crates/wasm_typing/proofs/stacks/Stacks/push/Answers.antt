use Rattle.wasm_typing.proofs.LayoutLaws.{state-put}
use Rattle.wasm_typing.proofs.stacks.Stacks.push.Goals as goal

pub returns-clause-rest : goal.returns-clause-rest
returns-clause-rest c = state-put _ _ _ _ _ _ _ _ c.self.invariant c.self.view_is c.in-Ok.ensures.items
