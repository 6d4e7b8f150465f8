use Rattle.wasm_typing.proofs.LayoutLaws.{state-restarted}
use Rattle.wasm_typing.proofs.stacks.Stacks.restart.Goals as goal

pub returns-clause-rest : goal.returns-clause-rest
returns-clause-rest c = state-restarted _ _ _ _ _ _ _ _ c.self.invariant c.self.view_is c.truncate.ensures.items c.put.ensures.rest
