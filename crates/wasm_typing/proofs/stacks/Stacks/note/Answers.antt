use Rattle.std.proofs.Common.{◌≡◌, length}
use Rattle.std.specs.Prelude.{max}
use Rattle.wasm_typing.proofs.LayoutLaws.{state-noted}
use Rattle.wasm_typing.proofs.stacks.Stacks.note.Goals as goal

pub returns : goal.returns
returns c =
    let e : c.max-self-inside.result ≡ max c.self.inside.most (length c.self.inside.entries.items) = cc in
    state-noted _ _ _ _ _ _ _ c.self.invariant c.self.view_is e
