use Rattle.std.proofs.Common.{arith, ◌≡◌, ◌-◌, length}
use Rattle.wasm_typing.proofs.LayoutLaws.{state-known}
use Rattle.wasm_typing.proofs.stacks.Stacks.known.Goals as goal

pub returns : goal.returns
returns c =
    let h : length c.self.inside.entries.items - c.self.inside.start ≡ length c.args.self.now.stack.entries = state-known _ _ _ _
    c.self.inside.labels.items _ c.self.view_is in
    omega arith
