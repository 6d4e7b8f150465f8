use Rattle.std.proofs.Common.{◌≡◌, ◌-◌, length, arith}
use Rattle.std.specs.Prelude.{min}
use Rattle.wasm_typing.proofs.LayoutLaws.{state-shortened, state-known}
use Rattle.wasm_typing.proofs.stacks.Stacks.shorten.Goals as goal

pub returns : goal.returns
returns c =
    let k : length c.self.inside.entries.items - c.self.inside.start ≡ length c.args.self.now.stack.entries = state-known _ _ _ _
    c.self.inside.labels.items _ c.self.view_is in
    let e : c.len.result - c.min-gone.result ≡ length c.self.inside.entries.items - min c.args.n
    (length c.self.inside.entries.items - c.self.inside.start) = omega arith in
    state-shortened _ _ _ _ _ _ _ _ _ c.self.invariant c.self.view_is e c.truncate.ensures.items
