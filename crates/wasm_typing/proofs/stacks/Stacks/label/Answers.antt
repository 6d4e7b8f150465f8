use Rattle.std.proofs.Common.{arith, ◌≡◌, ◌<◌, ◌≤◌, ◌-◌, length}
use Rattle.wasm_typing.proofs.LayoutLaws.{state-label, state-no_label}
use Rattle.wasm_typing.proofs.stacks.Stacks.label.Goals as goal

pub returns-then-k-count : goal.returns-then-k-count
returns-then-k-count c =
    let n : c.args.k < length c.self.inside.labels.items = omega arith in
    let i : c.len-count.result - 1 - c.args.k ≡ length c.self.inside.labels.items - 1 - c.args.k = omega arith in
    state-label _ _ _ _ _ _ _ _ _ c.self.view_is n i c.index.ensures

pub returns-else-k-count : goal.returns-else-k-count
returns-else-k-count c =
    let n : length c.self.inside.labels.items ≤ c.args.k = omega arith in
    state-no_label _ _ _ _ _ _ _ c.self.view_is n
