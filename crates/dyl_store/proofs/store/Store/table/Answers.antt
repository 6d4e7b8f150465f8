use Rattle.std.proofs.Common.{◌≡◌, ◌<◌, Some, sym, ◌∙◌}
use Rattle.dyl_store.proofs.Standing.{in_view, seen_here}
use Rattle.dyl_store.proofs.store.Store.table.Goals as goal

pub table-requires : goal.table-requires
table-requires c =
    let b = c.bare in
    in_view c.args.self.now b.result.now.running b.ensures.linked (b.ensures.running (sym c.is_lost.ensures ∙ c.if-is_lost.false)) (λ V. c.args.t < (V.counts c.args.m).tables) c.requires

pub returns : goal.returns
returns c = λ found.
    let b = c.bare in
    seen_here c.args.self.now b.result.now.running b.ensures.linked (b.ensures.told found).at (b.ensures.running found) (λ V us. V.table us c.args.m c.args.t ≡ Some c.table.result.now) (sym c.table.ensures)
