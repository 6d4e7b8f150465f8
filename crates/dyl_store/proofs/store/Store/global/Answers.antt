use Rattle.std.proofs.Common.{◌≡◌, ◌<◌, Some, sym, ◌∙◌}
use Rattle.dyl_store.proofs.Standing.{in_view, seen_here}
use Rattle.dyl_store.proofs.store.Store.global.Goals as goal

pub global-requires : goal.global-requires
global-requires c =
    let b = c.bare in
    in_view c.args.self.now b.result.now.running b.ensures.linked (b.ensures.running (sym c.is_lost.ensures ∙ c.if-is_lost.false)) (λ V. c.args.g < (V.counts c.args.m).globals) c.requires

pub returns : goal.returns
returns c = λ found.
    let b = c.bare in
    seen_here c.args.self.now b.result.now.running b.ensures.linked (b.ensures.told found).at (b.ensures.running found) (λ V us. V.global us c.args.m c.args.g ≡ Some c.global.result) (sym c.global.ensures)
