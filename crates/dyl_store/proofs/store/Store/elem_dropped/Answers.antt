use Rattle.std.proofs.Common.{◌<◌, sym, ◌∙◌}
use Rattle.dyl_store.specs.Stores.{IsDroppedTold}
use Rattle.dyl_store.proofs.Standing.{in_view, seen_here}
use Rattle.dyl_store.proofs.store.Store.elem_dropped.Goals as goal

pub elem_dropped-requires : goal.elem_dropped-requires
elem_dropped-requires c =
    let b = c.bare in
    in_view c.args.self.now b.result.now.running b.ensures.linked (b.ensures.running (sym c.is_lost.ensures ∙ c.if-is_lost.false)) (λ V. c.args.e < (V.counts c.args.m).elems) c.requires

pub returns : goal.returns
returns c = λ found.
    let b = c.bare in
    seen_here c.args.self.now b.result.now.running b.ensures.linked (b.ensures.told found).at (b.ensures.running found) (λ V us. IsDroppedTold c.elem_dropped.result (V.elem us c.args.m c.args.e)) c.elem_dropped.ensures
