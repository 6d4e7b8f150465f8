use Rattle.std.proofs.Common.{◌++◌, ◌-◌, [], ◌∷◌, sym, ap, ◌∙◌, append_assoc}
use Rattle.snap_module.specs.Held.{below}
use Rattle.snap_parts.proofs.Zips.{below_next}
use Rattle.snap_parts.proofs.elems.below.Goals as goal

pub loop-left-preserved : goal.loop-left-preserved
loop-left-preserved c =
    let k = c.loop-left.left in
    ap (λ l. l ++ below (k - 1)) c.in_ok-push.ensures.items ∙ append_assoc c.loop-left.list.items ((k - 1) ∷ []) (below (k - 1))
    ∙ ap (λ l. c.loop-left.list.items ++ l) (sym (below_next k c.loop-left-test.true)) ∙ c.loop-left.invariant
