use Rattle.std.proofs.Common.{◌∷◌, [], ℕ, ◌+◌, length, length-append, ap, ◌∙◌}
use Rattle.dyl_store.proofs.Offsets.{one_more}
use Rattle.dyl_store.proofs.segment_places.placements_of.Goals as goal

pub loop-m-preserved : goal.loop-m-preserved
loop-m-preserved c =
    let p = c.in_ok-placement.placement in
    record {
      as_many = ap length c.in_ok-push.ensures.items ∙ length-append c.loop-m.placements.items (p ∷ []) ∙ ap (λ (k : ℕ). k + 1) c.loop-m.invariant.as_many;
      each = one_more c.args.linked.now c.loop-m.placements.items c.push.new.self.items p c.loop-m.m c.loop-m.invariant.as_many c.loop-m.invariant.each c.in_ok-placement.ensures c.in_ok-push.ensures.items;
    }
