use Rattle.std.proofs.Common.{◌∷◌, [], ℕ, ◌+◌, length, length-append, ap, ◌∙◌}
use Rattle.dyl_store.proofs.Addressed.{have_more}
use Rattle.dyl_store.proofs.opened_members.units_of.Goals as goal

pub loop-m-preserved : goal.loop-m-preserved
loop-m-preserved c =
    let u = c.in_ok-unit.unit in
    record {
      as_many = ap length c.in_ok-push.ensures.items ∙ length-append c.loop-m.units.items (u ∷ []) ∙ ap (λ (k : ℕ). k + 1) c.loop-m.invariant.as_many;
      each = have_more c.args.linked.now c.loop-m.units.items c.push.new.self.items u c.loop-m.m c.loop-m.invariant.as_many c.loop-m.invariant.each c.in_ok-unit.ensures c.in_ok-push.ensures.items;
    }
