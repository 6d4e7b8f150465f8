use Rattle.std.proofs.Common.{◌≡◌, ◌∙◌, ◌<◌, length, get_or, map, ap, arith}
use Rattle.spec_loading.specs.spec_linking.Plans.{limits_in}
use Rattle.dyl_slots.specs.dyl_search.Gathers.{member_of}
use Rattle.dyl_link.specs.Bounds.{limits_as, all_limits}
use Rattle.dyl_link.proofs.Greatest.{bounds_step}
use Rattle.dyl_link.proofs.sizes.bounds_of.Goals as goal

pub loop-member-preserved : goal.loop-member-preserved
loop-member-preserved c =
    let members = c.args.members.now in
    let i = c.loop-member.member-index in
    let x = c.member-item.result in
    let less : i < length members = omega arith in
    let at : x ≡ get_or members i x = cc in
    bounds_step c.args.shared members i x c.loop-member.bounds c.bounds_by-bounds.result
    (all_limits (record { min = 0; max = c.args.most }) (limits_in (limits_as c.args.shared) (map member_of members)))
    c.items.result.now less at (c.items.ensures ∙ ap (λ w. w.imports) c.module.ensures.same) c.loop-member.invariant c.bounds_by-bounds.ensures
