use Rattle.std.proofs.Common.{◌∙◌, ◌+◌, ap, arith, take, map}
use Rattle.std.proofs.lemmas.List.{take_all}
use Rattle.spec_loading.specs.spec_linking.Slots.{all_applied, applied}
use Rattle.dyl_slots.specs.Regions.{placing_value}
use Rattle.dyl_slots.proofs.Applied.{placings_more}
use Rattle.dyl_slots.proofs.regions.apply_all.Goals as goal

pub loop-p-preserved : goal.loop-p-preserved
loop-p-preserved c = λ table is k inside.
    let before = all_applied table (map placing_value (take c.loop-p.p-index c.args.placings.now)) in
    c.apply.ensures before (c.loop-p.invariant table is) k inside
    ∙ ap (λ items. applied before (c.p-item.result.at, items) (c.args.base + k)) c.items.ensures
    ∙ placings_more table c.args.placings.now c.loop-p.p-index c.p-item.result (c.args.base + k) c.loop-p-test.true c.p-item.is

pub returns : goal.returns
returns c = λ table is k inside.
    c.loop-p.invariant table is k inside
    ∙ ap (λ ps. all_applied table (map placing_value ps) (c.args.base + k)) (take_all c.loop-p.p-index c.args.placings.now (omega arith))
