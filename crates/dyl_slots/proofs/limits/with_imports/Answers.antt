use Rattle.std.proofs.Common.{◌<◌, ◌+◌, ◌∙◌, length, drop, ap, arith}
use Rattle.std.specs.List.{flat_map}
use Rattle.spec_loading.specs.spec_linking.Plans.{least_of, maxima, table_limits}
use Rattle.dyl_slots.proofs.Maxima.{next_import}
use Rattle.dyl_slots.proofs.limits.with_imports.Goals as goal

pub loop-i-preserved : goal.loop-i-preserved
loop-i-preserved c =
    let imports = c.args.imports.now in
    let i = c.loop-i.i-index in
    let inside : i < length imports = omega arith in
    ap (λ b. least_of b (maxima (flat_map table_limits (drop (i + 1) imports)))) c.with_import-least.ensures
    ∙ next_import c.loop-i.least imports i c.i-item.result inside c.i-item.is
    ∙ c.loop-i.invariant
