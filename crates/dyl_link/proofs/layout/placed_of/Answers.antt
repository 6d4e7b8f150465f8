use Rattle.std.proofs.Common.{rules, ◌∙◌, ◌≤◌, ap, sym, subst, arith}
use Rattle.spec_loading.specs.spec_linking.declared.fault.LinkFault.TheVariants as faults
use Rattle.spec_loading.specs.spec_linking.Plans.{limit}
use Rattle.spec_loading.specs.spec_linking.Slots.{table_entries}
use Rattle.spec_loading.specs.spec_linking.Links.{◌or_else◌}
use Rattle.dyl_link.specs.Answers.{Tells}
use Rattle.dyl_link.proofs.Sound.{is_placed, limits_from}
use Rattle.dyl_link.proofs.layout.placed_of.Goals as goal

pub tables_of-requires-clause-placed : goal.tables_of-requires-clause-placed
tables_of-requires-clause-placed c =
    let L = c.requires.sound.0 in
    let sizes = c.sizes_of-sizes.ensures in
    let most = c.requires.pages in
    let least = sizes.pages in
    let low : c.sizes_of-sizes.result.pages_max ≤ 16384 = omega arith in
    (L, is_placed L c.args.set.now c.args.o.now c.args.imports.now c.in_ok-plan.plan c.sizes_of-sizes.result c.requires.sound.1 c.in_ok-plan.ensures.plan sizes.sizes c.in_ok-plan.ensures.tells low sizes.entries)

pub returns-in_err-plan-clause-tells : goal.returns-in_err-plan-clause-tells
returns-in_err-plan-clause-tells c = λ L sound.
    let found = limits_from L c.args.set.now c.args.o.now c.args.imports.now c.sizes_of-sizes.result sound c.sizes_of-sizes.ensures.sizes in
    let told = c.in_err-plan.ensures.tells in
    subst (Tells c.from_residual.result) (sym found) (search (rules, told))

pub returns-in_err-made-clause-tells : goal.returns-in_err-made-clause-tells
returns-in_err-made-clause-tells c = λ L sound.
    let sizes = c.sizes_of-sizes.ensures in
    let most = c.requires.pages in
    let least = sizes.pages in
    let low : c.sizes_of-sizes.result.pages_max ≤ 16384 = omega arith in
    let rest = limit faults.TableLimit (table_entries L) c.sizes_of-sizes.result.table_max in
    let found = limits_from L c.args.set.now c.args.o.now c.args.imports.now c.sizes_of-sizes.result sound sizes.sizes ∙ ap (λ f. f or_else rest) c.in_ok-plan.ensures.tells in
    let placed = is_placed L c.args.set.now c.args.o.now c.args.imports.now c.in_ok-plan.plan c.sizes_of-sizes.result sound c.in_ok-plan.ensures.plan sizes.sizes c.in_ok-plan.ensures.tells low sizes.entries in
    let told = c.in_err-made.ensures.tells L placed in
    subst (Tells c.from_residual-in_err-made.result) (sym found) (search (rules, told))

pub returns-clause-tells : goal.returns-clause-tells
returns-clause-tells c = λ L sound.
    let sizes = c.sizes_of-sizes.ensures in
    let most = c.requires.pages in
    let least = sizes.pages in
    let low : c.sizes_of-sizes.result.pages_max ≤ 16384 = omega arith in
    let rest = limit faults.TableLimit (table_entries L) c.sizes_of-sizes.result.table_max in
    let found = limits_from L c.args.set.now c.args.o.now c.args.imports.now c.sizes_of-sizes.result sound sizes.sizes ∙ ap (λ f. f or_else rest) c.in_ok-plan.ensures.tells in
    let placed = is_placed L c.args.set.now c.args.o.now c.args.imports.now c.in_ok-plan.plan c.sizes_of-sizes.result sound c.in_ok-plan.ensures.plan sizes.sizes c.in_ok-plan.ensures.tells low sizes.entries in
    found ∙ c.in_ok-made.ensures.tells L placed

pub returns-clause-exact : goal.returns-clause-exact
returns-clause-exact c = λ L sound.
    let sizes = c.sizes_of-sizes.ensures in
    let most = c.requires.pages in
    let least = sizes.pages in
    let low : c.sizes_of-sizes.result.pages_max ≤ 16384 = omega arith in
    let placed = is_placed L c.args.set.now c.args.o.now c.args.imports.now c.in_ok-plan.plan c.sizes_of-sizes.result sound c.in_ok-plan.ensures.plan sizes.sizes c.in_ok-plan.ensures.tells low sizes.entries in
    record { plan = placed.placed; all = c.in_ok-made.ensures.exact L placed }
