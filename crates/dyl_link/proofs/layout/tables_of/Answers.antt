use Rattle.std.proofs.Common.{rules}
use Rattle.dyl_link.proofs.Sound.{is_counted, are_all}
use Rattle.dyl_link.proofs.layout.tables_of.Goals as goal

pub make_tables-requires-clause-given : goal.make_tables-requires-clause-given
make_tables-requires-clause-given c =
    let L = c.requires.placed.0 in
    let is = c.requires.placed.1 in
    let made = c.in_ok-functions.ensures in
    (L, (is_counted L c.args.imports.now c.args.plan.now c.in_ok-functions.functions.items c.as_slice.result.now c.args.sizes.now is c.as_slice.ensures.value made.count c.requires.few (made.exact L is.imported is.none)).given)

pub returns-in_err-tables-clause-tells : goal.returns-in_err-tables-clause-tells
returns-in_err-tables-clause-tells c = λ L is.
    let made = c.in_ok-functions.ensures in
    let counted = is_counted L c.args.imports.now c.args.plan.now c.in_ok-functions.functions.items c.as_slice.result.now c.args.sizes.now is c.as_slice.ensures.value made.count c.requires.few (made.exact L is.imported is.none) in
    let told = c.in_err-tables.ensures.fault L counted in
    search (rules, told)

pub returns-clause-tells : goal.returns-clause-tells
returns-clause-tells c = λ L is.
    let made = c.in_ok-functions.ensures in
    let counted = is_counted L c.args.imports.now c.args.plan.now c.in_ok-functions.functions.items c.as_slice.result.now c.args.sizes.now is c.as_slice.ensures.value made.count c.requires.few (made.exact L is.imported is.none) in
    c.in_ok-tables.ensures.fault L counted

pub returns-clause-exact : goal.returns-clause-exact
returns-clause-exact c = λ L is.
    let made = c.in_ok-functions.ensures in
    let named = made.exact L is.imported is.none in
    let counted = is_counted L c.args.imports.now c.args.plan.now c.in_ok-functions.functions.items c.as_slice.result.now c.args.sizes.now is c.as_slice.ensures.value made.count c.requires.few named in
    are_all L c.args.imports.now c.in_ok-functions.functions.items c.in_ok-tables.tables is.imported made.count named (c.in_ok-tables.ensures.exact L counted)
