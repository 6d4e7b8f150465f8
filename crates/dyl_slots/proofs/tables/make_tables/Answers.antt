use Rattle.std.proofs.Common.{rules, ◌≡◌, ◌∙◌, None, max, ap, subst}
use Rattle.spec_loading.specs.spec_linking.declared.fault.LinkFault.TheVariants as faults
use Rattle.spec_loading.specs.spec_linking.Plans.{Plan, limit}
use Rattle.spec_loading.specs.spec_linking.Slots.{linked_plan, table_entries}
use Rattle.dyl_slots.specs.Limits.{TellsLimit}
use Rattle.dyl_slots.specs.Wanted.{IsWanted, wanted_end}
use Rattle.dyl_slots.proofs.AllMembers.{as_many_bases}
use Rattle.dyl_slots.proofs.AllTables.{entries_are}
use Rattle.dyl_slots.proofs.tables.make_tables.Goals as goal

pub returns-in_err-entries-clause-fault : goal.returns-in_err-entries-clause-fault
returns-in_err-entries-clause-fault c = λ L is.
    let w = c.in_ok-wanted.wanted in
    let most = c.args.sizes.now.table_max in
    let wanted : IsWanted L w = c.in_ok-wanted.ensures.exact L is.given is.imported in
    let end : c.table_end.result ≡ (linked_plan L).table_end = c.table_end.ensures ∙ ap (λ (p : Plan). p.table_end) is.given.placed in
    let same : max (wanted_end w c.table_end.result) c.args.sizes.now.table_min ≡ table_entries L = entries_are L w c.table_end.result c.args.sizes.now.table_min wanted end is.least in
    let found = c.in_err-entries.ensures.tells in
    let told : TellsLimit c.from_residual-in_err-entries.result (limit faults.TableLimit (max (wanted_end w c.table_end.result) c.args.sizes.now.table_min) most) = search (rules, found) in
    subst (λ n. TellsLimit c.from_residual-in_err-entries.result (limit faults.TableLimit n most)) same told

pub tables_with-requires-clause-regular : goal.tables_with-requires-clause-regular
tables_with-requires-clause-regular c =
    let given = c.requires.given.1 in
    let many = as_many_bases c.requires.given.0 c.args.imports.now.known.members.now c.args.plan.now c.args.functions.now given in
    record { bases = many.0; table_bases = many.1; names = c.requires.names; few = given.few; pages = given.pages }

pub returns-clause-exact : goal.returns-clause-exact
returns-clause-exact c = λ L is.
    let w = c.in_ok-wanted.wanted in
    let wanted : IsWanted L w = c.in_ok-wanted.ensures.exact L is.given is.imported in
    let end : c.table_end.result ≡ (linked_plan L).table_end = c.table_end.ensures ∙ ap (λ (p : Plan). p.table_end) is.given.placed in
    let same = entries_are L w c.table_end.result c.args.sizes.now.table_min wanted end is.least in
    c.in_ok-tables.ensures L is.given.placed is.imported wanted (c.in_ok-entries.ensures.value ∙ same)

pub returns-clause-fault : goal.returns-clause-fault
returns-clause-fault c = λ L is.
    let w = c.in_ok-wanted.wanted in
    let most = c.args.sizes.now.table_max in
    let wanted : IsWanted L w = c.in_ok-wanted.ensures.exact L is.given is.imported in
    let end : c.table_end.result ≡ (linked_plan L).table_end = c.table_end.ensures ∙ ap (λ (p : Plan). p.table_end) is.given.placed in
    let same = entries_are L w c.table_end.result c.args.sizes.now.table_min wanted end is.least in
    subst (λ n. limit faults.TableLimit n most ≡ None) same c.in_ok-entries.ensures.tells
