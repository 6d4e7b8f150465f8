use Rattle.std.proofs.Common.{List, map, Some, ap, ◌∙◌}
use Rattle.wasm_form.specs.declared.runtime.Ref.{Ref}
use Rattle.dyl_store.proofs.SharedTable.{entries_fit, entries_few, table_is}
use Rattle.dyl_store.proofs.shared.shared_table.Goals as goal

pub write_entries-requires-clause-fits : goal.write_entries-requires-clause-fits
write_entries-requires-clause-fits c =
    entries_fit c.args.linked.now c.links.ensures.links c.in_ok-table.table c.outside_at.result c.deref.result.now c.in_ok-table.ensures c.outside_at.ensures
    (c.deref.ensures.value ∙ c.in_ok-entries.ensures ∙ ap (λ (rs : List Ref). map Some rs) c.outside.ensures)

pub write_entries-requires-clause-few : goal.write_entries-requires-clause-few
write_entries-requires-clause-few c =
    entries_few c.args.linked.now c.links.ensures.links c.deref.result.now
    (c.deref.ensures.value ∙ c.in_ok-entries.ensures ∙ ap (λ (rs : List Ref). map Some rs) c.outside.ensures)

pub returns : goal.returns
returns c =
    table_is c.args.linked.now c.links.ensures.links c.in_ok-table.table c.write_entries.new.table c.outside_at.result c.deref.result.now c.in_ok-table.ensures c.outside_at.ensures
    (c.deref.ensures.value ∙ c.in_ok-entries.ensures ∙ ap (λ (rs : List Ref). map Some rs) c.outside.ensures) c.write_entries.ensures
