use Rattle.std.proofs.Common.{sym, ap, subst, ◌∙◌}
use Rattle.dyl_addresses.specs.Bases.{AreBases, bases_from}
use Rattle.dyl_addresses.proofs.Offsets.{are_bases}
use Rattle.dyl_addresses.proofs.bases.bases_of.Goals as goal

pub returns : goal.returns
returns c =
    let L = c.args.linked.now in
    let m = c.args.m in
    let memory = c.memory_base-memory.result in
    let table = c.table_base-table.result in
    subst (AreBases L m) (sym (c.in_ok-bases.ensures ∙ ap (bases_from memory table) c.items-imports.ensures))
    (are_bases L m memory table c.memory_base-memory.ensures c.table_base-table.ensures c.module.result.now c.module.ensures)
