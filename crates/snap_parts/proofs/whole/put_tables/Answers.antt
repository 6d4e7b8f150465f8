use Rattle.std.proofs.Common.{List, map, ap, ◌∙◌}
use Rattle.spec_loading.specs.wasm_form.declared.types.TableType.{TableType}
use Rattle.merge_match.specs.Renumbering.{Numbers, table_instance}
use Rattle.snap_module.specs.Held.{held_tables}
use Rattle.snap_parts.proofs.whole.put_tables.Goals as goal

pub returns : goal.returns
returns c = record {
  is = λ (n : Numbers). ap (λ (t : List TableType). record c.args.to.now { tables = t })
      (c.in_ok-tables.ensures n ∙ ap (λ (l : List TableType). held_tables l (map (table_instance n) c.args.flat.tables.now)) c.items.ensures);
}
