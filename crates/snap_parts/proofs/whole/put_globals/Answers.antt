use Rattle.std.proofs.Common.{List, ◌++◌, map, ap, ◌∙◌}
use Rattle.spec_loading.specs.wasm_form.declared.module.GlobalDef.{GlobalDef}
use Rattle.spec_loading.specs.wasm_form.declared.runtime.Value.TheVariants.{Num}
use Rattle.merge_match.specs.Renumbering.{value}
use Rattle.merge_index.specs.Kept.{numbers_in}
use Rattle.snap_module.specs.Held.{held_globals}
use Rattle.snap_parts.proofs.whole.put_globals.Goals as goal

pub returns : goal.returns
returns c =
    let told = c.in_ok-globals.ensures in
    let values = map (value (numbers_in c.args.numbers.now)) c.args.flat.globals.now ++ map Num c.args.added.globals.now in
    record {
      is = ap (λ (g : List GlobalDef). record c.args.to.now { globals = g }) (told.held ∙ ap (λ (l : List GlobalDef). held_globals l values) c.items.ensures);
      few = told.few;
      few_more = told.few_more;
    }
