use Rattle.std.proofs.Common.{◌∙◌, sym, ap, subst}
use Rattle.spec_loading.specs.LoaderAnswers.{handle_list}
use Rattle.spec_loading.specs.spec_linking.Slots.{cell_number}
use Rattle.dyl_world.specs.Found.{IsFound}
use Rattle.dyl_world.proofs.Found.{found_searched}
use Rattle.dyl_world.proofs.searching.search_handle.Goals as goal

pub returns : goal.returns
returns c =
    let L = c.args.linked.now in
    let same = c.definition_by.ensures in
    let name = c.args.name.now in
    let found = found_searched L.set (handle_list L.set c.args.promoted.now.list c.args.handle) name in
    c.number_of.ensures name (subst IsFound (sym same) found) ∙ ap (cell_number L name) same
