use Rattle.std.proofs.Common.{subst, ap, ◌∙◌}
use Rattle.std.specs.List.{All}
use Rattle.spec_loading.specs.spec_runtime.Courses.{state_at}
use Rattle.spec_loading.specs.spec_linking.LinkedSets.{LinkedSet}
use Rattle.spec_reading.specs.spec_binary.WellFormed.{IsFormedType}
use Rattle.dyl_store.specs.Stores.{set_course}
use Rattle.snap_merge.proofs.Answered.{if_ok}
use Rattle.snap_merge.proofs.Made.{entry_is, units_are, made_of}
use Rattle.snap_merge.proofs.making.made.Goals as goal

pub returns : goal.returns
returns c =
    if_ok c.held-result.result (λ m built.
    let L = c.args.linked.now in
    let v = c.args.store.now in
    let found = c.requires.found in
    let are = c.requires.parts in
    let starts = entry_is c.merged_modules_are_ready.ensures L c.links.ensures.shape c.links.ensures.links c.requires.pages c.args.parts are in
    let units = units_are (record { globals = c.globals.result; tables = c.tables.result; elems = c.elems.result; datas = c.datas.result }) (state_at (set_course v.linked) v.run).run.units
    (c.globals.ensures found) (c.tables.ensures found) (c.elems.ensures found) (c.datas.ensures found) ∙ ap (λ (M : LinkedSet). (state_at (set_course M) v.run).run.units) c.requires.same in
    let space = c.memory.ensures found ∙ ap (λ (M : LinkedSet). (state_at (set_course M) v.run).run.memory) c.requires.same in
    made_of L (state_at (set_course L) v.run) c.args.parts are starts c.args.behind.now c.requires.behind _ c.deref.ensures.value c.deref-2.ensures.value _ _ _ m units space are.numbers
    (subst (All IsFormedType) c.items.ensures c.in-Ok.ensures) built) c.held-result.ensures
