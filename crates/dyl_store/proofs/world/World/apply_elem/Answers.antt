use Rattle.std.proofs.Common.{refl, subst, sym, ◌<◌, length, map}
use Rattle.std.specs.Prelude.{slice_set}
use Rattle.spec_loading.specs.spec_execution.Segments.{all_performed, elem_applied}
use Rattle.spec_loading.specs.Members.{set_view, set_instances}
use Rattle.dyl_frames.specs.Cores.{Places}
use Rattle.dyl_store.specs.Worlds.{WorldState}
use Rattle.dyl_store.specs.Units.{store_of}
use Rattle.dyl_store.proofs.Placed.{elem_done, within_mapped}
use Rattle.dyl_store.proofs.world.World.apply_elem.Goals as goal

pub returns-clause-performed : goal.returns-clause-performed
returns-clause-performed c =
    let i = c.self.inside in
    let table = c.table_address-table in
    let segment = c.elem_address-segment in
    let in_tables = subst (λ (s : WorldState). table.result < length s.store.tables) (sym c.self.view_is) table.ensures.inside in
    let in_elems = within_mapped (λ v. v.items) i.elems.items segment.result (subst (λ (s : WorldState). segment.result < length s.store.elems) (sym c.self.view_is) segment.ensures.inside) in
    subst (λ (s : WorldState). Places (all_performed (set_view c.args.self.now.linked) c.args.m (elem_applied c.args.e c.args.t c.args.n c.args.at) s.store s.memory) c.move_entries.result (record (store_of i) { tables = slice_set (store_of i).tables table.result c.move_entries.new.table; elems = map (λ v. v.items) (slice_set i.elems.items segment.result c.move_entries.new.entries) }) i.memory) c.self.view_is
    (elem_done (set_instances c.args.self.now.linked) c.args.m (store_of i) i.memory c.move_entries.result (λ v. v.items) i.elems.items c.args.e c.args.t c.args.n c.args.at table.result segment.result c.index_mut-2.result.now c.move_entries.new.table
    c.index_mut.result.now c.move_entries.new.entries refl table.ensures.found segment.ensures.found in_tables in_elems c.index_mut-2.ensures.value c.index_mut.ensures.value c.move_entries.ensures)
