use Rattle.std.proofs.Common.{refl, subst, sym, ◌<◌, length, map}
use Rattle.std.specs.Prelude.{slice_set}
use Rattle.spec_loading.specs.spec_execution.Segments.{all_performed, data_applied}
use Rattle.spec_loading.specs.Members.{set_view, set_instances}
use Rattle.dyl_frames.specs.Cores.{Places}
use Rattle.dyl_store.specs.Worlds.{WorldState}
use Rattle.dyl_store.specs.Units.{store_of}
use Rattle.dyl_store.proofs.Placed.{data_done, within_mapped}
use Rattle.dyl_store.proofs.world.World.apply_data.Goals as goal

pub returns-clause-performed : goal.returns-clause-performed
returns-clause-performed c =
    let i = c.self.inside in
    let segment = c.data_address-segment in
    let in_datas = within_mapped (λ d. d.now) i.datas.items segment.result (subst (λ (s : WorldState). segment.result < length s.store.datas) (sym c.self.view_is) segment.ensures.inside) in
    subst (λ (s : WorldState). Places (all_performed (set_view c.args.self.now.linked) c.args.m (data_applied c.args.d c.args.n c.args.at) s.store s.memory) c.move_bytes.result (record (store_of i) { datas = map (λ d. d.now) (slice_set i.datas.items segment.result c.move_bytes.new.bytes) }) c.move_bytes.new.memory) c.self.view_is
    (data_done (set_instances c.args.self.now.linked) c.args.m (store_of i) i.memory c.move_bytes.result (λ d. d.now) i.datas.items c.args.d c.args.n c.args.at segment.result c.move_bytes.new.memory c.index_mut.result.now c.move_bytes.new.bytes
    refl segment.ensures.found in_datas c.index_mut.ensures.value c.move_bytes.ensures)
