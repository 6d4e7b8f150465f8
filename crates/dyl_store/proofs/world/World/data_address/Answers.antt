use Rattle.std.proofs.Common.{length}
use Rattle.spec_loading.specs.spec_linking.LinkedSets.{wasm_of}
use Rattle.spec_loading.specs.Addresses.{sum_before}
use Rattle.dyl_store.proofs.Members.{counted_datas, segment_at, first_data_kept}
use Rattle.dyl_store.proofs.world.World.data_address.Goals as goal

pub unit-requires : goal.unit-requires
unit-requires c = counted_datas (wasm_of c.args.self.now.linked c.args.m) c.args.d c.requires

pub returns-clause-found : goal.returns-clause-found
returns-clause-found c =
    (segment_at (wasm_of c.args.self.now.linked c.args.m) c.unit.result.now.checked.now c.unit.ensures.unit.member (sum_before (λ x. length x.datas) c.args.self.now.linked.set.members c.args.m) c.args.d (λ x. length x.datas) c.args.self.now.store.datas
    (c.unit.ensures.places.datas c.args.m c.args.d c.requires) c.unit.result.now.first_data (first_data_kept c.args.self.now.linked c.args.m c.unit.result.now c.unit.ensures.unit c.args.d c.requires)).0

pub returns-clause-inside : goal.returns-clause-inside
returns-clause-inside c =
    (segment_at (wasm_of c.args.self.now.linked c.args.m) c.unit.result.now.checked.now c.unit.ensures.unit.member (sum_before (λ x. length x.datas) c.args.self.now.linked.set.members c.args.m) c.args.d (λ x. length x.datas) c.args.self.now.store.datas
    (c.unit.ensures.places.datas c.args.m c.args.d c.requires) c.unit.result.now.first_data (first_data_kept c.args.self.now.linked c.args.m c.unit.result.now c.unit.ensures.unit c.args.d c.requires)).1
