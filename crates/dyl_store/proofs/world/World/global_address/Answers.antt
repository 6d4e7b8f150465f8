use Rattle.std.proofs.Common.{arith}
use Rattle.spec_loading.specs.spec_linking.LinkedSets.{wasm_of}
use Rattle.spec_loading.specs.Members.{set_instances}
use Rattle.dyl_store.proofs.Members.{counted_globals, address_within, address_read, global_kept}
use Rattle.dyl_store.proofs.world.World.global_address.Goals as goal

pub unit-requires : goal.unit-requires
unit-requires c = counted_globals (wasm_of c.args.self.now.linked c.args.m) c.args.g c.requires

pub index-requires : goal.index-requires
index-requires c =
    let within = address_within c.unit.result.now.globals.items c.args.g ((set_instances c.args.self.now.linked).global_at c.args.m c.args.g) c.args.self.now.store.globals (global_kept c.args.self.now.linked c.args.m c.unit.result.now c.unit.ensures.unit c.args.g c.args.self.now.store.globals c.requires (c.unit.ensures.places.globals c.args.m c.args.g c.requires)) (c.unit.ensures.places.globals c.args.m c.args.g c.requires) in
    omega (arith, within, c.unit.result.now.globals.ok.0)

pub returns-clause-found : goal.returns-clause-found
returns-clause-found c =
    (address_read c.unit.result.now.globals.items c.args.g ((set_instances c.args.self.now.linked).global_at c.args.m c.args.g) c.args.self.now.store.globals (global_kept c.args.self.now.linked c.args.m c.unit.result.now c.unit.ensures.unit c.args.g c.args.self.now.store.globals c.requires (c.unit.ensures.places.globals c.args.m c.args.g c.requires)) (c.unit.ensures.places.globals c.args.m c.args.g c.requires) c.index.result.now c.index.ensures).0

pub returns-clause-inside : goal.returns-clause-inside
returns-clause-inside c =
    (address_read c.unit.result.now.globals.items c.args.g ((set_instances c.args.self.now.linked).global_at c.args.m c.args.g) c.args.self.now.store.globals (global_kept c.args.self.now.linked c.args.m c.unit.result.now c.unit.ensures.unit c.args.g c.args.self.now.store.globals c.requires (c.unit.ensures.places.globals c.args.m c.args.g c.requires)) (c.unit.ensures.places.globals c.args.m c.args.g c.requires) c.index.result.now c.index.ensures).1
