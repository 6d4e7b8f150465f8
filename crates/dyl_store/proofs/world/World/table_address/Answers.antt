use Rattle.std.proofs.Common.{arith}
use Rattle.spec_loading.specs.spec_linking.LinkedSets.{wasm_of}
use Rattle.spec_loading.specs.Members.{set_instances}
use Rattle.dyl_store.proofs.Members.{counted_tables, address_within, address_read, table_kept}
use Rattle.dyl_store.proofs.world.World.table_address.Goals as goal

pub unit-requires : goal.unit-requires
unit-requires c = counted_tables (wasm_of c.args.self.now.linked c.args.m) c.args.t c.requires

pub index-requires : goal.index-requires
index-requires c =
    let within = address_within c.unit.result.now.tables.items c.args.t ((set_instances c.args.self.now.linked).table_at c.args.m c.args.t) c.args.self.now.store.tables (table_kept c.args.self.now.linked c.args.m c.unit.result.now c.unit.ensures.unit c.args.t c.args.self.now.store.tables c.requires (c.unit.ensures.places.tables c.args.m c.args.t c.requires)) (c.unit.ensures.places.tables c.args.m c.args.t c.requires) in
    omega (arith, within, c.unit.result.now.tables.ok.0)

pub returns-clause-found : goal.returns-clause-found
returns-clause-found c =
    (address_read c.unit.result.now.tables.items c.args.t ((set_instances c.args.self.now.linked).table_at c.args.m c.args.t) c.args.self.now.store.tables (table_kept c.args.self.now.linked c.args.m c.unit.result.now c.unit.ensures.unit c.args.t c.args.self.now.store.tables c.requires (c.unit.ensures.places.tables c.args.m c.args.t c.requires)) (c.unit.ensures.places.tables c.args.m c.args.t c.requires) c.index.result.now c.index.ensures).0

pub returns-clause-inside : goal.returns-clause-inside
returns-clause-inside c =
    (address_read c.unit.result.now.tables.items c.args.t ((set_instances c.args.self.now.linked).table_at c.args.m c.args.t) c.args.self.now.store.tables (table_kept c.args.self.now.linked c.args.m c.unit.result.now c.unit.ensures.unit c.args.t c.args.self.now.store.tables c.requires (c.unit.ensures.places.tables c.args.m c.args.t c.requires)) (c.unit.ensures.places.tables c.args.m c.args.t c.requires) c.index.result.now c.index.ensures).1
