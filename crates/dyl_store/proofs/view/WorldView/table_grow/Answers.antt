use Rattle.std.proofs.Common.{ap}
use Rattle.spec_loading.specs.spec_runtime.Tables.{TableInstance, entries_grown}
use Rattle.spec_loading.specs.Members.{set_instances}
use Rattle.dyl_store.specs.Worlds.{WorldState}
use Rattle.dyl_store.specs.Units.{store_of}
use Rattle.dyl_store.proofs.Changes.{table_grows}
use Rattle.dyl_store.proofs.view.WorldView.table_grow.Goals as goal

pub returns-clause-table : goal.returns-clause-table
returns-clause-table c =
    table_grows (set_instances c.args.self.now.linked) (store_of c.self.inside) c.args.self.now.store (ap (λ (s : WorldState). s.store) c.self.view_is) c.args.unit c.args.t c.table_address-at.result c.table_address-at.ensures.found c.index_mut.result.now c.grow.new.self c.index_mut.ensures.value (λ (x : TableInstance). entries_grown x c.args.delta c.args.value) c.grow.result c.grow.ensures
