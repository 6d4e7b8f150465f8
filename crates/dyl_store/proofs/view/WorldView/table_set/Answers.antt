use Rattle.std.proofs.Common.{ap}
use Rattle.spec_loading.specs.spec_runtime.Tables.{TableInstance, entry_set}
use Rattle.spec_loading.specs.Members.{set_instances}
use Rattle.dyl_store.specs.Worlds.{WorldState}
use Rattle.dyl_store.specs.Units.{store_of}
use Rattle.dyl_store.proofs.Changes.{table_changes}
use Rattle.dyl_store.proofs.view.WorldView.table_set.Goals as goal

pub returns-clause-table : goal.returns-clause-table
returns-clause-table c =
    table_changes (set_instances c.args.self.now.linked) (store_of c.self.inside) c.args.self.now.store (ap (λ (s : WorldState). s.store) c.self.view_is) c.args.unit c.args.t c.table_address-at.result c.table_address-at.ensures.found c.index_mut.result.now c.set.new.self c.index_mut.ensures.value (λ (x : TableInstance). entry_set x c.args.i c.args.value) c.set.result c.set.ensures
