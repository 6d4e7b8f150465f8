use Rattle.std.proofs.Common.{ap, refl, List, Option}
use Rattle.wasm_form.specs.declared.runtime.Ref.{Ref}
use Rattle.spec_loading.specs.spec_runtime.Tables.{TableInstance, entries_initialized}
use Rattle.spec_loading.specs.Members.{set_instances}
use Rattle.dyl_store.specs.Worlds.{WorldState}
use Rattle.dyl_store.specs.Units.{store_of}
use Rattle.dyl_store.proofs.Changes.{table_changes_by}
use Rattle.dyl_store.proofs.view.WorldView.table_init.Goals as goal

pub returns-clause-table : goal.returns-clause-table
returns-clause-table c =
    table_changes_by (set_instances c.args.self.now.linked) (store_of c.self.inside) c.args.self.now.store (ap (λ (s : WorldState). s.store) c.self.view_is) c.args.unit c.args.t c.table_address-table.result c.table_address-table.ensures.found c.index_mut.result.now c.init.new.self c.index_mut.ensures.value (λ v. v.items) c.self.inside.elems.items c.args.e c.elem_address-segment.result c.index.result.now
    (λ (x : TableInstance) (items : List (Option Ref)). entries_initialized x c.args.at items c.args.start c.args.n) c.deref.result.now c.init.result c.elem_address-segment.ensures.found refl c.index.ensures c.deref.ensures.value c.init.ensures
