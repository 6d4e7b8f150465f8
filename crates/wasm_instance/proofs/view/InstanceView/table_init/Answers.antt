use Rattle.std.proofs.Common.{ap, refl, List, Option}
use Rattle.wasm_form.specs.declared.runtime.Ref.{Ref}
use Rattle.spec_safety.specs.spec_runtime.Tables.{TableInstance, entries_initialized}
use Rattle.wasm_instance.specs.States.{InstanceState}
use Rattle.wasm_instance.specs.Kept.{parts_of}
use Rattle.wasm_instance.proofs.TableChanges.{table_changes_by}
use Rattle.wasm_instance.proofs.view.InstanceView.table_init.Goals as goal

pub returns-clause-table : goal.returns-clause-table
returns-clause-table c =
    let parts = ap (λ (s : InstanceState). s.parts) c.self.view_is in
    table_changes_by c.args.self.now.wasm (parts_of c.self.inside) c.args.self.now.parts parts c.args.arg2 c.args.t c.index_mut.result.now c.init.new.self c.index_mut.ensures.value (λ v. v.items) c.self.inside.elems.items c.args.e c.index.result.now
    (λ (x : TableInstance) (items : List (Option Ref)). entries_initialized x c.args.at items c.args.start c.args.n) c.deref.result.now c.init.result refl c.index.ensures c.deref.ensures.value c.init.ensures
