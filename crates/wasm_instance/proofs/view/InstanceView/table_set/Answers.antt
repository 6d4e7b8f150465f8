use Rattle.std.proofs.Common.{ap}
use Rattle.spec_safety.specs.spec_runtime.Tables.{TableInstance, entry_set}
use Rattle.wasm_instance.specs.States.{InstanceState}
use Rattle.wasm_instance.specs.Kept.{parts_of}
use Rattle.wasm_instance.proofs.TableChanges.{table_changes}
use Rattle.wasm_instance.proofs.view.InstanceView.table_set.Goals as goal

pub returns-clause-table : goal.returns-clause-table
returns-clause-table c =
    let parts = ap (λ (s : InstanceState). s.parts) c.self.view_is in
    table_changes c.args.self.now.wasm (parts_of c.self.inside) c.args.self.now.parts parts c.args.arg2 c.args.t c.index_mut.result.now c.set.new.self c.index_mut.ensures.value (λ (x : TableInstance). entry_set x c.args.i c.args.value) c.set.result c.set.ensures
