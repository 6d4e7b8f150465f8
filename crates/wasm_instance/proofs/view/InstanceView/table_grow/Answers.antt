use Rattle.std.proofs.Common.{ap}
use Rattle.spec_safety.specs.spec_runtime.Tables.{TableInstance, entries_grown}
use Rattle.wasm_instance.specs.States.{InstanceState}
use Rattle.wasm_instance.specs.Kept.{parts_of}
use Rattle.wasm_instance.proofs.TableChanges.{table_grows}
use Rattle.wasm_instance.proofs.view.InstanceView.table_grow.Goals as goal

pub returns-clause-table : goal.returns-clause-table
returns-clause-table c =
    let parts = ap (λ (s : InstanceState). s.parts) c.self.view_is in
    table_grows c.args.self.now.wasm (parts_of c.self.inside) c.args.self.now.parts parts c.args.arg3 c.args.t c.index_mut.result.now c.grow.new.self c.index_mut.ensures.value (λ (x : TableInstance). entries_grown x c.args.delta c.args.value) c.grow.result c.grow.ensures
