use Rattle.spec_reading.proofs.of_spec_binary.Joined.{on_ok}
use Rattle.wasm_encode.proofs.Parts.{import_function_written, import_table_written, import_memory_written, import_global_written}
use Rattle.wasm_encode.proofs.import.ImportDescPart.put.Goals as goal

pub returns-in_ok-put_numbered-in-Func-clause-ok : goal.returns-in_ok-put_numbered-in-Func-clause-ok
returns-in_ok-put_numbered-in-Func-clause-ok c = import_function_written c.args.self.now _ c.in-Func.number _ c.in-Func.is c.in_ok-put_numbered-in-Func.ensures

pub returns-in_ok-push-in-Table-clause-ok : goal.returns-in_ok-push-in-Table-clause-ok
returns-in_ok-push-in-Table-clause-ok c = on_ok c.put.result (import_table_written c.args.self.now _ c.in-Table.ty c.push.new.self.items _ c.in-Table.is c.in_ok-push-in-Table.ensures.items) c.put.ensures.ok

pub returns-in_ok-push-in-Space-clause-ok : goal.returns-in_ok-push-in-Space-clause-ok
returns-in_ok-push-in-Space-clause-ok c = on_ok c.put-in-Space.result (import_memory_written c.args.self.now _ c.in-Space.limits c.push-in-Space.new.self.items _ c.in-Space.is c.in_ok-push-in-Space.ensures.items) c.put-in-Space.ensures.ok

pub returns-in_ok-push-in-Global-clause-ok : goal.returns-in_ok-push-in-Global-clause-ok
returns-in_ok-push-in-Global-clause-ok c = on_ok c.put-in-Global.result (import_global_written c.args.self.now _ c.in-Global.ty c.push-in-Global.new.self.items _ c.in-Global.is c.in_ok-push-in-Global.ensures.items) c.put-in-Global.ensures.ok
