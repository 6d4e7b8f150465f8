use Rattle.wasm_encode.proofs.TypeForms.{table_written}
use Rattle.wasm_encode.proofs.types.TableTypePart.put.Goals as goal

pub returns-clause-ok : goal.returns-clause-ok
returns-clause-ok c = table_written c.args.self.now _ c.put_ref_type.new.to.items _ c.in_ok-put_ref_type.ensures c.in_ok-put_limits.ensures
