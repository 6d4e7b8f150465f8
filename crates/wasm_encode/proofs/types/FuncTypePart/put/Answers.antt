use Rattle.spec_reading.proofs.of_spec_binary.Joined.{on_ok}
use Rattle.wasm_encode.proofs.TypeForms.{func_type_written}
use Rattle.wasm_encode.proofs.types.FuncTypePart.put.Goals as goal

pub returns-clause-ok : goal.returns-clause-ok
returns-clause-ok c =
    let params = rw c.items.ensures at c.in_ok-put_vec.ensures.ok in
    let results = rw c.items-2.ensures at c.put_vec-2.ensures.ok in
    on_ok c.put_vec-2.result (func_type_written c.args.self.now _ c.push.new.self.items c.put_vec.new.to.items _ c.in_ok-push.ensures.items params) results
