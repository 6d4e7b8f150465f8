use Rattle.spec_reading.proofs.of_spec_binary.Joined.{on_ok}
use Rattle.wasm_encode.proofs.Parts.{import_written}
use Rattle.wasm_encode.proofs.import.ImportPart.put.Goals as goal

pub returns-clause-ok : goal.returns-clause-ok
returns-clause-ok c =
    let from = rw c.as_str.ensures at c.in_ok-put_name.ensures.ok in
    let field = rw c.as_str-2.ensures at c.in_ok-put_name-2.ensures.ok in
    on_ok c.put.result (import_written c.args.self.now _ c.put_name.new.to.items c.put_name-2.new.to.items _ from field) c.put.ensures.ok
