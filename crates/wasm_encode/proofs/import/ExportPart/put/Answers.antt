use Rattle.wasm_encode.proofs.Parts.{export_written}
use Rattle.wasm_encode.proofs.import.ExportPart.put.Goals as goal

pub returns-clause-ok : goal.returns-clause-ok
returns-clause-ok c =
    let name = rw c.as_str.ensures at c.in_ok-put_name.ensures.ok in
    export_written c.args.self.now _ c.put_name.new.to.items _ name c.in_ok-put_desc.ensures
