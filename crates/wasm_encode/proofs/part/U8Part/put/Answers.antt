use Rattle.wasm_encode.proofs.Parts.{byte_written}
use Rattle.wasm_encode.proofs.part.U8Part.put.Goals as goal

pub returns-clause-ok : goal.returns-clause-ok
returns-clause-ok c = byte_written c.args.self.now _ _ c.in_ok-push.ensures.items
