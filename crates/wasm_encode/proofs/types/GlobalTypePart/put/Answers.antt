use Rattle.wasm_encode.proofs.TypeForms.{global_written}
use Rattle.wasm_encode.proofs.types.GlobalTypePart.put.Goals as goal

pub returns-clause-ok : goal.returns-clause-ok
returns-clause-ok c =
    global_written c.args.self.now c.type_byte.result c.mutability.result _ c.push.new.self.items _ c.type_byte.ensures c.mutability.ensures c.in_ok-push.ensures.items c.in_ok-push-2.ensures.items
