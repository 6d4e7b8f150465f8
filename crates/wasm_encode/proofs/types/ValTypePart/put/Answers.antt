use Rattle.wasm_encode.proofs.TypeForms.{val_type_written}
use Rattle.wasm_encode.proofs.types.ValTypePart.put.Goals as goal

pub returns-clause-ok : goal.returns-clause-ok
returns-clause-ok c = val_type_written c.args.self.now c.type_byte.result _ _ c.type_byte.ensures c.in_ok-push.ensures.items
