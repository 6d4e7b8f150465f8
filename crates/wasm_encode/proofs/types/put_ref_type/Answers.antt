use Rattle.wasm_encode.proofs.TypeForms.{ref_type_written}
use Rattle.wasm_encode.proofs.types.put_ref_type.Goals as goal

pub returns : goal.returns
returns c = ref_type_written c.args.ty c.type_byte.result _ _ c.type_byte.ensures c.requires c.in_ok-push.ensures.items
