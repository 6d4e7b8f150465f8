use Rattle.std.proofs.Common.{ap, length}
use Rattle.wasm_instance.proofs.AppliedSegments.{data_offset_is_number, data_done}
use Rattle.wasm_instance.proofs.applying.apply_data.Goals as goal

pub offset-requires-clause-number : goal.offset-requires-clause-number
offset-requires-clause-number c = data_offset_is_number c.args.m.now c.args.segment.now c.in-Active.memory c.in-Active.at c.in-Active.is c.requires.fits

pub returns-in_ok-at-in-Active-clause-applied : goal.returns-in_ok-at-in-Active-clause-applied
returns-in_ok-at-in-Active-clause-applied c =
    data_done c.args.m.now c.move_bytes.result (λ d. d.now) c.args.datas.now c.args.d (length c.items.result.now) c.in_ok-at-in-Active.at c.in-Active.memory c.args.segment.now c.in-Active.at
    c.args.memory.now c.move_bytes.new.memory _ c.move_bytes.new.bytes c.requires.datas (ap length c.items.ensures) c.in-Active.is c.in_ok-at-in-Active.ensures c.move_bytes.ensures
