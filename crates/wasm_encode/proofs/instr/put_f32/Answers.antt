use Rattle.std.proofs.Common.{◌++◌, ap, ◌∙◌}
use Rattle.wasm_encode.proofs.Operands.{f32_bits, bits_written}
use Rattle.wasm_encode.proofs.instr.put_f32.Goals as goal

pub returns : goal.returns
returns c =
    bits_written 0x43 4 c.args.bits _ _ c.push.new.self.items _ (f32_bits c.args.bits c.ranges.bits.fits) c.in_ok-push.ensures.items
    (c.in_ok-extend_from_slice.ensures.items ∙ ap (λ b. c.push.new.self.items ++ b) c.to_le_bytes.ensures)
