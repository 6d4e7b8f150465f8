use Rattle.std.proofs.Common.{◌++◌, ap, ◌∙◌}
use Rattle.wasm_encode.proofs.Operands.{f64_bits, bits_written}
use Rattle.wasm_encode.proofs.instr.put_f64.Goals as goal

pub returns : goal.returns
returns c =
    bits_written 0x44 8 c.args.bits _ _ c.push.new.self.items _ (f64_bits c.args.bits c.ranges.bits.fits) c.in_ok-push.ensures.items
    (c.in_ok-extend_from_slice.ensures.items ∙ ap (λ b. c.push.new.self.items ++ b) c.to_le_bytes.ensures)
