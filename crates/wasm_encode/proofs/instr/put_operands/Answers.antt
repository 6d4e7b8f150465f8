use Rattle.std.proofs.Common.{refl}
use Rattle.spec_reading.proofs.of_spec_binary.Joined.{on_ok}
use Rattle.wasm_encode.proofs.Operands.{no_number_form, one_number_form, no_number_written, one_number_written, two_numbers_written, number_and_zero_written, one_zero_written, two_zeros_written}
use Rattle.wasm_encode.proofs.instr.put_operands.Goals as goal

pub returns-then-op-lt8 : goal.returns-then-op-lt8
returns-then-op-lt8 c = no_number_written c.args.op c.args.a c.args.b c.requires _ _ (no_number_form c.args.op c.if-op-lt8.true) refl

pub returns-in_ok-push : goal.returns-in_ok-push
returns-in_ok-push c =
    number_and_zero_written c.args.op c.args.a c.args.b c.requires _ _ c.put_u32.new.to.items (rw c.if-op-eq8.true refl) c.in_ok-put_u32.ensures.ok c.in_ok-push.ensures.items

pub returns-in_ok-push-3 : goal.returns-in_ok-push-3
returns-in_ok-push-3 c =
    two_zeros_written c.args.op c.args.a c.args.b c.requires _ _ c.push-then-op-eq10.new.self.items (rw c.if-op-eq10.true refl) c.in_ok-push-2.ensures.items c.in_ok-push-3.ensures.items

pub returns-in_ok-push-4 : goal.returns-in_ok-push-4
returns-in_ok-push-4 c = one_zero_written c.args.op c.args.a c.args.b c.requires _ _ (rw c.if-op-eq11.true refl) c.in_ok-push-4.ensures.items

pub returns-then-op-eq12 : goal.returns-then-op-eq12
returns-then-op-eq12 c = on_ok c.put_two.result (two_numbers_written c.args.op c.args.a c.args.b c.requires _ _ (rw c.if-op-eq12.true refl)) c.put_two.ensures

pub returns-then-op-eq14 : goal.returns-then-op-eq14
returns-then-op-eq14 c = on_ok c.put_two-then-op-eq14.result (two_numbers_written c.args.op c.args.a c.args.b c.requires _ _ (rw c.if-op-eq14.true refl)) c.put_two-then-op-eq14.ensures

pub returns-else-op-eq14 : goal.returns-else-op-eq14
returns-else-op-eq14 c =
    on_ok c.put_u32-else-op-eq14.result (one_number_written c.args.op c.args.a c.args.b c.requires _ _ (one_number_form c.args.op c.args.a c.args.b c.if-op-lt8.false c.if-op-eq8.false c.if-op-eq10.false c.if-op-eq11.false c.if-op-eq12.false c.if-op-eq14.false c.requires)) c.put_u32-else-op-eq14.ensures.ok
