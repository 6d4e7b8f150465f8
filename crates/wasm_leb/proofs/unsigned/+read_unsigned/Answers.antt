use Rattle.std.proofs.Common.{rules, ◌≤◌, ◌^◌, arith, get_or}
use Rattle.std.proofs.Math.Pow.{pow_mono}
use Rattle.std.proofs.Math.ListN.{drop_of_length-le}
use Rattle.wasm_leb.proofs.Places.{starts}
use Rattle.spec_binary.proofs.UnsignedSpelling.{none_empty, last_byte, none_last, more_bytes, none_short, none_more, joined_small}
use Rattle.wasm_leb.proofs.unsigned.+read_unsigned.Goals as goal

pub returns-then-at-bytes-clause-none : goal.returns-then-at-bytes-clause-none
returns-then-at-bytes-clause-none t c = none_empty c.args.bits _ (drop_of_length-le c.args.bytes.now {i = c.args.at} (omega arith))

pub returns-then-fits-clause-found : goal.returns-then-fits-clause-found
returns-then-fits-clause-found t c =
    rw c.from.ensures (last_byte c.args.bits _ _ _ (omega arith) (c.if-fits.ensures.0 (search rules)) (starts c.args.bytes.now c.args.at (omega arith)))

pub returns-else-fits-clause-none : goal.returns-else-fits-clause-none
returns-else-fits-clause-none t c =
    let large : 2 ^ c.args.bits ≤ get_or c.args.bytes.now c.args.at 0 = grind (arith, c.if-fits.ensures) in
    none_last c.args.bits (get_or c.args.bytes.now c.args.at 0) _ _ (omega arith) large (starts c.args.bytes.now c.args.at (omega arith))

pub returns-then-bits-le7-clause-none : goal.returns-then-bits-le7-clause-none
returns-then-bits-le7-clause-none t c =
    none_short c.args.bits (get_or c.args.bytes.now c.args.at 0) _ _ (omega arith) (omega arith) (starts c.args.bytes.now c.args.at (omega arith))

pub returns-in_err-high-clause-none : goal.returns-in_err-high-clause-none
returns-in_err-high-clause-none t c =
    rw c.from_residual.ensures
    (none_more c.args.bits (get_or c.args.bytes.now c.args.at 0) _ _ (omega arith) (starts c.args.bytes.now c.args.at (omega arith)) c.in_err-high.ensures.none)

pub overflow_mul-result : goal.overflow_mul-result
overflow_mul-result t c =
    let wide : 2 ^ c.args.bits ≤ 2 ^ 64 = pow_mono c.requires.width in
    let small = joined_small c.args.bits 128 c.in_ok-high.high (omega arith) (omega arith) c.in_ok-high.ensures.small in
    omega arith

pub overflow_add-result-2 : goal.overflow_add-result-2
overflow_add-result-2 t c =
    let wide : 2 ^ c.args.bits ≤ 2 ^ 64 = pow_mono c.requires.width in
    let small = joined_small c.args.bits (get_or c.args.bytes.now c.args.at 0) c.in_ok-high.high (omega arith) (omega arith) c.in_ok-high.ensures.small in
    omega (arith, c.from-2.ensures)

pub returns-clause-small : goal.returns-clause-small
returns-clause-small t c =
    let small = joined_small c.args.bits (get_or c.args.bytes.now c.args.at 0) c.in_ok-high.high (omega arith) (omega arith) c.in_ok-high.ensures.small in
    omega (arith, c.from-2.ensures)

pub returns-clause-found : goal.returns-clause-found
returns-clause-found t c =
    rw c.from-2.ensures
    (more_bytes c.args.bits (get_or c.args.bytes.now c.args.at 0) c.in_ok-high.high _ _ _ (omega arith) (omega arith) (omega arith)
    (starts c.args.bytes.now c.args.at (omega arith)) c.in_ok-high.ensures.found)
