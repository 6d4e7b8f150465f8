use Rattle.std.proofs.Common.{rules, arith, get_or, FitsSigned, w64}
use Rattle.std.proofs.lemmas.Int.{to_z-of_z}
use Rattle.wasm_leb.proofs.Places.{starts}
use Rattle.spec_binary.proofs.SignedSpelling.{last_byte, none_last, more_bytes, none_short, none_more}
use Rattle.wasm_leb.proofs.signed.+read_signed.Goals as goal

pub returns-in_err-value-clause-none : goal.returns-in_err-value-clause-none
returns-in_err-value-clause-none t c =
    rw c.from_residual.ensures
    (none_last c.args.bits (get_or c.args.bytes.now c.args.at 0) _ _ (omega arith) c.in_err-value.ensures.none (starts c.args.bytes.now c.args.at (omega arith)))

pub returns-then-b-lt128-clause-found : goal.returns-then-b-lt128-clause-found
returns-then-b-lt128-clause-found t c =
    let fits : FitsSigned w64 c.in_ok-value.value = search rules in
    rw (to_z-of_z w64 c.in_ok-value.value fits) (last_byte c.args.bits _ _ _ _ c.in_ok-value.ensures.found (starts c.args.bytes.now c.args.at (omega arith)))

pub returns-then-bits-le7-clause-none : goal.returns-then-bits-le7-clause-none
returns-then-bits-le7-clause-none t c =
    none_short c.args.bits (get_or c.args.bytes.now c.args.at 0) _ _ (omega arith) (omega arith) (starts c.args.bytes.now c.args.at (omega arith))

pub returns-in_err-high-clause-none : goal.returns-in_err-high-clause-none
returns-in_err-high-clause-none t c =
    rw c.from_residual-in_err-high.ensures
    (none_more c.args.bits (get_or c.args.bytes.now c.args.at 0) _ _ (omega arith) (starts c.args.bytes.now c.args.at (omega arith)) c.in_err-high.ensures.none)

pub returns-clause-found : goal.returns-clause-found
returns-clause-found t c =
    let fits : FitsSigned w64 c.joined.result = search rules in
    let high_fits : FitsSigned w64 c.in_ok-high.high = search rules in
    let value = rw (to_z-of_z w64 c.in_ok-high.high high_fits) at c.joined.ensures.value in
    rw (to_z-of_z w64 c.joined.result fits)
    (more_bytes c.args.bits (get_or c.args.bytes.now c.args.at 0) c.in_ok-high.high _ _ _ _ (omega arith) (omega arith) (omega arith) value
    (starts c.args.bytes.now c.args.at (omega arith)) c.in_ok-high.ensures.found)
