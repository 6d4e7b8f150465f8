use Rattle.std.proofs.Common.{◌^◌, ◌≤◌, arith}
use Rattle.std.proofs.Math.Pow.{pow_mono}
use Rattle.wasm_leb.proofs.unsigned.fits.Goals as goal

pub returns-then-bits-ge7 : goal.returns-then-bits-ge7
returns-then-bits-ge7 c =
    let seven : 7 ≤ c.args.bits = omega arith in
    let wide : 2 ^ 7 ≤ 2 ^ c.args.bits = pow_mono seven in
    (λ _. omega arith, λ _. grind arith)
