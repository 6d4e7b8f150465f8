use Rattle.std.proofs.Common.{◌-◌, ◌^◌, ◌≤◌, refl, arith}
use Rattle.std.proofs.lemmas.Int.{ints}
use Rattle.std.proofs.Math.Pow.{pow_mono}
use Rattle.wasm_leb.proofs.signed.fits.Goals as goal

pub returns-then-bits-ge7 : goal.returns-then-bits-ge7
returns-then-bits-ge7 c =
    let six : 6 ≤ c.args.bits - 1 = omega arith in
    let wide : 2 ^ 6 ≤ 2 ^ (c.args.bits - 1) = pow_mono six in
    let least = c.requires.least in
    let below = c.requires.below in
    (λ _. record { least = omega (arith, ints); below = omega (arith, ints) }, λ _. refl)
