use Rattle.std.proofs.Common.{◌-◌, ◌^◌, ◌≤◌, arith}
use Rattle.std.proofs.lemmas.Int.{ints}
use Rattle.std.proofs.Math.Pow.{pow_mono}
use Rattle.spec_binary.proofs.SignedSpelling.{split_half, joined_range}
use Rattle.wasm_leb.proofs.signed.joined.Goals as goal

pub overflow_mul-result : goal.overflow_mul-result
overflow_mul-result c =
    let k : c.args.bits - 1 ≤ 63 = omega arith in
    let wide : 2 ^ (c.args.bits - 1) ≤ 2 ^ 63 = pow_mono k in
    let s = split_half c.args.bits c.requires.wide in
    let least = c.requires.range.least in
    let below = c.requires.range.below in
    omega (arith, ints)

pub returns-clause-value : goal.returns-clause-value
returns-clause-value c =
    let k : c.args.bits - 1 ≤ 63 = omega arith in
    let wide : 2 ^ (c.args.bits - 1) ≤ 2 ^ 63 = pow_mono k in
    let s = split_half c.args.bits c.requires.wide in
    let least = c.requires.range.least in
    let below = c.requires.range.below in
    let from = c.from.ensures in
    omega (arith, ints)

pub returns-clause-range : goal.returns-clause-range
returns-clause-range c = joined_range c.args.bits c.args.b c.args.high _ (omega arith) (omega arith) c.requires.wide c.requires.range (returns-clause-value c)
