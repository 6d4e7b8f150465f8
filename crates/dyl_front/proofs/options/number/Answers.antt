use Rattle.std.proofs.Common.{rules, ◌≡◌, Err}
use Rattle.dyl_front.proofs.Numbers.{too_large}
use Rattle.dyl_front.proofs.options.number.Goals as goal

pub returns-in-Err-clause-none : goal.returns-in-Err-clause-none
returns-in-Err-clause-none c = λ n d.
    let failed : c.parse.result ≡ Err c.in-Err.field-0 = search rules in
    too_large c.args.text.now c.parse.result c.in-Err.field-0 c.parse.ensures.value.0 d failed
