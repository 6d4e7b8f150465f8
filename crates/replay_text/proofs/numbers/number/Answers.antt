use Rattle.std.proofs.Common.{rules, ◌≡◌, Err, sym}
use Rattle.replay_text.proofs.FromStd.{no_number}
use Rattle.replay_text.proofs.numbers.number.Goals as goal

pub returns-in-Err : goal.returns-in-Err
returns-in-Err c =
    let failed : c.parse.result ≡ Err c.in-Err.field-0 = search rules in
    let is = c.if-not-is_number.false in
    sym (no_number c.args.word.now c.parse.result c.in-Err.field-0 c.parse.ensures.value.0 (search rules) failed)
