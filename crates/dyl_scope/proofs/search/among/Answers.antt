use Rattle.std.proofs.Common.{◌≡◌, arith, length, sym}
use Rattle.dyl_scope.proofs.Noted.{no_first}
use Rattle.dyl_scope.proofs.search.among.Goals as goal

pub returns-in-empty-clause-meaning : goal.returns-in-empty-clause-meaning
returns-in-empty-clause-meaning c =
    let none : length c.args.definers.now ≡ 0 = omega arith in
    sym (no_first c.args.names.now c.args.name.now c.args.definers.now none c.requires c.args.members.now)
