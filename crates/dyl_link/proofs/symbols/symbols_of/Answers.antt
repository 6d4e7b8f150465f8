use Rattle.dyl_link.proofs.Told.{names_told}
use Rattle.dyl_link.proofs.symbols.symbols_of.Goals as goal

pub returns-clause-exact : goal.returns-clause-exact
returns-clause-exact c = names_told c.finish.result c.in_ok-maker.maker c.args.members.now c.in_ok-maker.ensures c.finish.ensures.exact
