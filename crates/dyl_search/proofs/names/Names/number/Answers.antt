use Rattle.std.proofs.Common.{◌∙◌, sym}
use Rattle.spec_linking.proofs.Numbering.{numbered, kept}
use Rattle.dyl_search.proofs.names.Names.number.Goals as goal

pub returns-in-Some-clause-known : goal.returns-in-Some-clause-known
returns-in-Some-clause-known c = kept c.args.needed_by c.args.self.now c.args.name.now (numbered c.args.name.now c.args.self.now c.in-Some.n (sym c.find.ensures ∙ c.in-Some.is))
