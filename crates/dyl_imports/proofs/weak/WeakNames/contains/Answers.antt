use Rattle.std.proofs.Common.{◌∙◌, ap}
use Rattle.spec_loading.specs.spec_linking.Definitions.{is_one_of}
use Rattle.dyl_imports.proofs.Noted.{among_texts}
use Rattle.dyl_imports.proofs.weak.WeakNames.contains.Goals as goal

pub returns : goal.returns
returns c = c.contains.ensures ∙ among_texts c.args.name.now c.self.inside.names.keys ∙ ap (is_one_of c.args.name.now) c.self.view_is
