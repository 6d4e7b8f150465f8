use Rattle.std.proofs.Common.{◌∙◌, sym, ap, position}
use Rattle.spec_linking.specs.Wanted.{is_named}
use Rattle.dyl_search.proofs.Known.{position_texts}
use Rattle.dyl_search.proofs.names.Names.find.Goals as goal

pub returns : goal.returns
returns c = c.get_index_of.ensures.index ∙ sym (position_texts c.args.name.now c.self.inside.entries.entries) ∙ ap (position (is_named c.args.name.now)) c.self.view_is
