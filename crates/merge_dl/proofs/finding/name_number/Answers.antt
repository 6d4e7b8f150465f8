use Rattle.std.proofs.Common.{ap, ◌∙◌}
use Rattle.spec_loading.specs.spec_linking.Definitions.{member_definition}
use Rattle.spec_loading.specs.spec_linking.Slots.{cell_number}
use Rattle.merge_dl.proofs.Making.{or_nothing}
use Rattle.merge_dl.proofs.finding.name_number.Goals as goal

pub returns : goal.returns
returns c =
    let L = c.args.linked.now in
    c.search.ensures ∙ ap (cell_number L c.args.name.now) (or_nothing (member_definition L.set c.args.m c.args.name.now))
