use Rattle.std.proofs.Common.{ap, ◌∙◌}
use Rattle.merge_whole.specs.Built.{types_in}
use Rattle.merge_whole.proofs.built.types.merged_types.Goals as goal

pub returns : goal.returns
returns c = c.of.ensures ∙ c.in_ok-types.ensures ∙ ap (types_in c.args.linked.now) c.requires
