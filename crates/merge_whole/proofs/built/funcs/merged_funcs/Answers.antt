use Rattle.std.proofs.Common.{◌∙◌}
use Rattle.merge_index.specs.Kept.{numbers_in}
use Rattle.merge_whole.proofs.BuiltParts.{funcs_are}
use Rattle.merge_whole.proofs.built.funcs.merged_funcs.Goals as goal

pub returns : goal.returns
returns c = c.of.ensures ∙ c.in_ok-funcs.ensures ∙ funcs_are c.args.linked.now (numbers_in c.args.n.now)
