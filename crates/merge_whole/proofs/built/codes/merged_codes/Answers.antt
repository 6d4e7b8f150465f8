use Rattle.std.proofs.Common.{◌∙◌}
use Rattle.merge_whole.proofs.built.codes.merged_codes.Goals as goal

pub returns-in-Ok : goal.returns-in-Ok
returns-in-Ok c = λ x listed loader. c.of.ensures ∙ c.in-Ok.ensures x listed loader
