use Rattle.dyl_commands.proofs.SameTexts.{one_listing, one_trace}
use Rattle.dyl_commands.proofs.laws.texts_are_one.Goals as goal

pub returns : goal.returns
returns c = record { listings = one_listing; traces = one_trace c.runs_have_one_trace.ensures }
