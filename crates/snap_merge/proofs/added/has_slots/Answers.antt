use Rattle.std.proofs.Common.{ap, ◌∙◌}
use Rattle.std.specs.Prelude.{not}
use Rattle.snap_parts.specs.Built.{is_left}
use Rattle.snap_merge.proofs.Places.{not_empty}
use Rattle.snap_merge.proofs.added.has_slots.Goals as goal

pub returns : goal.returns
returns c = ap not c.is_empty.ensures ∙ not_empty c.fresh.result.now ∙ ap is_left c.fresh.ensures
