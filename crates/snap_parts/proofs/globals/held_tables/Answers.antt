use Rattle.std.proofs.Common.{◌∙◌}
use Rattle.merge_match.specs.Renumbering.{Numbers}
use Rattle.snap_parts.proofs.Zips.{tables_zipped}
use Rattle.snap_parts.proofs.globals.held_tables.Goals as goal

pub returns : goal.returns
returns c = λ (n : Numbers). c.of.ensures ∙ c.in_ok-list.ensures ∙ tables_zipped n c.args.tables.now c.args.now.now
