use Rattle.std.proofs.Common.{[]}
use Rattle.host_calls.specs.Embedders.{embedder_of}
use Rattle.dyl_commands.specs.Runs.{guest_arguments}
use Rattle.dyl_commands.proofs.Generating.{both_put}
use Rattle.dyl_commands.proofs.generated.run_both.Goals as goal

pub returns-in-Ok-merged_run : goal.returns-in-Ok-merged_run
returns-in-Ok-merged_run g c =
    let ran = c.in-Ok-merged_run.ensures in
    both_put c.args.linked.now (embedder_of (guest_arguments []) c.args.host.now) c.requires.names c.args.steps ran.0 c.in-Ok.loaded c.in-Ok-merged_run.merged _ _ c.in-Ok.ensures ran.1 ran.2 c.put_summary.result
    c.put_summary.ensures
