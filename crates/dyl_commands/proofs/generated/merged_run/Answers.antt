use Rattle.std.proofs.Common.{[]}
use Rattle.host_calls.specs.Embedders.{names_of, embedder_of}
use Rattle.dyl_commands.specs.Runs.{guest_arguments}
use Rattle.dyl_commands.proofs.Generating.{opens_of, merged_runs}
use Rattle.dyl_commands.proofs.HeldNumbers.{merged_numbers}
use Rattle.dyl_commands.proofs.generated.merged_run.Goals as goal

pub merged_report-report-requires-clause-opens : goal.merged_report-report-requires-clause-opens
merged_report-report-requires-clause-opens g c = opens_of (names_of c.args.host.now) c.args.linked.now c.requires.names c.in-Ok.checked c.in-Ok.ensures

pub merged_report-report-requires-clause-numbers : goal.merged_report-report-requires-clause-numbers
merged_report-report-requires-clause-numbers g c = merged_numbers c.args.linked.now c.in-Ok.checked c.in-Ok.ensures

pub returns-in-Ok : goal.returns-in-Ok
returns-in-Ok g c =
    merged_runs c.args.linked.now (embedder_of (guest_arguments []) c.args.host.now) c.args.steps c.in-Ok.checked c.merged_report-report.result c.in-Ok.ensures c.merged_report-report.ensures
