use Rattle.std.proofs.Common.{[], Some, refl, sym, ap}
use Rattle.host_calls.specs.Embedders.{embedder_of}
use Rattle.dyl_commands.specs.Runs.{guest_arguments}
use Rattle.dyl_commands.proofs.Generating.{begins, module_inside}
use Rattle.dyl_commands.proofs.generated.merged_report.Goals as goal

pub returns-in-Ok : goal.returns-in-Ok
returns-in-Ok g c =
    module_inside c.args.checked.now (λ texts. embedder_of texts c.args.host.now) _ (guest_arguments []) c.in_ok-args.ensures c.args.steps _ _ _
    (begins c.new-output.result c.new-errors.result c.new-ambient.result c.new-output.ensures c.new-errors.ensures (rw (c.new.ensures.items, c.new-2.ensures.items) at c.new-ambient.ensures)) c.in-Ok.ensures.executes
    (ap Some (sym c.into_bytes-output.ensures)) refl refl refl
