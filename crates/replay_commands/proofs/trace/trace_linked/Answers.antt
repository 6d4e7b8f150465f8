use Rattle.std.proofs.Common.{refl, inl, inr}
use Rattle.host_calls.specs.Embedders.{embedder_of}
use Rattle.replay_check.specs.declared.program.Program.TheVariants as program
use Rattle.replay_check.specs.Checks.{IsOpened}
use Rattle.dyl_commands.specs.Runs.{guest_arguments}
use Rattle.dyl_commands.specs.Served.{BeginsAsSet}
use Rattle.replay_commands.proofs.Tracing.{set_begins, set_opened, set_made, stores_for, not_run}
use Rattle.replay_commands.proofs.trace.trace_linked.Goals as goal

pub store_trace-requires-clause-made : goal.store_trace-requires-clause-made
store_trace-requires-clause-made g c =
    set_made (IsOpened (program.Set c.args.linked)) c.in-Ran.ran c.args.steps c.requires.steps c.args.linked.now (embedder_of (guest_arguments c.args.args.now) c.args.host.now) _ _ (set_begins c.args.linked)
    refl c.in-Ran.ensures.runs c.in-Ran.ensures.taken

pub returns-in-Ran : goal.returns-in-Ran
returns-in-Ran g c =
    inl (
      c.in-Ran.ran,
      c.in-Ran.ensures.runs,
      stores_for (IsOpened (program.Set c.args.linked)) (BeginsAsSet c.args.linked.now) c.in-Ran.ran c.args.out.now c.store_trace.result (g.F.Files.seen c.args.files.now) (g.F.Files.seen c.store_trace.new.files) (set_opened c.args.linked)
          c.store_trace.ensures,
    )

pub returns-in_default : goal.returns-in_default
returns-in_default g c = inr (c.run_linked.ensures.runs, not_run c.run_linked.result c.in_default.not-Ran, refl)
