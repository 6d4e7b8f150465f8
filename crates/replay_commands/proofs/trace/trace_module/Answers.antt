use Rattle.std.proofs.Common.{refl, inl, inr}
use Rattle.host_calls.specs.Embedders.{names_of, embedder_of}
use Rattle.dyl_commands.specs.Runs.{guest_arguments}
use Rattle.dyl_commands.specs.Served.{BeginsAsModule}
use Rattle.replay_commands.proofs.Tracing.{module_made, not_run}
use Rattle.replay_commands.proofs.trace.trace_module.Goals as goal

pub store_module_trace-requires-clause-made : goal.store_module_trace-requires-clause-made
store_module_trace-requires-clause-made g c =
    module_made (BeginsAsModule c.args.checked.now (names_of c.args.host.now)) c.in-Ran.ran c.args.steps c.requires.steps c.args.checked.now (embedder_of (guest_arguments c.args.args.now) c.args.host.now) _ _ (λ x begins. begins)
    (λ opening opens. (refl, opens)) c.in-Ran.ensures.runs c.in-Ran.ensures.taken

pub returns-in-Ran : goal.returns-in-Ran
returns-in-Ran g c = inl (c.in-Ran.ran, c.in-Ran.ensures.runs, c.store_module_trace.ensures)

pub returns-in_default : goal.returns-in_default
returns-in_default g c = inr (c.exec_module.ensures.runs, not_run c.exec_module.result c.in_default.not-Ran, refl)
