use Rattle.std.proofs.Common.{Ok, Err, subst, inr}
use Rattle.spec_hosts.specs.Devices.{devices}
use Rattle.host_calls.specs.Embedders.{embedder_of}
use Rattle.wasm_exec.specs.Executed.{ExecutesSet}
use Rattle.dyl_commands.proofs.Running.{set_takes}
use Rattle.dyl_commands.proofs.run.run_linked.Goals as goal

pub returns-in-Ok-execute_set-clause-taken : goal.returns-in-Ok-execute_set-clause-taken
returns-in-Ok-execute_set-clause-taken g c = set_takes c.args.linked.now c.in-Ok-execute_set.ran c.in-Ok-execute_set.ensures.taken

pub returns-in-Ok-execute_set-clause-runs : goal.returns-in-Ok-execute_set-clause-runs
returns-in-Ok-execute_set-clause-runs g c =
    subst
    (λ texts. ExecutesSet c.args.linked.now (embedder_of texts c.args.host.now) c.args.steps (Ok c.in-Ok-execute_set.ran)
    (devices (g.I.Source.seen c.args.input.now) (g.O.Sink.seen c.args.output.now) (g.E.Sink.seen c.args.errors.now) (g.A.Ambient.seen c.args.ambient.now))
    (devices (g.I.Source.seen c.execute_set.new.input) (g.O.Sink.seen c.execute_set.new.output) (g.E.Sink.seen c.execute_set.new.errors) (g.A.Ambient.seen c.execute_set.new.ambient)))
    c.in-Ok.ensures c.in-Ok-execute_set.ensures.executes

pub returns-in-Err-clause-runs : goal.returns-in-Err-clause-runs
returns-in-Err-clause-runs g c = inr (
    subst
    (λ texts. ExecutesSet c.args.linked.now (embedder_of texts c.args.host.now) c.args.steps (Err c.in-Err.field-0)
    (devices (g.I.Source.seen c.args.input.now) (g.O.Sink.seen c.args.output.now) (g.E.Sink.seen c.args.errors.now) (g.A.Ambient.seen c.args.ambient.now))
    (devices (g.I.Source.seen c.execute_set.new.input) (g.O.Sink.seen c.execute_set.new.output) (g.E.Sink.seen c.execute_set.new.errors) (g.A.Ambient.seen c.execute_set.new.ambient)))
    c.in-Ok.ensures c.in-Err.ensures.executes)
