use Rattle.std.proofs.Common.{ap, ◌∙◌}
use Rattle.wasm_machine.specs.Steps.{event_of}
use Rattle.dyl_store.proofs.SetRuns.{runs_so}
use Rattle.dyl_store.proofs.set_run.SetRunBareLinked.run.Goals as goal

pub returns-clause-ran : goal.returns-clause-ran
returns-clause-ran c = λ o of s is.
    runs_so c.args.self.now.running.linked.now o (record { running = c.run-told.new.self; event = c.tell.new.kept }) (c.tell.ensures ∙ c.event_of.ensures ∙ ap event_of c.standing.ensures) s c.run-told.result.0 c.run-told.result.1 (c.run-told.ensures.ran s is.at)
