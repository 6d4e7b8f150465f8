use Rattle.std.proofs.Common.{ap, ◌∙◌}
use Rattle.wasm_machine.specs.Steps.{event_of}
use Rattle.dyl_store.proofs.SetRuns.{fits_so, takes_so}
use Rattle.dyl_store.proofs.set_run.SetRunBareLinked.take.Goals as goal

pub take-requires-clause-fits : goal.take-requires-clause-fits
take-requires-clause-fits c = fits_so c.args.self.now c.args.a.now c.requires.sound c.requires.fits

pub returns-clause-taken : goal.returns-clause-taken
returns-clause-taken c = λ o of s is.
    takes_so c.args.self.now.running.linked.now o (record { running = c.take.new.self; event = c.tell.new.kept }) (c.tell.ensures ∙ c.event_of.ensures ∙ ap event_of c.standing.ensures) c.args.a.now s (c.take.ensures.taken s is.at)
