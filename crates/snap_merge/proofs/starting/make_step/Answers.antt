use Rattle.std.proofs.Common.{ap, ◌∙◌}
use Rattle.spec_loading.specs.Loading.{loaded_too_deep}
use Rattle.spec_loading.specs.LoadedSet.{set_loading}
use Rattle.dyl_store.specs.Stores.{set_course}
use Rattle.snap_merge.proofs.StartUp.{here_is, status_is, not_waiting, step_made}
use Rattle.snap_merge.proofs.starting.make_step.Goals as goal

pub run_step-requires-clause-answered : goal.run_step-requires-clause-answered
run_step-requires-clause-answered c = λ _. not_waiting c.args.store.now.linked c.args.most c.args.store.now c.requires.starting c.requires.may.0

pub returns-clause-made : goal.returns-clause-made
returns-clause-made c =
    let v = c.args.store.now in
    let L = v.linked in
    step_made (set_course L) v.run c.run_step.new.self.run (status_is L c.args.most v c.requires.starting ∙ c.requires.may.0)
    (ap (loaded_too_deep (set_loading L)) (here_is L c.args.most v c.requires.starting) ∙ c.requires.may.1) c.in_ok-event.event c.in_ok-event.ensures.stepped.1
