use Rattle.std.proofs.Common.{ap, sym, subst}
use Rattle.spec_loading.specs.spec_runtime.Recorded.{Recorded}
use Rattle.spec_loading.specs.spec_linking.LinkedSets.{LinkedSet}
use Rattle.snap_merge.specs.StartUp.{NoneBefore, Refuses}
use Rattle.snap_merge.proofs.StartUp.{none_with}
use Rattle.snap_merge.proofs.starting.goes_on.Goals as goal

pub returns-in_ok-make_step-in-Ok-clause-before : goal.returns-in_ok-make_step-in-Ok-clause-before
returns-in_ok-make_step-in-Ok-clause-before c =
    let v = c.advance.new.store in
    let steps = c.make_step.new.store.run.steps in
    subst (λ (M : LinkedSet). NoneBefore M c.args.most steps) (sym c.make_step.ensures.same)
    (none_with v.linked c.args.most v.run.steps steps c.in_ok-advance.ensures.before c.in-Ok.ensures.may.2 (ap (λ (x : Recorded). x.steps) c.in_ok-make_step-in-Ok.ensures.made))

pub returns-in-Err-clause-refuses : goal.returns-in-Err-clause-refuses
returns-in-Err-clause-refuses c =
    subst (λ (M : LinkedSet). Refuses M c.args.most c.in-Err.fault) c.advance.ensures.same
    (c.advance.new.store.run.steps, c.in_ok-advance.ensures.before, c.in-Err.ensures.says)
