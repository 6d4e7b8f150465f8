use Rattle.std.proofs.Common.{◌∙◌, subst}
use Rattle.spec_loading.specs.spec_linking.LinkedSets.{LinkedSet}
use Rattle.spec_snapshots.specs.Causes.{Takes, IsFirst}
use Rattle.snap_merge.specs.StartUp.{Comes}
use Rattle.snap_merge.proofs.starting.start_up.Goals as goal

pub returns-clause-first : goal.returns-clause-first
returns-clause-first c =
    let v = c.goes_on.new.store in
    subst (λ (M : LinkedSet). IsFirst M c.args.most v.run.steps Takes) (c.goes_on.ensures.same ∙ c.start.invariant.same)
    (record {
      before = c.in_ok-goes_on.ensures.before;
      here = subst (Comes v.linked c.args.most v.run.steps) c.if-branch.false c.in_ok-goes_on.ensures.comes;
    })
