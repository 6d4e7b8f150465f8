use Rattle.std.proofs.Common.{sym, subst}
use Rattle.spec_loading.specs.spec_linking.LinkedSets.{LinkedSet}
use Rattle.snap_merge.specs.StartUp.{NoneBefore, IsUnstarted}
use Rattle.snap_merge.proofs.StartUp.{starting_then, none_then, unstarted_then}
use Rattle.snap_merge.proofs.starting.advance.Goals as goal

pub returns-clause-starting : goal.returns-clause-starting
returns-clause-starting c =
    starting_then c.args.most c.args.store.now c.advance.new.self c.requires.starting c.advance.ensures.advances c.in_ok-advance.ensures.found

pub returns-clause-before : goal.returns-clause-before
returns-clause-before c =
    let v = c.args.store.now in
    let new = c.advance.new.self in
    let then = starting_then c.args.most v new c.requires.starting c.advance.ensures.advances c.in_ok-advance.ensures.found in
    subst (λ (M : LinkedSet). NoneBefore M c.args.most new.run.steps) (sym c.advance.ensures.same)
    (none_then v.linked c.args.most v new c.requires.starting c.requires.before c.requires.unstarted then.few c.advance.ensures.code c.advance.ensures.tops)

pub returns-clause-unstarted : goal.returns-clause-unstarted
returns-clause-unstarted c =
    let v = c.args.store.now in
    let new = c.advance.new.self in
    let then = starting_then c.args.most v new c.requires.starting c.advance.ensures.advances c.in_ok-advance.ensures.found in
    subst (λ (M : LinkedSet). IsUnstarted M new.run.steps) (sym c.advance.ensures.same)
    (unstarted_then v.linked c.args.most v new c.requires.starting c.requires.before c.requires.unstarted then.few c.advance.ensures.code c.advance.ensures.tops c.advance.ensures.advances.more)
