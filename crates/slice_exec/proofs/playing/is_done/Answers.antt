use Rattle.std.proofs.Common.{◌∙◌, sym}
use Rattle.dyl_store.specs.Stores.{set_course}
use Rattle.slice_exec.proofs.Seen.{done_steps, done_ended, done_deep, done_last}
use Rattle.slice_exec.proofs.playing.is_done.Goals as goal
use Rattle.slice_exec.proofs.playing.is_done.Goals.{then-has_ended-via-then-has_ended, then-has_ended-via-else-has_ended+then-deep}

pub returns : goal.returns
returns c =
    let C = set_course c.args.store.now.linked in
    let found = c.requires.seated.found in
    let stands = c.steps.ensures.stands found in
    c.waits_in_vain.ensures
    ∙ sym (done_last C c.args.most c.args.store.now.run c.requires.seated stands (sym (c.has_ended.ensures found) ∙ c.if-has_ended.false)
    (λ e. c.if-steps-most.false (c.steps.ensures.value ∙ e)) (sym (c.deep.ensures found) ∙ c.if-deep.false))

pub returns-then-steps-most : goal.returns-then-steps-most
returns-then-steps-most c =
    sym (done_steps (set_course c.args.store.now.linked) c.args.most c.args.store.now.run c.requires.seated (c.steps.ensures.stands c.requires.seated.found) (sym c.steps.ensures.value ∙ c.if-steps-most.true))

pub returns-then-has_ended : goal.returns-then-has_ended
returns-then-has_ended c =
    let C = set_course c.args.store.now.linked in
    let found = c.requires.seated.found in
    let stands = c.steps.ensures.stands found in
    elim c.then-has_ended.branch [
      | then-has_ended-via-then-has_ended w ↦ sym (done_ended C c.args.most c.args.store.now.run c.requires.seated stands (sym (c.has_ended.ensures found) ∙ w.if-has_ended.true))
      | then-has_ended-via-else-has_ended+then-deep w ↦ sym (done_deep C c.args.most c.args.store.now.run c.requires.seated stands (sym (w.deep.ensures found) ∙ w.if-deep.true))
    ]
