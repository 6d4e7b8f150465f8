use Rattle.std.proofs.Common.{◌∙◌, sym}
use Rattle.dyl_store.specs.Stores.{set_course}
use Rattle.slice_exec.proofs.Seen.{ends_told, ends_steps, ends_deep, ends_calls, ends_turns}
use Rattle.slice_exec.proofs.ending.end_of.Goals as goal

pub returns-in-Some : goal.returns-in-Some
returns-in-Some c =
    ends_told (set_course c.args.store.now.linked) c.args.most c.args.store.now.run c.state.result.now c.in-Some.end (c.state.ensures.tells c.requires.seated.found) (sym c.end_by.ensures ∙ c.in-Some.is)

pub returns-then-steps-most : goal.returns-then-steps-most
returns-then-steps-most c =
    ends_steps (set_course c.args.store.now.linked) c.args.most c.args.store.now.run c.requires.seated (c.steps.ensures.stands c.requires.seated.found) c.state.result.now (c.state.ensures.tells c.requires.seated.found)
    (sym c.end_by.ensures ∙ c.in_default.is) (sym c.steps.ensures.value ∙ c.if-steps-most.true)

pub returns-then-deep : goal.returns-then-deep
returns-then-deep c =
    ends_deep (set_course c.args.store.now.linked) c.args.most c.args.store.now.run c.requires.seated (c.steps.ensures.stands c.requires.seated.found) (sym (c.deep.ensures c.requires.seated.found) ∙ c.if-deep.true)
    (λ same. c.if-steps-most.false (c.steps.ensures.value ∙ same))

pub returns-then-waits_in_vain : goal.returns-then-waits_in_vain
returns-then-waits_in_vain c =
    ends_calls (set_course c.args.store.now.linked) c.args.most c.args.store.now.run c.requires.seated (c.steps.ensures.stands c.requires.seated.found) (sym c.waits_in_vain.ensures ∙ c.if-waits_in_vain.true)
    (λ same. c.if-steps-most.false (c.steps.ensures.value ∙ same))

pub returns : goal.returns
returns c =
    ends_turns (set_course c.args.store.now.linked) c.args.most c.args.store.now.run c.requires.seated (c.steps.ensures.stands c.requires.seated.found) c.state.result.now (c.state.ensures.tells c.requires.seated.found)
    (sym c.end_by.ensures ∙ c.in_default.is) (λ same. c.if-steps-most.false (c.steps.ensures.value ∙ same)) (sym (c.deep.ensures c.requires.seated.found) ∙ c.if-deep.false) (sym c.waits_in_vain.ensures ∙ c.if-waits_in_vain.false)
