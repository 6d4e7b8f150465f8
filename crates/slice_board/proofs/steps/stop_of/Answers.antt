use Rattle.std.proofs.Common.{sym, ◌∙◌}
use Rattle.dyl_store.specs.Stores.{set_course}
use Rattle.slice_board.proofs.Going.{stop_is, none_waits}
use Rattle.slice_board.proofs.steps.stop_of.Goals as goal

pub returns-clause-seen : goal.returns-clause-seen
returns-clause-seen c = λ found.
    let at = c.steps-steps.ensures.stands found in
    stop_is (set_course c.args.store.now.linked) c.args.most c.args.until c.args.store.now.run c.first_stop.result c.steps-steps.result c.has_ended.result c.waiting.result at c.first_stop.ensures
    c.steps-steps.ensures.value (c.has_ended.ensures found) (c.waiting.ensures found)

pub returns-clause-answered : goal.returns-clause-answered
returns-clause-answered c = λ none found. sym (c.waiting.ensures found) ∙ none_waits c.has_ended.result _ c.waiting.result _ (sym c.first_stop.ensures ∙ none)
