use Rattle.std.proofs.Common.{◌≡◌, inl, inr, true, false, refl, sym, ◌∙◌, arith}
use Rattle.std.proofs.lemmas.Result.{err_from_is_err_and}
use Rattle.dyl_store.specs.Stores.{MayWantAt}
use Rattle.slice_board.proofs.Going.{code_along, code_lost, code_stops, step_under, step_lost, step_told, goes_then, goes_lost, was_found}
use Rattle.slice_board.proofs.steps.go_on.Goals as goal

pub returns-in_err-advance-clause-lost : goal.returns-in_err-advance-clause-lost
returns-in_err-advance-clause-lost c =
    let a = c.in_err-advance.ensures in
    let p = err_from_is_err_and c.from_residual.result c.from_residual.ensures.1 in
    rw p.1 (code_lost c.args.most c.args.until c.args.store.now c.advance.new.self a.same c.requires.few a.advances a.code a.lost a.wanting a.stays)

pub returns-in-Some-clause-goes : goal.returns-in-Some-clause-goes
returns-in-Some-clause-goes c =
    let a = c.in_ok-advance.ensures in
    let found = was_found c.args.store.now.run.lost (λ e. (let bad = a.again e in cc)) in
    code_stops c.args.most c.args.until c.args.store.now c.advance.new.self a.same c.requires.few a.advances a.code found a.found c.in-Some.why c.in-Some.ensures.seen

pub run_step-requires-clause-answered : goal.run_step-requires-clause-answered
run_step-requires-clause-answered c = c.in_default.ensures.answered refl

pub run_step-requires-clause-few : goal.run_step-requires-clause-few
run_step-requires-clause-few c =
    let a = c.in_ok-advance.ensures in
    let along = code_along c.args.most c.args.until c.args.store.now c.advance.new.self a.same c.requires.few a.advances a.code in
    let under = step_under c.args.most c.args.until c.advance.new.self c.advance.new.self along.few a.found c.in_default.ensures.seen in
    omega (arith, under, c.requires.limit, c.ranges.most)

pub returns-in_err-event-clause-lost : goal.returns-in_err-event-clause-lost
returns-in_err-event-clause-lost c =
    let most = c.args.most in
    let until = c.args.until in
    let old = c.args.store.now in
    let middle = c.advance.new.self in
    let new = c.run_step.new.self in
    let a = c.in_ok-advance.ensures in
    let found = was_found old.run.lost (λ e. (let bad = a.again e in cc)) in
    let along = code_along most until old middle a.same c.requires.few a.advances a.code in
    let may : MayWantAt middle.linked middle.run = elim c.in_err-event.ensures.wanting [ inl was ↦ absurd (let bad : true ≡ false = sym was ∙ a.found in cc) | inr may ↦ may ] in
    let p = err_from_is_err_and c.from_residual-in_err-event.result c.from_residual-in_err-event.ensures.1 in
    rw p.1
    (goes_lost most until old middle new a.same found a.found along (step_lost most until middle new along.few a.found c.in_default.ensures.seen c.in_err-event.ensures.lost may))

pub returns-clause-goes : goal.returns-clause-goes
returns-clause-goes c =
    let most = c.args.most in
    let until = c.args.until in
    let old = c.args.store.now in
    let middle = c.advance.new.self in
    let new = c.run_step.new.self in
    let a = c.in_ok-advance.ensures in
    let found = was_found old.run.lost (λ e. (let bad = a.again e in cc)) in
    let along = code_along most until old middle a.same c.requires.few a.advances a.code in
    let step = step_told most until middle new along.few a.found c.in_default.ensures.seen c.in_ok-event.event c.in_ok-event.ensures.stepped.1 in
    rw c.deep_stop-why.ensures (goes_then most until old middle new _ a.same found along step)
