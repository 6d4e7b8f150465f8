-- The run after its steps of code, then with its answer, and then after one step more.
use Rattle.std.proofs.Common.{◌<◌, ◌∙◌, sym, subst, arith, ltb-true}
use Rattle.std.proofs.lemmas.Result.{err_from_is_err_and}
use Rattle.run_loaded.specs.Programs.{recorded_of}
use Rattle.wasm_exec.specs.Driving.{progress_of}
use Rattle.wasm_exec.proofs.Proceeding.{driven_along, steps_so, step_proceeds, full, cut_short, cut_here}
use Rattle.wasm_exec.proofs.driver.Driver.proceed.Goals as goal

pub returns-in_err-advance-clause-proceeds : goal.returns-in_err-advance-clause-proceeds
returns-in_err-advance-clause-proceeds g c = λ o begun drives.
    let p = err_from_is_err_and c.from_residual.result c.from_residual.ensures.1 in
    (c.advance.ensures.kept o drives.0, rw p.1 (cut_here drives.1 c.args.most (omega (arith, c.requires.few))))

pub returns-then-not-branch-clause-proceeds : goal.returns-then-not-branch-clause-proceeds
returns-then-not-branch-clause-proceeds g c = λ o begun drives.
    driven_along o c.args.self.now drives c.advance.new.self c.in_ok-advance.ensures.along

pub is_full-requires : goal.is_full-requires
is_full-requires g c =
    let driven = c.requires.driven in
    record { written = (driven_along driven.0 c.args.self.now driven.3 c.advance.new.self c.in_ok-advance.ensures.along).1.running.written }

pub returns-then-is_full-clause-proceeds : goal.returns-then-is_full-clause-proceeds
returns-then-is_full-clause-proceeds g c = λ o begun drives.
    let on = driven_along o c.args.self.now drives c.advance.new.self c.in_ok-advance.ensures.along in
    (on.0, full on.1 c.args.most (ltb-true _ _ (sym c.in_ok-advance.ensures.left ∙ c.if-not-branch.false)) (sym c.is_full.ensures ∙ c.if-is_full.true))

pub answer-requires-clause-running : goal.answer-requires-clause-running
answer-requires-clause-running g c =
    let driven = c.requires.driven in
    let on = driven_along driven.0 c.args.self.now driven.3 c.advance.new.self c.in_ok-advance.ensures.along in
    (driven.0, driven.2, (on.0, on.1.running))

pub returns-in_err-answer-clause-proceeds : goal.returns-in_err-answer-clause-proceeds
returns-in_err-answer-clause-proceeds g c = λ o begun drives.
    let on = driven_along o c.args.self.now drives c.advance.new.self c.in_ok-advance.ensures.along in
    let served = c.answer.ensures.served o begun on in
    let p = err_from_is_err_and c.from_residual-in_err-answer.result c.from_residual-in_err-answer.ensures.1 in
    (c.answer.ensures.kept o on.0, rw p.1 (cut_short on.1 c.args.most c.advance.ensures.few _ served.1))

pub step-requires-clause-ready : goal.step-requires-clause-ready
step-requires-clause-ready g c =
    let driven = c.requires.driven in
    let on = driven_along driven.0 c.args.self.now driven.3 c.advance.new.self c.in_ok-advance.ensures.along in
    let prepared = (c.in_ok-answer.ensures.served driven.0 driven.1 on).0 in
    (_, driven.0, (prepared.0, prepared.1.ready))

pub returns-clause-proceeds : goal.returns-clause-proceeds
returns-clause-proceeds g c = λ o begun drives.
    let on = driven_along o c.args.self.now drives c.advance.new.self c.in_ok-advance.ensures.along in
    let served = c.in_ok-answer.ensures.served o begun on in
    let lt : (recorded_of c.advance.new.self.program).steps < c.args.most = ltb-true _ _ (sym c.in_ok-advance.ensures.left ∙ c.if-not-branch.false) in
    let more : (recorded_of c.answer.new.self.program).steps < c.args.most = subst (λ n. n < c.args.most) (sym c.in_ok-answer.ensures.steps) lt in (
      c.step.ensures.kept o served.0.0,
      step_proceeds served.0.1 c.args.most more c.step.result (progress_of c.step.new.self) (steps_so o c.answer.new.self served.0 c.step.new.self c.step.result c.step.ensures.stepped)
          (cut_short on.1 c.args.most c.advance.ensures.few _ served.1),
    )
