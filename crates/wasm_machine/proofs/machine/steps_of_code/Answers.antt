use Rattle.std.proofs.Common.{arith, ◌≡◌, ◌≢◌, ◌∙◌, ◌-◌, sym, subst, ℕ}
use Rattle.wasm_step.specs.declared.done.Done.TheVariants as done
use Rattle.wasm_machine.specs.Stacks.{joined}
use Rattle.wasm_machine.specs.Machines.{Runs, going, at_point}
use Rattle.wasm_machine.proofs.Stepping.{over_next, some_next, goes_next, over_here, stops, all_made}
use Rattle.wasm_machine.proofs.machine.steps_of_code.Goals as goal

pub returns-in_default : goal.returns-in_default
returns-in_default g c =
    let V = (g.V.View.seen c.args.view.now).fixed in
    let w = g.V.View.seen c.steps.view in
    let w' = g.V.View.seen c.step_code.new.view in
    let s = joined c.steps.callers c.steps.top in
    let s' = joined c.step_code.new.callers c.step_code.new.top in
    let made = c.args.most - c.steps.left in
    let h = c.steps-test.true in
    let ends : c.step_code.result ≢ done.Goes = c.in_default.not-Goes in
    record {
      ran = stops V w.fixed c.steps.invariant.fixed _ made s s' w w' c.step_code.result c.step_code.ensures.stepped c.step_code.ensures.over c.steps.invariant.goes ends;
      over = over_here V w.fixed c.steps.invariant.fixed _ made s s' w w' c.step_code.result c.step_code.ensures.stepped c.step_code.ensures.over c.steps.invariant.goes;
      joined = c.step_code.ensures.joined;
      fixed = c.step_code.ensures.fixed ∙ c.steps.invariant.fixed;
      most = λ goes. absurd (ends goes);
      fewer = λ _. omega arith;
    }

pub steps-preserved : goal.steps-preserved
steps-preserved g c =
    let V = (g.V.View.seen c.args.view.now).fixed in
    let w = g.V.View.seen c.steps.view in
    let w' = g.V.View.seen c.step_code.new.view in
    let s = joined c.steps.callers c.steps.top in
    let s' = joined c.step_code.new.callers c.step_code.new.top in
    let d = c.step_code.result in
    let made = c.args.most - c.steps.left in
    let stepped = c.step_code.ensures.stepped in
    let over = c.step_code.ensures.over in
    let goes : c.step_code.result ≡ done.Goes = c.in-Goes.is in
    let h = c.steps-test.true in
    record {
      lies = c.step_code.ensures.joined (λ none. let clash : done.Goes ≡ done.NoMemory = sym goes ∙ none in cc);
      over = over_next V w.fixed c.steps.invariant.fixed _ made s s' w w' d stepped over c.steps.invariant.goes goes w'.fixed c.step_code.ensures.fixed;
      some = some_next V w.fixed c.steps.invariant.fixed _ made s s' w w' d stepped over c.steps.invariant.goes goes;
      fixed = c.step_code.ensures.fixed ∙ c.steps.invariant.fixed;
      goes = goes_next V w.fixed c.steps.invariant.fixed _ made s s' w w' d stepped over c.steps.invariant.goes goes _ (omega arith);
      few = omega arith;
    }

pub returns-clause-ran : goal.returns-clause-ran
returns-clause-ran g c =
    let V = (g.V.View.seen c.args.view.now).fixed in
    let s = joined c.steps.callers c.steps.top in
    let w = g.V.View.seen c.steps.view in
    let all : c.args.most - c.steps.left ≡ c.args.most = omega arith in
    subst (λ (n : ℕ). Runs V n done.Goes (at_point (going (joined c.args.callers.now c.args.top.now)) (g.V.View.seen c.args.view.now)) (at_point (going s) w)) all (all_made V _ (c.args.most - c.steps.left) s w c.steps.invariant.goes)
