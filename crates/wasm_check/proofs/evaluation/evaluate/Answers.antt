use Rattle.std.proofs.Common.{[], ◌≡◌, ◌∙◌, ◌+◌, List, Option, None, true, false, ap, sym, subst, reverse, drop, refl}
use Rattle.std.specs.List.{All}
use Rattle.std.proofs.lemmas.List.Elements.{All-nil, All-more}
use Rattle.std.proofs.Math.ListN.{drop_of_length-le}
use Rattle.std.proofs.lemmas.List.{take_all}
use Rattle.wasm_form.specs.declared.runtime.Value.{Value}
use Rattle.wasm_form.specs.declared.instr.Instr.{Instr, out-Instr}
use Rattle.spec_execution.specs.spec_binary.Options.{◌>>=◌}
use Rattle.spec_execution.specs.spec_runtime.Constants.{after_constant, after_constants, only_value}
use Rattle.wasm_check.specs.Constants.{Leaves, left_alone, values_of, known_globals, HasWord}
use Rattle.wasm_check.proofs.ConstantTypes.{is_of_type}
use Rattle.wasm_check.proofs.ConstantSteps.{one_more, here_then, ends}
use Rattle.wasm_check.proofs.evaluation.evaluate.Goals as goal

pub loop-i-init : goal.loop-i-init
loop-i-init c = record {
  left = λ functions. rw (c.new-stack.ensures.items, c.items-i-items.ensures) refl;
  words = All-nil (λ i. HasWord c.args.globals.now (out-Instr i));
}

pub returns-then-not-branch-clause-value : goal.returns-then-not-branch-clause-value
returns-then-not-branch-clause-value c = λ functions.
    let globals = known_globals c.args.globals.now in
    let is = c.items-i-items.result.now in
    let rest = drop (c.loop-i.i-index + 1) is in
    let before = values_of functions (reverse c.loop-i.stack.items) in
    let done : Leaves functions false (after_constant functions globals (out-Instr c.i-item.result)) c.loop-i.stack.items c.step.new.stack.items =
    subst (λ b. Leaves functions b (after_constant functions globals (out-Instr c.i-item.result)) c.loop-i.stack.items c.step.new.stack.items) c.if-not-branch.true (c.in_ok-step.ensures.value functions) in
    ap (λ (o : Option (List Value)). o >>= only_value)
    (c.loop-i.invariant.left functions
    ∙ ap (λ (js : List Instr). before >>= after_constants functions globals js) (here_then is c.loop-i.i-index c.i-item.result c.loop-i-test.true c.i-item.is)
    ∙ one_more functions globals c.i-item.result rest before None done)

pub loop-i-preserved : goal.loop-i-preserved
loop-i-preserved c = record {
  left = λ functions.
      let globals = known_globals c.args.globals.now in
      let is = c.items-i-items.result.now in
      let rest = drop (c.loop-i.i-index + 1) is in
      let before = values_of functions (reverse c.loop-i.stack.items) in
      let done : Leaves functions true (after_constant functions globals (out-Instr c.i-item.result)) c.loop-i.stack.items c.step.new.stack.items =
      subst (λ b. Leaves functions b (after_constant functions globals (out-Instr c.i-item.result)) c.loop-i.stack.items c.step.new.stack.items) c.if-not-branch.false (c.in_ok-step.ensures.value functions) in
      c.loop-i.invariant.left functions
      ∙ ap (λ (js : List Instr). before >>= after_constants functions globals js) (here_then is c.loop-i.i-index c.i-item.result c.loop-i-test.true c.i-item.is)
      ∙ one_more functions globals c.i-item.result rest before (values_of functions (reverse c.step.new.stack.items)) done;
  words =
      let P : Instr → Type 0 = λ i. HasWord c.args.globals.now (out-Instr i) in
      All-more P c.items-i-items.result.now c.loop-i.i-index c.i-item.result c.loop-i-test.true c.loop-i.invariant.words (subst P c.i-item.is c.step.ensures.word);
}

pub returns-clause-value : goal.returns-clause-value
returns-clause-value c = λ functions.
    let globals = known_globals c.args.globals.now in
    let is = c.items-i-items.result.now in
    let at_end : drop c.loop-i.i-index is ≡ [] = drop_of_length-le is c.loop-i-test.false in
    ap (λ (o : Option (List Value)). o >>= only_value)
    (c.loop-i.invariant.left functions
    ∙ ap (λ (js : List Instr). values_of functions (reverse c.loop-i.stack.items) >>= after_constants functions globals js) at_end
    ∙ ends functions globals (values_of functions (reverse c.loop-i.stack.items)))
    ∙ ap (left_alone functions) (sym c.deref.ensures.value) ∙ c.only.ensures functions

pub returns-clause-typed : goal.returns-clause-typed
returns-clause-typed c = λ m t typed given.
    let P : Instr → Type 0 = λ i. HasWord c.args.globals.now (out-Instr i) in
    let is = c.items-i-items.result.now in
    let words : All P is = subst (All P) (take_all c.loop-i.i-index is c.loop-i-test.false) c.loop-i.invariant.words in
    is_of_type m c.args.globals.now t given c.args.e.now (subst (All P) c.items-i-items.ensures words) typed c.only.result (returns-clause-value c)
