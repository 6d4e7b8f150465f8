-- Agreement from any two matching states; and both laws for a module that has the code of the merged one.
use Rattle.std.proofs.Common.{sym, subst}
use Rattle.wasm_form.specs.declared.module.Module.{Module}
use Rattle.spec_loading.proofs.of_spec_runs.Simulation.{agree}
use Rattle.spec_loading.specs.spec_execution.OneModule.{module_system}
use Rattle.spec_loading.specs.spec_linking.LinkedSets.{LinkedSet}
use Rattle.spec_loading.specs.LoadedSet.{set_system}
use Rattle.merge_match.specs.Renumbering.{Numbers}
use Rattle.merge_match.proofs.SameCode.{bare, bare_same, same_code_has_parts}
use Rattle.merge_start.specs.Words.{Starts}
use Rattle.merge_start.specs.Started.{IsReady}
use Rattle.merge_start.specs.Laws.{CallsAreAnswered, MatchedWithin, MatchedRunsAgree, SameCodeIsReady, SetsStepAsOthers, OtherRunsAgree}
use Rattle.merge_start.proofs.Startup.{sets_step_as_merged}

pub matched_runs_agree : MatchedRunsAgree
matched_runs_agree L n x merged is ready calls s t matched =
    agree (set_system L) (module_system merged) (MatchedWithin L n x) (sets_step_as_merged L n x merged is ready calls) s t matched

module _ (L : LinkedSet) (n : Numbers) (x : Starts) (w : Module) where
  bare_is_ready : IsReady L n x w → IsReady L n x (bare w)
  bare_is_ready ready = record {
    members = λ m lt. let of = ready.members m lt in record {
      wasm = of.wasm;
      found = of.found;
      effects = of.effects;
      slot = of.slot;
      fresh = of.fresh;
      target = of.target;
      code = of.code;
      callable = of.callable;
    };
    entry = ready.entry;
  }

  ready_of_bare : IsReady L n x (bare w) → IsReady L n x w
  ready_of_bare ready = record {
    members = λ m lt. let of = ready.members m lt in record {
      wasm = of.wasm;
      found = of.found;
      effects = of.effects;
      slot = of.slot;
      fresh = of.fresh;
      target = of.target;
      code = of.code;
      callable = of.callable;
    };
    entry = ready.entry;
  }

  bare_answers : CallsAreAnswered L n x w → CallsAreAnswered L n x (bare w)
  bare_answers calls = calls

  answers_of_bare : CallsAreAnswered L n x (bare w) → CallsAreAnswered L n x w
  answers_of_bare calls = calls

pub same_code_is_ready : SameCodeIsReady
same_code_is_ready L n x merged other same = record {
  parts = same_code_has_parts L n merged other same;
  ready = λ ready.
      ready_of_bare L n x other (subst (λ w. IsReady L n x w) (sym (bare_same merged other same)) (bare_is_ready L n x merged ready));
  calls = λ calls.
      answers_of_bare L n x other (subst (λ w. CallsAreAnswered L n x w) (sym (bare_same merged other same)) (bare_answers L n x merged calls));
}

pub sets_step_as_others : SetsStepAsOthers
sets_step_as_others L n x merged other is ready calls same =
    let of = same_code_is_ready L n x merged other same in
    sets_step_as_merged L n x other (of.parts is) (of.ready ready) (of.calls calls)

pub other_runs_agree : OtherRunsAgree
other_runs_agree L n x merged other is ready calls same s t matched =
    let of = same_code_is_ready L n x merged other same in
    matched_runs_agree L n x other (of.parts is) (of.ready ready) (of.calls calls) s t matched
