-- The function that a phase calls is there, and takes and gives nothing.
use Rattle.std.proofs.Common.{◌≡◌, ℕ, ◌<◌, length, Option, Some, None, refl, ap, sym, ◌∙◌, subst}
use Rattle.std.specs.Prelude.{is_some, IsTrue, IfSome}
use Rattle.std.proofs.lemmas.Option.{same_Some}
use Rattle.wasm_form.specs.declared.module.Module.{Module}
use Rattle.wasm_form.specs.declared.runtime.Ref.{Ref}
use Rattle.spec_loading.specs.spec_binary.Options.{◌>>=◌}
use Rattle.spec_loading.proofs.of_spec_binary.Options.{went_on}
use Rattle.spec_loading.specs.spec_binary.Indices.{nullary}
use Rattle.spec_loading.specs.spec_execution.Views.{type_of}
use Rattle.spec_loading.specs.spec_linking.Gathering.{IsSet}
use Rattle.spec_loading.specs.spec_linking.LinkedSets.{LinkedSet, wasm_of, function_ref}
use Rattle.spec_loading.specs.spec_linking.Links.{Links}
use Rattle.spec_loading.specs.declared.task.Phase.{Phase}
use Rattle.spec_loading.specs.Phases.{phase_function}
use Rattle.spec_loading.specs.Members.{set_view}
use Rattle.spec_loading.specs.LoadedSet.{set_loading, callee_of}
use Rattle.spec_loading.specs.Laws.{CalleesAreThere, IsCallable}

module _ (law : CalleesAreThere) (L : LinkedSet) (shape : IsSet L.set) (links : Links L) (phase : Phase) (m : ℕ) (lt : m < length L.set.members)
    (wasm : Module) (found : wasm_of L m ≡ Some wasm) (f : Option ℕ) (is : f ≡ phase_function phase m wasm) where
  there : (o : Option Ref) × ((set_loading L).callee phase m ≡ Some o) × IfSome o (IsCallable L)
  there = law L shape links phase m lt

  callee_is : (set_loading L).callee phase m ≡ callee_of L m f
  callee_is = ap (λ (o : Option Module). o >>= λ w. callee_of L m (phase_function phase m w)) found ∙ ap (callee_of L m) (sym is)

  pub none_called : f ≡ None → (set_loading L).callee phase m ≡ Some None
  none_called none = callee_is ∙ ap (callee_of L m) none

  module _ (n : ℕ) (some : f ≡ Some n) where
    target : (r : Ref) × (function_ref L m n ≡ Some r) × (Some (Some r) ≡ Some there.0)
    target =
        let on = went_on (function_ref L m n) (λ r. Some (Some r)) there.0 (sym (callee_is ∙ ap (callee_of L m) some) ∙ there.1) in
        (on.0, on.1, on.2)

    pub function_there : IsTrue (is_some (function_ref L m n))
    function_there = subst (λ (o : Option Ref). IsTrue (is_some o)) (sym target.1) refl

    module _ (r : Ref) (e : Some r ≡ function_ref L m n) where
      same : target.0 ≡ r
      same = same_Some target.0 r (sym target.1 ∙ sym e)

      pub one_called : (set_loading L).callee phase m ≡ Some (Some r)
      one_called = callee_is ∙ ap (callee_of L m) some ∙ ap (λ (o : Option Ref). o >>= λ x. Some (Some x)) (sym e)

      pub one_nullary : type_of (set_view L) r ≡ Some nullary
      one_nullary =
          let all : Some (Some target.0) ≡ Some there.0 = target.2 in
          let first : Some target.0 ≡ there.0 = same_Some (Some target.0) there.0 all in
          let callable : IfSome (Some target.0) (IsCallable L) = subst (λ (o : Option Ref). IfSome o (IsCallable L)) (sym first) there.2 in
          ap (type_of (set_view L)) (sym same) ∙ callable
