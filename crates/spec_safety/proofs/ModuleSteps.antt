-- The run of one module: a step from a sound state leads to a sound one, and so does an answer.
use Rattle.std.proofs.Common.{◌≡◌, ◌≢◌, ℕ, ◌^◌, List, [], ◌∷◌, map, reverse, Option, Some, None, true, refl, sym, subst}
use Rattle.std.specs.Prelude.{IfSome}
use Rattle.std.proofs.lemmas.Bool.{and_parts, ltb-true}
use Rattle.spec_execution.specs.spec_runs.Systems.{Moving, Waits}
use Rattle.spec_execution.specs.wasm_form.declared.types.ValType.{ValType}
use Rattle.spec_execution.specs.wasm_form.declared.types.ValType.TheVariants.{I32, I64}
use Rattle.spec_execution.specs.wasm_form.declared.types.FuncType.{FuncType}
use Rattle.spec_execution.specs.wasm_form.declared.module.Module.{Module}
use Rattle.spec_execution.specs.wasm_form.declared.runtime.Value.TheVariants.{Num}
use Rattle.spec_execution.specs.wasm_form.declared.runtime.Answer.{Answer}
use Rattle.spec_execution.specs.wasm_form.declared.runtime.Answer.TheVariants.{Reply, Exit}
use Rattle.spec_execution.specs.spec_binary.Options.{◌>>=◌}
use Rattle.spec_execution.specs.spec_binary.Indices.{nullary}
use Rattle.spec_execution.specs.spec_runtime.Names.{HostName}
use Rattle.spec_execution.specs.spec_runtime.Hosts.{HostCall, numbers_fit, number_fits, writes_fit, answer_fits, all_written}
use Rattle.spec_execution.specs.Views.{View}
use Rattle.spec_execution.specs.Instances.{ModuleParts, module_target, module_hosts, module_view, module_names}
use Rattle.spec_execution.specs.Runs.{Frame, Active, Marked, Next, Goes, Asks, Loads, Ends, Traps, call, became, stands, returned, taken}
use Rattle.spec_execution.specs.OneModule.{Starting, ModuleState, start_next, module_next, module_step}
use Rattle.spec_safety.specs.Laws.{IsAlone}
use Rattle.spec_safety.specs.ValueTypes.{HasType, HaveTypes, AreArguments, IsOfBytes, IsMemory}
use Rattle.spec_safety.specs.TypedViews.{HoldTypes, IsTypedView}
use Rattle.spec_safety.specs.TypedFrames.{IsCalledOver, Stand, IsSoundNext}
use Rattle.spec_safety.specs.SoundModules.{HoldsNumbers, IsCalled, StartsOn, on_start, StacksFit, IsSound}
use Rattle.spec_safety.proofs.KnownStacks.{some_same, went_on, then_is}
use Rattle.spec_safety.proofs.HeldValues.{have_reverse}
use Rattle.spec_safety.proofs.KeptMemories.{writes_kept}
use Rattle.spec_safety.proofs.SoundCode.{function_typed, checked_is_typed}
use Rattle.spec_safety.proofs.SoundSteps.{code_step, call_ok, given_stand}

-- a function that takes nothing may be called over any frames
pub nullary_over : {Mark : Type 0} (fs : List (Frame Mark)) → IsCalledOver fs nullary
nullary_over [] = refl
nullary_over (Active a ∷ fs) = tt
nullary_over (Marked mark ∷ fs) = refl

-- the results of a host function are of their types
pub results_typed : {Units : Type 0} (V : View Units) (ts : List ValType) (ns : List ℕ) → numbers_fit ts ns ≡ true → HaveTypes V ts (map Num ns)
results_typed V [] [] e = tt
results_typed V [] (n ∷ ns) e = absurd cc
results_typed V (t ∷ ts) [] e = absurd cc
results_typed V (t ∷ ts) (n ∷ ns) e =
    let p = and_parts (number_fits t n) (numbers_fit ts ns) e in
    (number t p.0, results_typed V ts ns p.1)
  where
    number : (t : ValType) → number_fits t n ≡ true → HasType V t (Num n)
    number I32 q = (refl, ltb-true n (2 ^ 32) q)
    number I64 q = (refl, ltb-true n (2 ^ 64) q)
    number _ q = absurd cc

module _ (m : Module) (alone : IsAlone m) (numbers : HoldsNumbers m) where
  abbrev Holds : ModuleParts → Type 0
  Holds = HoldTypes (module_view m) (module_names m)

  typed : IsTypedView (module_view m) (module_names m) Holds
  typed = checked_is_typed m alone numbers

  abbrev Stands : List (Frame Starting) → List ValType → Type 0
  Stands fs rs = Stand (module_view m) (module_names m) (on_start m) fs rs

  abbrev NextIsSound : Option (Next ModuleParts Starting) → Type 0
  NextIsSound o = IsSoundNext (module_view m) (module_names m) Holds (on_start m) o

  module _ (s : ModuleState) (holds : HoldTypes (module_view m) (module_names m) s.units) (is : IsMemory s.memory) where
    -- a function without parameters and results is called over these
    called_ok : (f : ℕ) (under : List (Frame Starting)) → IsCalled m f → Stands under []
        → NextIsSound (module_target m f >>= call (module_view m) s.units s.memory (λ values. under) [])
    called_ok f under e st =
        let r = function_typed m alone 0 f nullary e in
        rw r.1
        (call_ok (module_view m) (module_names m) Holds (on_start m) typed s.units s.memory holds is (λ values. under) [] [] r.0 nullary r.2 tt (λ ws h. st) (λ ws. nullary_over under))

    start_ok : (under : List (Frame Starting)) (starting : Starting) → StartsOn m starting under → NextIsSound (start_next m s under starting)
    start_ok under starting on = go starting.start refl
      where
        bottom : Stands under []
        bottom = subst (λ fs. Stands fs []) (sym on.bottom) refl

        start : (o : Option ℕ) → starting.start ≡ o → IfSome o (IsCalled m)
        start o e = subst (λ z. IfSome z (IsCalled m)) e on.start

        over : Stands (Marked (record starting { start = None }) ∷ under) []
        over = (refl, record { start = tt; entry = on.entry; bottom = on.bottom })

        go : (o : Option ℕ) → starting.start ≡ o → NextIsSound (start_next m s under starting)
        go None e = rw e (called_ok starting.entry under on.entry bottom)
        go (Some f) e = rw e (called_ok f (Marked (record starting { start = None }) ∷ under) (start (Some f) e) over)

    pub next_ok : (fs : List (Frame Starting)) → fs ≢ [] → Stands fs [] → NextIsSound (module_next m s fs)
    next_ok [] some st = absurd (some refl)
    next_ok (Active a ∷ fs) some st = code_step (module_view m) (module_names m) Holds (on_start m) typed s.units s.memory a fs holds is st
    next_ok (Marked starting ∷ fs) some st = start_ok fs starting st.1

    -- what the state becomes
    became_ok : (o : Option (Next ModuleParts Starting)) → NextIsSound o
        → (t : ModuleState) × ((o >>= became (module_hosts m) s) ≡ Some t) × IsSound m t
    became_ok None h = absurd h
    became_ok (Some (Goes us memory fs)) h = (_, refl, record { units = h.0; memory = h.1; stack = (h.2, h.3) })
    became_ok (Some (Asks entry args fs)) h =
        let host = went_on (module_hosts m entry) (λ (x : HostName). Some x.ty) h.0 h.1 in
        let same : h.0 ≡ host.0.ty = sym (some_same host.2) in
        let asked = subst (λ ty. AreArguments (module_view m) ty args) same h.2 in
        let over = subst (IsCalledOver fs) same h.3 in
        let stand = subst (λ (ty : FuncType). Stands fs (reverse ty.results)) same h.4 in (
          stands s fs (Waits (record { host = host.0; args = args })),
          then_is (module_hosts m entry) (λ h. Some (stands s fs (Waits (record { host = h; args = args })))) host.0 host.1,
          record { units = holds; memory = is; stack = (entry, host.1, asked, over, stand) },
        )
    became_ok (Some (Loads which args fs)) h = absurd (let no = h.0 in cc)
    became_ok (Some Ends) h = (_, refl, record { units = holds; memory = is; stack = tt })
    became_ok (Some (Traps why)) h = (_, refl, record { units = holds; memory = is; stack = tt })

  pub step_ok : (s : ModuleState) → IsSound m s → s.status ≡ Moving → (t : ModuleState) × (module_step m s ≡ Some t) × IsSound m t
  step_ok s sound moving =
      let st : StacksFit m Moving s.stack = subst (λ z. StacksFit m z s.stack) moving sound.stack in
      became_ok s sound.units sound.memory (module_next m s s.stack) (next_ok s sound.units sound.memory s.stack st.0 st.1)

  returned_ok : (s : ModuleState) (ty : FuncType) (results : List ℕ) (fs : List (Frame Starting)) → HoldTypes (module_view m) (module_names m) s.units
      → IsMemory s.memory → numbers_fit ty.results results ≡ true → Stands fs (reverse ty.results) → IsSound m (returned s (reverse (map Num results)) fs)
  returned_ok s ty results [] holds is e st = record { units = holds; memory = is; stack = tt }
  returned_ok s ty results (f ∷ fs) holds is e st =
      let h = have_reverse (module_view m) ty.results (map Num results) (results_typed (module_view m) ty.results results e) in
      let stand = given_stand (module_view m) (module_names m) Holds (on_start m) typed f fs (reverse ty.results) (reverse (map Num results)) st h in
      record { units = holds; memory = is; stack = (λ q. absurd cc, stand) }

  pub answer_ok : (s : ModuleState) (asked : HostCall) (a : Answer) → IsSound m s → s.status ≡ Waits asked
      → answer_fits asked s.memory a ≡ true → IsOfBytes a → IsSound m (taken a s)
  answer_ok s asked (Exit code) sound waits fits bytes = record { units = sound.units; memory = sound.memory; stack = tt }
  answer_ok s asked (Reply results writes) sound waits fits bytes =
      let st : StacksFit m (Waits asked) s.stack = subst (λ z. StacksFit m z s.stack) waits sound.stack in
      let p = and_parts (numbers_fit asked.host.ty.results results) (writes_fit writes s.memory) fits in
      returned_ok (record s { memory = all_written writes s.memory }) asked.host.ty results s.stack sound.units
      (writes_kept writes s.memory p.1 bytes sound.memory) p.0 st.4
