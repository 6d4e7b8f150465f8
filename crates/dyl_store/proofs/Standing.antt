-- What is read of a run, where it stands.
use Rattle.std.proofs.Common.{◌≡◌, ◌<◌, List, length, get_or, slice_get, Some, Bool, false, refl, sym, ap, ◌∙◌, subst}
use Rattle.std.specs.Prelude.{◌&&◌}
use Rattle.std.proofs.lemmas.Option.{slice_get_read}
use Rattle.wasm_form.specs.declared.runtime.Trap.{Trap}
use Rattle.spec_loading.specs.spec_runs.Systems.{Status, Moving}
use Rattle.spec_loading.specs.spec_runtime.Hosts.{HostCall}
use Rattle.spec_loading.specs.spec_runtime.Tables.{TableInstance}
use Rattle.spec_loading.specs.spec_runtime.Courses.{Course, state_at, status_at}
use Rattle.spec_loading.specs.spec_execution.Views.{View}
use Rattle.spec_loading.specs.spec_execution.Instances.{ModuleParts}
use Rattle.spec_loading.specs.spec_linking.LinkedSets.{LinkedSet, hosts_of}
use Rattle.spec_loading.specs.Members.{set_view}
use Rattle.spec_loading.specs.LoadedSet.{SetState}
use Rattle.spec_keeping.specs.Started.{is_started}
use Rattle.wasm_machine.specs.declared.machine.Standing.{Standing}
use Rattle.wasm_machine.specs.declared.machine.Standing.TheVariants as standing
use Rattle.wasm_recorder.specs.Bares.{StandsSo}
use Rattle.dyl_store.specs.declared.running.Running.{Running}
use Rattle.dyl_store.specs.Stores.{StoreRun, set_course, is_moving, is_deep_at, units_at}
use Rattle.dyl_store.specs.Runs.{IsRunning, IsDeepTo, IsStartedTo, RunsAt}
use Rattle.dyl_store.proofs.SetRuns.{core_stands, moving_status}

-- where the machine doesn't go on, the run doesn't
still_status : (hosts : _) (status : Status HostCall Trap) (st : Standing) → StandsSo hosts st status → (st ≡ standing.Moving → ⊥) → is_moving status ≡ false
still_status hosts status standing.Moving h still = absurd (still refl)
still_status hosts status (standing.Asking entry count) h still = ap is_moving h.1
still_status hosts status standing.Loading h still = absurd h
still_status hosts status standing.Returned h still = ap is_moving h
still_status hosts status (standing.Trapped why) h still = ap is_moving h
still_status hosts status (standing.Exited code) h still = ap is_moving h
still_status hosts status standing.Lost h still = absurd h

module _ (v : StoreRun) (x : Running) (linked : x.linked.now ≡ v.linked) where
  abbrev C : Course
  C = set_course v.linked

  abbrev here : SetState
  here = state_at C v.run

  -- the members as they are seen
  view_now : IsRunning x → set_view x.world.linked ≡ set_view v.linked
  view_now running = running.fixed ∙ ap set_view linked

  pub in_view : IsRunning x → (P : View ModuleParts → Type 0) → P (set_view v.linked) → P (set_view x.world.linked)
  in_view running P p = subst P (sym (view_now running)) p

  module _ (at : RunsAt v.linked x here) where
    pub seen_here : IsRunning x → (P : View ModuleParts → ModuleParts → Type 0) → P (set_view x.world.linked) x.world.store → P (set_view v.linked) (units_at v.linked v.run)
    seen_here running P p = subst (P (set_view v.linked)) (sym at.units) (subst (λ (V : View ModuleParts). P V x.world.store) (view_now running) p)

    pub started_here : (started : Bool) → IsStartedTo x.linked.now started x → started ≡ is_started here
    started_here started told = subst (λ (L : LinkedSet). IsStartedTo L started x) linked told here at

    pub deep_moving : x.core.machine.standing ≡ standing.Moving → (deep : Bool) → IsDeepTo x.linked.now deep x → deep ≡ is_deep_at C v.run
    deep_moving moving deep told =
        let status : status_at C v.run ≡ Moving = moving_status v.linked x here at moving in
        subst (λ (L : LinkedSet). IsDeepTo L deep x) linked told here at ∙ sym (ap (λ (st : Status HostCall Trap). is_moving st && C.deep here) status)

    pub deep_still : (x.core.machine.standing ≡ standing.Moving → ⊥) → false ≡ is_deep_at C v.run
    deep_still still =
        let none = still_status (hosts_of v.linked) (status_at C v.run) x.core.machine.standing (core_stands v.linked x here x.core.machine.standing at.standing) still in
        sym (ap (λ (d : Bool). d && C.deep here) none)

-- the first table is the one that was read
pub table_read : (xs ys : List TableInstance) → xs ≡ ys → 0 < length xs → (x : TableInstance) → x ≡ get_or xs 0 x → slice_get ys 0 ≡ Some x
table_read xs ys e lt x read = ap (λ (ts : List TableInstance). slice_get ts 0) (sym e) ∙ slice_get_read xs (length xs) 0 x refl lt read
