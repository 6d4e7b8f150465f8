-- An answer fits what a run waits for where it fits the host function that the machine asks.
use Rattle.std.proofs.Common.{◌≡◌, ℕ, Option, Some, IsTrue, IfSome, refl, sym, ap, ◌∙◌, subst}
use Rattle.wasm_form.specs.declared.types.FuncType.{FuncType}
use Rattle.wasm_form.specs.declared.runtime.Answer.{Answer}
use Rattle.spec_loading.specs.spec_runs.Systems.{Moving, Waits, Returned, Exited, Trapped}
use Rattle.spec_loading.specs.spec_runtime.Memories.{MemoryInstance}
use Rattle.spec_loading.specs.spec_runtime.Hosts.{HostCall, fits_results, answer_fits}
use Rattle.spec_loading.specs.spec_runtime.Recorded.{FitsWait}
use Rattle.spec_loading.specs.spec_execution.Views.{View}
use Rattle.spec_loading.specs.spec_execution.Instances.{ModuleParts, host_type}
use Rattle.spec_loading.specs.spec_linking.LinkedSets.{LinkedSet, set_hosts}
use Rattle.spec_loading.specs.LoadedSet.{SetState, set_loading}
use Rattle.spec_loading.specs.Members.{set_view}
use Rattle.wasm_machine.specs.declared.machine.Standing.{Standing}
use Rattle.wasm_machine.specs.declared.machine.Standing.TheVariants as standing
use Rattle.wasm_machine.proofs.Courses.{waited_call}
use Rattle.dyl_frames.specs.Cores.{StandsAs, FitsHost}
use Rattle.dyl_store.specs.declared.running.Running.{Running}
use Rattle.dyl_store.specs.Runs.{IsRunning, RunsAt}
use Rattle.dyl_store.proofs.Loads.{loaded}

-- an answer fits the results of a type
abbrev FitsType : MemoryInstance → Answer → Option FuncType → Type 0
FitsType memory a o = IfSome o (λ ty. IsTrue (fits_results ty.results memory a))

module _ (x : Running) (h : IsRunning x) (s : SetState) (at : RunsAt x.linked.now x s) where
  abbrev L : LinkedSet
  L = x.linked.now

  -- how the run stands where the machine asks
  pub asking_status : (entry count : ℕ) → x.core.machine.standing ≡ standing.Asking entry count → (call : HostCall) × (s.run.status ≡ Waits call) × (set_hosts L entry ≡ Some call.host)
  asking_status entry count e =
      let k = subst (λ (st : Standing). StandsAs (set_loading L) x.core s st) e at.standing in
      (k.0, k.1, k.2)

  -- where it waits the machine asks
  waits_asking : (call : HostCall) (st : Standing) → StandsAs (set_loading L) x.core s st → s.run.status ≡ Waits call → (entry count : ℕ) × (st ≡ standing.Asking entry count)
  waits_asking call standing.Moving k e = absurd (let clash : Moving ≡ Waits call = sym k.0 ∙ e in cc)
  waits_asking call (standing.Asking entry count) k e = (entry, count, refl)
  waits_asking call standing.Loading k e = absurd k
  waits_asking call standing.Returned k e = absurd (let clash : Returned ≡ Waits call = sym k ∙ e in cc)
  waits_asking call (standing.Trapped why) k e = absurd (let clash : Trapped why ≡ Waits call = sym k ∙ e in cc)
  waits_asking call (standing.Exited code) k e = absurd (let clash : Exited code ≡ Waits call = sym k ∙ e in cc)
  waits_asking call standing.Lost k e = absurd k

  host_named : (entry : ℕ) (call : HostCall) → set_hosts L entry ≡ Some call.host → (set_view x.world.linked).host entry ≡ Some call.host.ty
  host_named entry call named =
      let is = loaded x h in
      ap (λ (V : View ModuleParts). V.host entry) (sym is.view) ∙ is.hosts entry ∙ ap host_type named

  -- an answer that fits a call fits the host function that is asked
  pub fits_host : (a : Answer) (entry count : ℕ) (call : HostCall) → x.core.machine.standing ≡ standing.Asking entry count → set_hosts L entry ≡ Some call.host → IsTrue (answer_fits call s.run.memory a)
      → FitsHost (set_view x.world.linked) x.world.memory a x.core.machine.standing
  fits_host a entry count call asks named fits =
      let here : FitsType x.world.memory a (Some call.host.ty) = subst (λ (memory : MemoryInstance). IsTrue (answer_fits call memory a)) at.space fits in
      subst (FitsHost (set_view x.world.linked) x.world.memory a) (sym asks) (subst (FitsType x.world.memory a) (sym (host_named entry call named)) here)

  pub wait_fits_host : (a : Answer) → FitsWait a s.run.status s.run.memory → FitsHost (set_view x.world.linked) x.world.memory a x.core.machine.standing
  wait_fits_host a fits =
      let waited = waited_call a s.run.status s.run.memory fits in
      let asks = waits_asking waited.0 x.core.machine.standing at.standing waited.1 in
      let status = asking_status asks.0 asks.1 asks.2 in
      let same : status.0 ≡ waited.0 = let e : Waits status.0 ≡ Waits waited.0 = sym status.1 ∙ waited.1 in cc in
      fits_host a asks.0 asks.1 status.0 asks.2 status.2 (subst (λ (call : HostCall). IsTrue (answer_fits call s.run.memory a)) (sym same) waited.2)
