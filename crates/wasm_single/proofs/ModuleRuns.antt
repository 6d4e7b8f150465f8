-- What the recorder asks of the run of a module.
use Rattle.std.proofs.Common.{◌≡◌, ℕ, Some, Result, Ok, Err, true, false, refl, subst, inl, inr}
use Rattle.std.specs.Result.{OnErr}
use Rattle.wasm_form.specs.declared.module.Module.{Module}
use Rattle.spec_safety.specs.spec_execution.Instances.{module_hosts}
use Rattle.spec_safety.specs.spec_execution.OneModule.{ModuleState, module_step, module_too_deep}
use Rattle.wasm_step.specs.declared.done.Done.{Done}
use Rattle.wasm_step.specs.declared.done.Done.TheVariants as done
use Rattle.wasm_machine.specs.declared.event.Event.{Event}
use Rattle.wasm_machine.specs.declared.event.Event.TheVariants as event
use Rattle.wasm_machine.specs.Iterated.{Iterated}
use Rattle.wasm_machine.specs.Steps.{TellsStatus}
use Rattle.wasm_machine.proofs.Stepping.{iterated_wider}
use Rattle.wasm_recorder.specs.Runs as recorded
use Rattle.wasm_single.specs.declared.module_run.ModuleRun.{ModuleRun}
use Rattle.wasm_single.specs.Cores.{IsState, Steps, CodeStep, StopsAt, RunsTo}
use Rattle.wasm_single.specs.ModuleRuns.{module_runs}

module _ (m : Module) (new : ModuleRun) (same : new.core.checked.now ≡ m) (opening s : ModuleState) where
  makes : (e : Event) → (module_too_deep new.core.checked.now s ≡ false) × ((t : ModuleState) × (module_step new.core.checked.now s ≡ Some t) × TellsStatus (module_hosts new.core.checked.now) e t.status × IsState new.core t)
      → recorded.Makes module_runs m opening e s new
  makes e h = subst (λ w. (module_too_deep w s ≡ false) × ((t : ModuleState) × (module_step w s ≡ Some t) × TellsStatus (module_hosts w) e t.status × IsState new.core t)) same h

  pub steps_so : (e : Event) → Steps e s new.core → recorded.Steps module_runs m opening e s new
  steps_so event.Deep h = (subst (λ w. module_too_deep w s ≡ true) same h.0, h.2)
  steps_so event.Moved h = makes event.Moved h
  steps_so (event.Waits asked) h = makes (event.Waits asked) h
  steps_so (event.Loader which first second) h = makes (event.Loader which first second) h
  steps_so (event.Marked tag) h = makes (event.Marked tag) h
  steps_so event.Returned h = makes event.Returned h
  steps_so (event.Trapped why) h = makes (event.Trapped why) h
  steps_so (event.Exited code) h = makes (event.Exited code) h

  left_so : IsState new.core s → (recorded.IsCodeNext module_runs new.core.checked.now opening s → ⊥) → IsState new.core s × (recorded.IsCodeNext module_runs m opening s → ⊥)
  left_so is none = (is, subst (λ w. recorded.IsCodeNext module_runs w opening s → ⊥) same none)

  pub stops_so : (d : Done) → StopsAt d s new.core → recorded.StopsAt module_runs m opening d s new
  stops_so done.Goes (inl h) = h.2
  stops_so done.Goes (inr h) = absurd (h.0 refl)
  stops_so done.Returned (inl h) = absurd (let clash = h.0 in cc)
  stops_so done.Returned (inr h) = (tt, makes event.Returned h.1)
  stops_so (done.Trapped why) (inl h) = absurd (let clash = h.0 in cc)
  stops_so (done.Trapped why) (inr h) = (tt, makes (event.Trapped why) h.1)
  stops_so done.Exited (inl h) = absurd (let clash = h.0 in cc)
  stops_so done.Exited (inr h) = h.1
  stops_so done.NoMemory (inl h) = absurd (let clash = h.0 in cc)
  stops_so done.NoMemory (inr h) = h.1
  stops_so done.Marked (inl h) = absurd (let clash = h.0 in cc)
  stops_so done.Marked (inr h) = left_so h.1.1 h.1.2
  stops_so done.Deep (inl h) = absurd (let clash = h.0 in cc)
  stops_so done.Deep (inr h) = left_so h.1.1 h.1.2
  stops_so done.Outside (inl h) = absurd (let clash = h.0 in cc)
  stops_so done.Outside (inr h) = left_so h.1.1 h.1.2

-- so many steps of code, and what one more comes to
pub runs_so : (m : Module) (new : ModuleRun) → new.core.checked.now ≡ m → (opening s : ModuleState) (n : ℕ) (d : Done) → RunsTo n d s new.core
    → (u : ModuleState) × Iterated (recorded.CodeStep module_runs m opening) n s u × recorded.StopsAt module_runs m opening d u new
runs_so m new same opening s n d h = (
  h.0,
  iterated_wider (CodeStep m) (recorded.CodeStep module_runs m opening) (λ x y q. (tt, q.0, q.1, q.2)) n s h.0 (subst (λ w. Iterated (CodeStep w) n s h.0) same h.1),
  stops_so m new same opening h.0 d h.2,
)

-- what is so is so on Err
pub on_err : {T E : Type 0} (r : Result T E) (P : Type 0) → P → OnErr r P
on_err (Ok x) P p = tt
on_err (Err e) P p = p
