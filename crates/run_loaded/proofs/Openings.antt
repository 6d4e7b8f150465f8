-- What follows from an opening state.
use Rattle.std.proofs.Common.{◌≡◌, ℕ, Option, Some, None, Result, Ok, Err, refl, sym, ap, subst}
use Rattle.spec_hosts.specs.wasm_form.declared.module.Module.{Module}
use Rattle.spec_hosts.specs.wasm_form.declared.runtime.Trap.{Trap}
use Rattle.spec_hosts.specs.spec_runs.Systems.{Status, Moving}
use Rattle.spec_hosts.specs.spec_runtime.Names.{HostNames}
use Rattle.spec_hosts.specs.spec_runtime.Hosts.{HostCall}
use Rattle.spec_loading.specs.spec_execution.Instances.{ModuleParts}
use Rattle.spec_loading.specs.spec_execution.OneModule.{ModuleState, imports_met, opened_after, module_entry, segments_performed, opened_with, module_opening}
use Rattle.spec_loading.specs.spec_execution.Segments.{Performed}
use Rattle.spec_loading.specs.spec_execution.declared.fault.SingleFault.{SingleFault}
use Rattle.spec_loading.specs.spec_linking.LinkedSets.{LinkedSet}
use Rattle.wasm_single.specs.Starts.{opened}
use Rattle.wasm_single.specs.Singles as single
use Rattle.dyl_store.specs.Stores as store
use Rattle.run_loaded.specs.declared.loaded.Loaded.{Loaded}
use Rattle.run_loaded.specs.declared.loaded.Loaded.TheVariants as loaded
use Rattle.run_loaded.specs.Courses.{Origin, OfModule, OfSet, course_of}
use Rattle.run_loaded.specs.Programs.{IsOf}

-- an opening state is one whose imports are met
pub opening_parts : (m : Module) (names : HostNames) (opening : ModuleState) → module_opening m names ≡ Ok opening → (imports_met m names m.imports ≡ Ok tt) × (opened m ≡ Ok opening)
opening_parts m names opening opens = by (imports_met m names m.imports) refl opens
  where
    by : (met : Result (Unit {0}) SingleFault) → imports_met m names m.imports ≡ met → opened_after m met ≡ Ok opening → (imports_met m names m.imports ≡ Ok tt) × (opened m ≡ Ok opening)
    by (Ok u) e opens = (e, opens)
    by (Err fault) e opens = absurd cc

-- a module that was loaded is a run from its opening state
pub module_loaded : (m : Module) (names : HostNames) (opening : ModuleState) (s : single.SingleRun) → module_opening m names ≡ Ok opening → s ≡ single.new_run m → IsOf (loaded.Module s) (OfModule m opening)
module_loaded m names opening s opens new = (ap (λ (x : single.SingleRun). x.wasm) new, (opening_parts m names opening opens).1)

-- a set that was loaded is a run of it
pub set_loaded : (L : LinkedSet) (s : store.StoreRun) → s ≡ store.new_run L → IsOf (loaded.Set s) (OfSet L)
set_loaded L s new = ap (λ (x : store.StoreRun). x.linked) new

opened_moving : (m : Module) (opening : ModuleState) (entry : Option ℕ) (o : Option (Performed ModuleParts)) → opened_with m entry o ≡ Ok opening → opening.status ≡ Moving
opened_moving m opening None o e = absurd cc
opened_moving m opening (Some entry) None e = absurd cc
opened_moving m opening (Some entry) (Some p) e = go p.trap refl
  where
    status_of : Result ModuleState SingleFault → Status HostCall Trap
    status_of (Ok s) = s.status
    status_of (Err fault) = Moving

    go : (trap : Option Trap) → p.trap ≡ trap → opening.status ≡ Moving
    go None q = let is = rw q at e in sym (ap status_of is)
    go (Some why) q = let is = rw q at e in absurd cc

-- a program goes on by itself from its opening state
pub opening_moves : (p : Loaded) (o : Origin) → IsOf p o → (course_of o).system.status (course_of o).opening ≡ Moving
opening_moves (loaded.Module s) (OfModule m opening) of = opened_moving m opening (module_entry m) (segments_performed m) of.1
opening_moves (loaded.Module s) (OfSet L) of = absurd of
opening_moves (loaded.Set s) (OfModule m opening) of = absurd of
opening_moves (loaded.Set s) (OfSet L) of = refl
