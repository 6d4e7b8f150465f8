-- A program that is loaded, as the run that it has.
use Rattle.std.proofs.Common.{◌≡◌, Ok, refl, sym, ap, ◌∙◌, subst}
use Rattle.std.specs.Borrow.{Bor}
use Rattle.spec_traces.specs.spec_hosts.wasm_form.declared.module.Module.{Module}
use Rattle.spec_traces.specs.spec_hosts.spec_runtime.Names.{HostNames}
use Rattle.spec_traces.specs.spec_execution.OneModule.{ModuleState, module_opening}
use Rattle.spec_loading.specs.spec_linking.LinkedSets.{LinkedSet}
use Rattle.wasm_single.specs.Singles as one
use Rattle.dyl_store.specs.Stores as store
use Rattle.run_loaded.specs.declared.loaded.Loaded.TheVariants as loaded
use Rattle.run_loaded.specs.Courses.{Origin, OfModule, OfSet}
use Rattle.run_loaded.specs.Programs.{IsOf}
use Rattle.run_loaded.proofs.Openings.{module_loaded, set_loaded}
use Rattle.replay_check.specs.declared.program.Program.TheVariants.{Set, One}
use Rattle.replay_check.specs.Checks.{IsOpened, Loads}

-- a set that was loaded
pub set_loads : (k : Bor LinkedSet) (s : store.StoreRun) → s ≡ store.new_run k.now → Loads (Set k) (Ok (loaded.Set s))
set_loads k s new = ((OfSet k.now, refl), runs, ap (λ (x : store.StoreRun). x.run) new)
  where
    runs : (o : Origin) → IsOpened (Set k) o → IsOf (loaded.Set s) o
    runs (OfModule m opening) of = absurd of
    runs (OfSet L) of = set_loaded k.now s new ∙ of

-- a module that was loaded
pub one_loads : (wasm : Bor Module) (names : Bor HostNames) (s : one.SingleRun) → s ≡ one.new_run wasm.now → (opening : ModuleState) × (module_opening wasm.now names.now ≡ Ok opening) → Loads (One wasm names) (Ok (loaded.Module s))
one_loads wasm names s new opens = ((OfModule wasm.now opens.0, (refl, opens.1)), runs, ap (λ (x : one.SingleRun). x.run) new)
  where
    runs : (o : Origin) → IsOpened (One wasm names) o → IsOf (loaded.Module s) o
    runs (OfModule m opening) of = subst (λ m. IsOf (loaded.Module s) (OfModule m opening)) (sym of.0) (module_loaded wasm.now names.now opening s of.1 new)
    runs (OfSet L) of = absurd of
