-- A run that has made no step.
use Rattle.std.proofs.Common.{◌≡◌, ℕ, [], None, Ok, inl, refl, sym, subst, arith}
use Rattle.spec_hosts.specs.wasm_form.declared.module.Module.{Module}
use Rattle.spec_hosts.specs.spec_runtime.Names.{HostNames}
use Rattle.spec_loading.specs.spec_execution.OneModule.{ModuleState, module_opening}
use Rattle.spec_loading.specs.spec_execution.declared.fault.SingleFault.{SingleFault}
use Rattle.spec_loading.specs.spec_execution.declared.fault.SingleFault.TheVariants as fault
use Rattle.spec_hosts.specs.Devices.{Devices}
use Rattle.spec_hosts.specs.Hosted.{Embedder}
use Rattle.spec_hosts.specs.Ends.{IsCutShort}
use Rattle.wasm_single.specs.Starts.{IsTold}
use Rattle.wasm_single.specs.Singles.{SingleRun, new_run}
use Rattle.wasm_exec.specs.declared.driver.Driver.{Driver}
use Rattle.run_loaded.specs.declared.loaded.Loaded.{Loaded}
use Rattle.run_loaded.specs.declared.loaded.Loaded.TheVariants as loaded
use Rattle.spec_hosts.specs.spec_runtime.Courses.{Course, no_steps}
use Rattle.run_loaded.specs.Courses.{Origin, OfModule, course_of}
use Rattle.run_loaded.specs.Programs.{recorded_of, IsOf}
use Rattle.wasm_exec.specs.Driving.{Progress, IsDriven, progress_of, Drives, Begins, Opens}
use Rattle.dyl_link.specs.host_table.Names.{HaveIntegers}
use Rattle.wasm_exec.specs.Executed.{IsRefused}
use Rattle.run_loaded.proofs.Openings.{module_loaded, opening_moves}
use Rattle.wasm_exec.proofs.Openings.{are_declared}
use Rattle.wasm_exec.proofs.Proceeding.{cut_here}

-- ---- whatever it is that is run

abbrev no_progress : Progress
no_progress = record { run = no_steps; asked = None; written = 0 }

new_driven : (C : Course) (embedder : Embedder) (begun : Devices) → Begins C embedder.names → IsDriven C embedder no_progress begun begun
new_driven C embedder begun begins = record {
  running = record {
    declared = begins.declared;
    stands = record { found = refl; run = refl; real = tt; left = refl };
    taken = refl;
    asks = rw begins.moving tt;
    free = λ k lt. absurd (omega arith);
    written = refl;
  };
  hosted = ([], refl, refl);
}

-- a driver of a program that was opened drives it from there
pub begins_driven : (embedder : Embedder) (o : Origin) (p : Loaded) (d : Driver) (begun : Devices) → Opens o embedder.names p → recorded_of p ≡ no_steps
    → progress_of d ≡ record { run = recorded_of p; asked = None; written = 0 } → d.program ≡ p → Drives embedder o d begun begun
begins_driven embedder o p d begun opens fresh progress same = (
  subst (λ x. IsOf x o) (sym same) opens.0,
  rw (progress, fresh) (new_driven (course_of o) embedder begun opens.1),
)

-- memory was wanting before it began
pub not_begun : (C : Course) (embedder : Embedder) (begun : Devices) (most : ℕ) → Begins C embedder.names → IsCutShort C.system C.deep embedder C.opening most begun begun
not_begun C embedder begun most begins = cut_here (new_driven C embedder begun begins) most (omega arith)

-- ---- one module

-- a module that was loaded begins at its opening state
pub module_opens : (names : HostNames) (m : Module) (opening : ModuleState) (s : SingleRun) → HaveIntegers names → module_opening m names ≡ Ok opening → s ≡ new_run m → Opens (OfModule m opening) names (loaded.Module s)
module_opens names m opening s integers opens new =
    let of = module_loaded m names opening s opens new in
    (of, record { declared = are_declared m names integers opening opens; moving = opening_moves (loaded.Module s) (OfModule m opening) of })

-- a module is refused before anything is done
pub refuses : (m : Module) (embedder : Embedder) (most : ℕ) (why : SingleFault) (d : Devices) → IsTold (module_opening m embedder.names) why → IsRefused m embedder most why d d
refuses m embedder most fault.Memory d told = inl refl
refuses m embedder most fault.NoEntry d told = (told, refl)
refuses m embedder most (fault.HostImport from name) d told = (told, refl)
refuses m embedder most (fault.HostType from name) d told = (told, refl)
refuses m embedder most fault.SegmentTrap d told = (told, refl)
