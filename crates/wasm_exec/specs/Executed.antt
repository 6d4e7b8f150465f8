-- What came of running a module, or a linked set.
-- This profile: docs/FORMATS.md, "Runs".
use Rattle.std.specs.Prelude.{◌≡◌, ◌⊎◌, ℕ, Result, Ok, Err, IfOk}
use Rattle.spec_hosts.specs.wasm_form.declared.memory.Memory.{Memory}
use Rattle.spec_hosts.specs.wasm_form.declared.module.Module.{Module}
use Rattle.spec_hosts.specs.spec_runtime.Names.{HostNames}
use Rattle.spec_loading.specs.spec_execution.declared.fault.SingleFault.{SingleFault}
use Rattle.spec_loading.specs.spec_execution.declared.fault.SingleFault.TheVariants as fault
use Rattle.spec_loading.specs.spec_execution.OneModule.{ModuleState, module_opening, module_system, module_too_deep}
use Rattle.spec_loading.specs.spec_linking.LinkedSets.{LinkedSet}
use Rattle.spec_loading.specs.Loading.{loaded_too_deep}
use Rattle.spec_loading.specs.LoadedSet.{set_loading, set_system, set_opening}
use Rattle.wasm_single.specs.Singles.{module_course}
use Rattle.dyl_store.specs.Stores.{set_course}
use Rattle.spec_hosts.specs.declared.ran.Ran.{Ran}
use Rattle.spec_hosts.specs.Devices.{Devices}
use Rattle.spec_hosts.specs.Hosted.{Embedder}
use Rattle.spec_hosts.specs.Ends.{IsRunOf, IsCutShort}
use Rattle.run_loaded.specs.Courses.{TakesAll}

-- what came of a run of one module
abbrev pub IsModuleRun : Module → Embedder → ModuleState → ℕ → Ran → Devices → Devices → Type 0
IsModuleRun m embedder opening most r begun now = IsRunOf (module_system m) (module_too_deep m) embedder opening most r begun now

-- a run of one module in which memory was wanting
abbrev pub IsModuleCut : Module → Embedder → ModuleState → ℕ → Devices → Devices → Type 0
IsModuleCut m embedder opening most begun now = IsCutShort (module_system m) (module_too_deep m) embedder opening most begun now

-- It has no opening state for this cause, and nothing was done; or memory was wanting, before a run began or in it.
abbrev pub IsRefused : Module → Embedder → ℕ → SingleFault → Devices → Devices → Type 0
IsRefused m embedder most fault.Memory begun now =
    (now ≡ begun) ⊎ ((opening : ModuleState) × (module_opening m embedder.names ≡ Ok opening) × IsModuleCut m embedder opening most begun now)
IsRefused m embedder most why begun now = (module_opening m embedder.names ≡ Err why) × (now ≡ begun)

-- What came of a module: it was run from its opening state, or it is refused.
abbrev pub Executes : Module → Embedder → ℕ → Result Ran SingleFault → Devices → Devices → Type 0
Executes m embedder most (Ok r) begun now = (opening : ModuleState) × (module_opening m embedder.names ≡ Ok opening) × IsModuleRun m embedder opening most r begun now
Executes m embedder most (Err why) begun now = IsRefused m embedder most why begun now

-- all answers of a run of a module were taken
abbrev pub ModuleTakesAll : Module → HostNames → Result Ran SingleFault → Type 0
ModuleTakesAll m names result = IfOk result (λ r. (opening : ModuleState) → module_opening m names ≡ Ok opening → TakesAll (module_course m opening) r)

-- ---- a linked set

-- what came of a run of a linked set
abbrev pub IsSetRun : LinkedSet → Embedder → ℕ → Ran → Devices → Devices → Type 0
IsSetRun L embedder most r begun now = IsRunOf (set_system L) (loaded_too_deep (set_loading L)) embedder (set_opening L) most r begun now

-- a run of a linked set in which memory was wanting
abbrev pub IsSetCut : LinkedSet → Embedder → ℕ → Devices → Devices → Type 0
IsSetCut L embedder most begun now = IsCutShort (set_system L) (loaded_too_deep (set_loading L)) embedder (set_opening L) most begun now

-- What came of a linked set: it was run from its opening state, or memory was wanting, before its first step or in its run.
abbrev pub ExecutesSet : LinkedSet → Embedder → ℕ → Result Ran Memory → Devices → Devices → Type 0
ExecutesSet L embedder most (Ok r) begun now = IsSetRun L embedder most r begun now
ExecutesSet L embedder most (Err why) begun now = IsSetCut L embedder most begun now

-- all answers of a run of it were taken
abbrev pub SetTakesAll : LinkedSet → Result Ran Memory → Type 0
SetTakesAll L result = IfOk result (λ r. TakesAll (set_course L) r)
