-- A module with its host functions in its run, as the recorder sees it.
-- Serves the contracts of this crate, which follow OneModule of `spec_execution`.
use Rattle.std.specs.Prelude.{◌≡◌, map, Ok, true}
use Rattle.wasm_form.specs.declared.module.Module.{Module}
use Rattle.spec_safety.specs.spec_execution.Runs.{is_running}
use Rattle.spec_safety.specs.spec_execution.Instances.{imported_hosts}
use Rattle.spec_safety.specs.spec_execution.OneModule.{ModuleState}
use Rattle.host_table.specs.Names.{host_name_of}
use Rattle.wasm_recorder.specs.Bares.{Bares}
use Rattle.wasm_single.specs.declared.module_run.ModuleRun.{ModuleRun}
use Rattle.wasm_single.specs.Starts.{opened}
use Rattle.wasm_single.specs.Singles.{module_course, MayWant}
use Rattle.wasm_single.specs.Cores.{IsCore, IsState}

abbrev pub module_runs : Bares ModuleRun Module
module_runs = record {
  Origin = ModuleState;
  IsOf = λ m opening. opened m ≡ Ok opening;
  course = module_course;
  IsCode = λ m opening s. is_running s.stack ≡ true;
  HasCode = λ m opening s. Unit {0};
  MayWant = λ m opening s. MayWant s;
  hosts = λ m. imported_hosts m m.imports;
  key = λ b. b.core.checked.now;
  standing = λ b. b.core.machine.standing;
  IsState = λ b m opening s. IsState b.core s;
  IsSound = λ b. IsCore b.core;
  IsWhole = λ b. map host_name_of b.hosts.items ≡ imported_hosts b.core.checked.now b.core.checked.now.imports;
}
