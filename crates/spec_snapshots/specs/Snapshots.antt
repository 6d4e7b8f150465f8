-- What it is that a module is a snapshot of a linked set after its start-up. None of it is about how the module is made.
-- This profile: docs/FORMATS.md, "The snapshot".
use Rattle.std.specs.Prelude.{◌≡◌, ◌≤◌, ℕ, [], ◌∷◌, Bool, true, false, map, IsTrue, None, Ok}
use Rattle.std.specs.List.{count_by}
use Rattle.spec_loading.specs.wasm_form.declared.types.Limits.{Limits}
use Rattle.spec_loading.specs.wasm_form.declared.module.DataMode.{DataMode}
use Rattle.spec_loading.specs.wasm_form.declared.module.DataMode.TheVariants.{Active, Passive}
use Rattle.spec_loading.specs.wasm_form.declared.module.Data.{Data}
use Rattle.spec_loading.specs.wasm_form.declared.module.Module.{Module}
use Rattle.spec_merging.specs.Exports.{entry_exports}
use Rattle.spec_loading.specs.spec_runs.Agreement.{Agree}
use Rattle.spec_loading.specs.spec_validation.Faults.{fault}
use Rattle.spec_loading.specs.spec_runtime.Memories.{MemoryInstance, pages}
use Rattle.spec_loading.specs.spec_execution.OneModule.{ModuleState, module_system, module_opening}
use Rattle.spec_loading.specs.spec_safety.Laws.{imports_functions}
use Rattle.spec_loading.specs.spec_linking.LinkedSets.{LinkedSet}
use Rattle.spec_loading.specs.LoadedSet.{SetState, set_system, set_opening}

-- ---- its form

-- whether a data segment writes the memory when the module is opened
abbrev pub writes_memory : DataMode → Bool
writes_memory (Active memory offset) = true
writes_memory Passive = false

abbrev pub least_pages : Limits → ℕ
least_pages l = l.min

-- The module imports functions alone, and exports its entry and the memory, and nothing else. It has no start function and no custom section; its
-- one memory begins with the pages of this one; and at most 65,536 segments write the memory, since long runs of zeros are left out.
pub record HasSnapshotForm (memory : MemoryInstance) (wasm : Module) : Type 0 where
  pub imports : IsTrue (imports_functions wasm)
  pub entry : ℕ
  pub exports : wasm.exports ≡ entry_exports entry
  pub start : wasm.start ≡ None
  pub customs : wasm.customs ≡ []
  pub size : map least_pages wasm.memories ≡ pages memory ∷ []
  pub few : count_by (λ (d : Data). writes_memory d.mode) wasm.datas ≤ 65536

-- ---- what it does

-- A module is a snapshot of a linked set in a state of its start-up: it is valid, it opens under the host names of the set, and its run agrees with
-- that of the set. It opens with the memory of the state, and has this form.
pub record IsSnapshotOf (L : LinkedSet) (s : SetState) (wasm : Module) : Type 0 where
  pub valid : fault wasm ≡ None
  pub opening : ModuleState
  pub opens : module_opening wasm L.names ≡ Ok opening
  pub agrees : Agree (set_system L) (module_system wasm) (set_opening L) opening
  pub memory : opening.memory ≡ s.run.memory
  pub form : HasSnapshotForm s.run.memory wasm
