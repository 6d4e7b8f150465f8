-- An instance, as contracts see it.
-- Serves the contracts of this crate, which follow Instances of `spec_execution`.
use Rattle.wasm_form.specs.declared.module.Module.{Module}
use Rattle.spec_safety.specs.spec_runtime.Memories.{MemoryInstance}
use Rattle.spec_safety.specs.spec_execution.Instances.{ModuleParts, module_view}
use Rattle.wasm_view.specs.Seen.{Seen}

-- a module, what changes of it in a run, and its memory
pub record InstanceState : Type 0 where
  pub wasm : Module
  pub parts : ModuleParts
  pub memory : MemoryInstance

-- what a machine sees of it
abbrev pub seen_of : InstanceState → Seen ModuleParts
seen_of s = record { fixed = module_view s.wasm; units = s.parts; memory = s.memory }
