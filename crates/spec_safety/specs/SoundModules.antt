-- When a state of the run of one module is sound.
-- Part of the statement of laws: docs/LAWS.md, "Valid modules never get stuck".
use Rattle.std.specs.Prelude.{◌≡◌, ◌≢◌, ℕ, List, [], reverse, Some, IfSome, IsTrue}
use Rattle.std.specs.List.{All}
use Rattle.spec_execution.specs.spec_runs.Systems.{Status, Moving, Waits, Returned, Exited, Trapped}
use Rattle.spec_execution.specs.wasm_form.declared.runtime.Trap.{Trap}
use Rattle.spec_execution.specs.wasm_form.declared.module.Code.{Code}
use Rattle.spec_execution.specs.wasm_form.declared.module.Data.{Data}
use Rattle.spec_execution.specs.wasm_form.declared.module.GlobalDef.{GlobalDef}
use Rattle.spec_execution.specs.wasm_form.declared.module.Module.{Module}
use Rattle.spec_execution.specs.spec_binary.Indices.{function_type, nullary}
use Rattle.spec_execution.specs.spec_runtime.Hosts.{HostCall}
use Rattle.spec_execution.specs.Instances.{module_hosts, module_names, module_view}
use Rattle.spec_execution.specs.OneModule.{Starting, ModuleState}
use Rattle.spec_execution.specs.Runs.{Frame}
use Rattle.spec_safety.specs.ValueTypes.{AreArguments, constants_fit, AreBytes, IsMemory}
use Rattle.spec_safety.specs.TypedViews.{HoldTypes}
use Rattle.spec_safety.specs.TypedFrames.{OnMark, IsCalledOver, Stand}

-- its data segments are of bytes
abbrev pub HoldsBytes : Module → Type 0
HoldsBytes m = All (λ (d : Data). AreBytes d.bytes) m.datas

-- a function of the module without parameters and results
abbrev pub IsCalled : Module → ℕ → Type 0
IsCalled m f = function_type m f ≡ Some nullary

-- the constants of its code and of its globals are numbers of their types
pub record HoldsNumbers (m : Module) : Type 0 where
  pub codes : All (λ (c : Code). IsTrue (constants_fit c.body.list)) m.codes
  pub globals : All (λ (g : GlobalDef). IsTrue (constants_fit g.init.list)) m.globals

-- the calls that start the module stand at the bottom
pub record StartsOn (m : Module) (starting : Starting) (under : List (Frame Starting)) : Type 0 where
  pub start : IfSome starting.start (IsCalled m)
  pub entry : IsCalled m starting.entry
  pub bottom : under ≡ []

abbrev pub on_start : Module → OnMark Starting
on_start m starting under stands = StartsOn m starting under

-- A moving state has something on its call stack. A wait is for a host function that an entry names, with arguments of its type, and
-- stands on what takes its results.
abbrev pub StacksFit : Module → Status HostCall Trap → List (Frame Starting) → Type 0
StacksFit m Moving stack = (stack ≢ []) × Stand (module_view m) (module_names m) (on_start m) stack []
StacksFit m (Waits call) stack = (entry : ℕ) × (module_hosts m entry ≡ Some call.host) × AreArguments (module_view m) call.host.ty call.args
    × IsCalledOver stack call.host.ty × Stand (module_view m) (module_names m) (on_start m) stack (reverse call.host.ty.results)
StacksFit m Returned stack = Unit {0}
StacksFit m (Exited code) stack = Unit {0}
StacksFit m (Trapped why) stack = Unit {0}

pub record IsSound (m : Module) (s : ModuleState) : Type 0 where
  pub units : HoldTypes (module_view m) (module_names m) s.units
  pub memory : IsMemory s.memory
  pub stack : StacksFit m s.status s.stack
