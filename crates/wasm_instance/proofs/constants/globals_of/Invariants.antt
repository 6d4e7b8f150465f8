use Rattle.std.proofs.Common.{◌≡◌, ◌++◌, drop, map}
use Rattle.spec_safety.specs.spec_execution.Instances.{global_value}
use Rattle.wasm_instance.proofs.constants.globals_of.Given as goal

abbrev pub invariant-loop-g : goal.invariant-loop-g
invariant-loop-g l = l.values.items ++ map (global_value l.m) (drop l.g-index l.m.globals) ≡ map (global_value l.m) l.m.globals
