use Rattle.std.proofs.Common.{◌≡◌, ◌++◌, drop, map}
use Rattle.spec_safety.specs.spec_execution.Instances.{constant_reference}
use Rattle.wasm_instance.proofs.segments.references.Given as goal

abbrev pub invariant-loop-e : goal.invariant-loop-e
invariant-loop-e l = l.all.items ++ map (constant_reference l.m) (drop l.e-index l.items) ≡ map (constant_reference l.m) l.items
