use Rattle.std.proofs.Common.{◌≡◌, ◌++◌, drop, map}
use Rattle.spec_safety.specs.spec_execution.Instances.{segment_items}
use Rattle.spec_safety.specs.spec_execution.Segments.{opened_items}
use Rattle.wasm_instance.proofs.segments.elems_of.Given as goal

abbrev pub invariant-loop-segment : goal.invariant-loop-segment
invariant-loop-segment l = map (λ x. x.items) l.all.items ++ map (opened_items (segment_items l.m)) (drop l.segment-index l.m.elems) ≡ map (opened_items (segment_items l.m)) l.m.elems
