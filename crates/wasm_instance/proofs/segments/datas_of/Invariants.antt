use Rattle.std.proofs.Common.{◌≡◌, ◌++◌, drop, map}
use Rattle.wasm_instance.proofs.segments.datas_of.Given as goal

abbrev pub invariant-loop-segment : goal.invariant-loop-segment
invariant-loop-segment l = map (λ x. x.now) l.all.items ++ map (λ d. d.bytes) (drop l.segment-index l.segments) ≡ map (λ d. d.bytes) l.segments
