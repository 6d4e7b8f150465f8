use Rattle.std.proofs.Common.{◌≡◌, ◌++◌, drop, map}
use Rattle.dyl_store.proofs.contents.put_datas.Given as goal

abbrev pub invariant-loop-segment : goal.invariant-loop-segment
invariant-loop-segment l = map (λ d. d.now) l.to.items ++ map (λ d. d.bytes) (drop l.segment-index l.segments) ≡ map (λ d. d.now) l.fn.to.items ++ map (λ d. d.bytes) l.segments
