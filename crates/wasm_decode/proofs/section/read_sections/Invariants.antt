use Rattle.std.proofs.Common.{length}
use Rattle.wasm_decode.specs.Sections.{progress_of}
use Rattle.wasm_decode.proofs.Chain.{Follows}
use Rattle.wasm_decode.proofs.section.read_sections.Given as goal

abbrev pub invariant-loop-rest : goal.invariant-loop-rest
invariant-loop-rest l = Follows (progress_of l.progress) l.count l.rest l.bytes

abbrev pub decreases-loop-rest : goal.decreases-loop-rest
decreases-loop-rest l = length l.rest
