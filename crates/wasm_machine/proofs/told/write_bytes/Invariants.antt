use Rattle.std.proofs.Common.{take}
use Rattle.std.specs.List.{All}
use Rattle.wasm_form.specs.declared.runtime.Write.{Write}
use Rattle.spec_safety.specs.ValueTypes.{AreBytes}
use Rattle.wasm_machine.proofs.told.write_bytes.Given as goal

abbrev pub invariant-loop-write : goal.invariant-loop-write
invariant-loop-write l = All (λ (w : Write). AreBytes w.bytes) (take l.write-index l.writes)
