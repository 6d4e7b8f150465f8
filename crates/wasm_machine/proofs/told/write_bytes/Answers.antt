use Rattle.std.proofs.Common.{subst, arith}
use Rattle.std.specs.List.{All}
use Rattle.std.proofs.lemmas.List.{take_all}
use Rattle.std.proofs.lemmas.List.Elements.{All-more}
use Rattle.wasm_form.specs.declared.runtime.Write.{Write}
use Rattle.spec_safety.specs.ValueTypes.{AreBytes}
use Rattle.wasm_machine.proofs.told.write_bytes.Goals as goal

pub loop-write-preserved : goal.loop-write-preserved
loop-write-preserved c =
    let P : Write → Type 0 = λ w. AreBytes w.bytes in
    let bytes : AreBytes c.write-item.result.bytes = rw c.items.ensures at c.are_bytes.ensures in
    All-more P c.args.writes.now c.loop-write.write-index c.write-item.result c.loop-write-test.true c.loop-write.invariant (subst P c.write-item.is bytes)

pub returns : goal.returns
returns c = subst (All (λ (w : Write). AreBytes w.bytes)) (take_all c.loop-write.write-index c.args.writes.now (omega arith)) c.loop-write.invariant
