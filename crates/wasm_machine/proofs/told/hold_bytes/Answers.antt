use Rattle.std.proofs.Common.{subst, arith}
use Rattle.std.specs.List.{All}
use Rattle.std.proofs.lemmas.List.{take_all}
use Rattle.std.proofs.lemmas.List.Elements.{All-more}
use Rattle.wasm_form.specs.declared.module.Data.{Data}
use Rattle.spec_safety.specs.ValueTypes.{AreBytes}
use Rattle.wasm_machine.proofs.told.hold_bytes.Goals as goal

pub loop-data-preserved : goal.loop-data-preserved
loop-data-preserved c =
    let P : Data → Type 0 = λ d. AreBytes d.bytes in
    let bytes : AreBytes c.data-item.result.bytes = rw c.items.ensures at c.are_bytes.ensures in
    All-more P c.args.datas.now c.loop-data.data-index c.data-item.result c.loop-data-test.true c.loop-data.invariant (subst P c.data-item.is bytes)

pub returns : goal.returns
returns c = subst (All (λ (d : Data). AreBytes d.bytes)) (take_all c.loop-data.data-index c.args.datas.now (omega arith)) c.loop-data.invariant
