use Rattle.std.proofs.Common.{take}
use Rattle.spec_reading.specs.spec_binary.Number.{IsShortest, Appends}
use Rattle.spec_reading.specs.spec_binary.Sequence.{SpellsEach}
use Rattle.wasm_encode.proofs.part.put_each.Given as goal

abbrev pub invariant-loop-item : goal.invariant-loop-item
invariant-loop-item g l = Appends (IsShortest (SpellsEach g.T.Part.spells (take l.item-index l.items))) l.initial.to.items l.to.items
