use Rattle.std.proofs.Common.{◌+◌, ◌*◌, take}
use Rattle.spec_reading.specs.spec_binary.Number.{IsShortest, Appends}
use Rattle.spec_reading.specs.spec_binary.Sequence.{SpellsEach}
use Rattle.spec_reading.specs.spec_binary.Instructions.{SpellsInstr}
use Rattle.wasm_form.specs.declared.instr.Instr.{If}
use Rattle.wasm_encode.proofs.Weights.{weight, weights}
use Rattle.wasm_encode.proofs.instr.+write.Given as goal

abbrev pub invariant-put_instrs-loop-instr : goal.invariant-put_instrs-loop-instr
invariant-put_instrs-loop-instr l = Appends (IsShortest (SpellsEach SpellsInstr (take l.instr-index l.instrs))) l.initial.to.items l.to.items

abbrev pub decreases-put_instr : goal.decreases-put_instr
decreases-put_instr l = 4 * weight l.instr.now + 3

abbrev pub decreases-put_if : goal.decreases-put_if
decreases-put_if l = 4 * weight (If l.ty l.body.now l.other.now) + 2

abbrev pub decreases-put_else : goal.decreases-put_else
decreases-put_else l = 4 * (weights l.body.now.list + weights l.other.now.list) + 1

abbrev pub decreases-put_block : goal.decreases-put_block
decreases-put_block l = 4 * weights l.body.now.list + 1

abbrev pub decreases-put_instrs : goal.decreases-put_instrs
decreases-put_instrs l = 4 * weights l.instrs.now
