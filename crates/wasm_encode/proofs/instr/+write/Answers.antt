use Rattle.std.proofs.Common.{rules, arith, SFits, w32, w64, subst, ap, sym, ◌∙◌}
use Rattle.std.proofs.lemmas.Int.{to_z-of_z}
use Rattle.wasm_form.specs.declared.instr.Instr.{If}
use Rattle.spec_reading.specs.spec_binary.Number.{SpellsSigned, IsShortest, Appends}
use Rattle.std.specs.Prelude.{IsTrue}
use Rattle.spec_reading.specs.spec_binary.Instructions.{SpellsInstr}
use Rattle.spec_reading.specs.spec_binary.Trees.{every}
use Rattle.spec_reading.specs.spec_binary.WellFormed.{has_form}
use Rattle.spec_reading.specs.spec_binary.Joined.{IsByte, Joined}
use Rattle.spec_reading.proofs.of_spec_binary.Joined.{on_ok, each_started, each_next, each_ended}
use Rattle.wasm_encode.proofs.Forms.{plain_formed, index_formed, access_formed, block_formed, loop_formed, if_formed, else_formed, labels_formed, select_formed, null_formed, prefixed_formed, one_formed}
use Rattle.wasm_encode.proofs.Weights.{weight, weights, weight-Block, weight-Loop, weight-If-alone, weight-If-else, one_weight}
use Rattle.wasm_encode.proofs.Instructions.{body_written, bodies_written, plain_written, index_written, access_written, block_written, loop_written, if_written, else_written, labels_written, indirect_written, select_written, size_written, grow_written, i32_written, i64_written, f32_written, f64_written, null_written, prefixed_written, instrs_written}
use Rattle.wasm_encode.proofs.instr.+write.Goals as goal

pub put_block-returns-clause-ok : goal.put_block-returns-clause-ok
put_block-returns-clause-ok t c =
    let each = rw c.items.ensures at c.in_ok-put_instrs.ensures.ok in
    body_written c.args.opcode c.args.ty c.args.body.now _ c.push.new.self.items c.put_block_type.new.to.items c.put_instrs.new.to.items _ c.in_ok-push.ensures.items c.in_ok-put_block_type.ensures each c.in_ok-push-2.ensures.items

pub put_else-returns-clause-ok : goal.put_else-returns-clause-ok
put_else-returns-clause-ok t c =
    let first = rw c.items.ensures at c.in_ok-put_instrs.ensures.ok in
    let second = rw c.items-2.ensures at c.in_ok-put_instrs-2.ensures.ok in
    bodies_written c.args.ty c.args.body.now c.args.other.now _ c.push.new.self.items c.put_block_type.new.to.items c.put_instrs.new.to.items c.push-2.new.self.items c.put_instrs-2.new.to.items _
    c.in_ok-push.ensures.items c.in_ok-put_block_type.ensures first c.in_ok-push-2.ensures.items second c.in_ok-push-3.ensures.items

pub put_else-put_instrs-requires-2 : goal.put_else-put_instrs-requires-2
put_else-put_instrs-requires-2 t c =
    let weighs = ap weights c.items-2.ensures in
    (omega arith, rw c.items-2.ensures c.requires.other)

pub put_instr-put_block-requires : goal.put_instr-put_block-requires
put_instr-put_block-requires t c =
    let weighs = ap weight c.in-Block.is ∙ weight-Block c.in-Block.ty c.in-Block.body in
    (omega arith, block_formed c.args.instr.now c.requires.formed c.in-Block.ty c.in-Block.body c.in-Block.is)

pub put_instr-put_block-requires-in-Loop : goal.put_instr-put_block-requires-in-Loop
put_instr-put_block-requires-in-Loop t c =
    let weighs = ap weight c.in-Loop.is ∙ weight-Loop c.in-Loop.ty c.in-Loop.body in
    (omega arith, loop_formed c.args.instr.now c.requires.formed c.in-Loop.ty c.in-Loop.body c.in-Loop.is)

pub put_if-put_block-requires : goal.put_if-put_block-requires
put_if-put_block-requires t c =
    let weighs = ap (λ o. weight (If c.args.ty c.args.body.now o)) c.in-None.is ∙ weight-If-alone c.args.ty c.args.body.now in
    (omega arith, if_formed _ c.requires.formed c.args.ty c.args.body.now (ap (If c.args.ty c.args.body.now) c.in-None.is))

pub put_if-put_else-requires : goal.put_if-put_else-requires
put_if-put_else-requires t c =
    let weighs = ap (λ o. weight (If c.args.ty c.args.body.now o)) c.in-Some.is ∙ weight-If-else c.args.ty c.args.body.now c.in-Some.other in
    (omega arith, else_formed _ c.requires.formed c.args.ty c.args.body.now c.in-Some.other (ap (If c.args.ty c.args.body.now) c.in-Some.is))

pub put_instr-put_labels-requires : goal.put_instr-put_labels-requires
put_instr-put_labels-requires t c = rw c.items.ensures (labels_formed c.args.instr.now c.requires.formed c.in-BrTable.labels c.in-BrTable.last c.in-BrTable.is)

pub put_instr-put_select-requires : goal.put_instr-put_select-requires
put_instr-put_select-requires t c = rw c.items-in-Select.ensures (select_formed c.args.instr.now c.requires.formed c.in-Select.types c.in-Select.is)

pub put_instr-put_null-requires : goal.put_instr-put_null-requires
put_instr-put_null-requires t c = null_formed c.args.instr.now c.requires.formed c.in-RefNull.ty c.in-RefNull.is

pub put_instr-put_prefixed-requires : goal.put_instr-put_prefixed-requires
put_instr-put_prefixed-requires t c = prefixed_formed c.args.instr.now c.requires.formed c.in-Prefixed.op c.in-Prefixed.a c.in-Prefixed.b c.in-Prefixed.is

pub put_instrs-put_instr-requires : goal.put_instrs-put_instr-requires
put_instrs-put_instr-requires t c =
    let weighs = one_weight c.args.instrs.now c.loop-instr.instr-index c.instr-item.result c.loop-instr-test.true c.instr-item.is in
    (omega arith, one_formed c.args.instrs.now c.loop-instr.instr-index c.instr-item.result c.loop-instr-test.true c.instr-item.is c.requires.formed)

pub put_instr-returns-in_ok-push-in-Plain-clause-ok : goal.put_instr-returns-in_ok-push-in-Plain-clause-ok
put_instr-returns-in_ok-push-in-Plain-clause-ok t c = plain_written c.args.instr.now _ _ c.in-Plain.op c.in-Plain.is (plain_formed c.args.instr.now c.requires.formed c.in-Plain.op c.in-Plain.is) c.in_ok-push-in-Plain.ensures.items

pub put_instr-returns-in_ok-put_numbered-in-Index-clause-ok : goal.put_instr-returns-in_ok-put_numbered-in-Index-clause-ok
put_instr-returns-in_ok-put_numbered-in-Index-clause-ok t c = index_written c.args.instr.now _ _ c.in-Index.op c.in-Index.number c.in-Index.is (index_formed c.args.instr.now c.requires.formed c.in-Index.op c.in-Index.number c.in-Index.is) c.in_ok-put_numbered-in-Index.ensures

pub put_instr-returns-in-Block-clause-ok : goal.put_instr-returns-in-Block-clause-ok
put_instr-returns-in-Block-clause-ok t c = on_ok c.put_block.result (block_written c.args.instr.now _ _ c.in-Block.ty c.in-Block.body c.in-Block.is) c.put_block.ensures.ok

pub put_instr-returns-in-Loop-clause-ok : goal.put_instr-returns-in-Loop-clause-ok
put_instr-returns-in-Loop-clause-ok t c = on_ok c.put_block-in-Loop.result (loop_written c.args.instr.now _ _ c.in-Loop.ty c.in-Loop.body c.in-Loop.is) c.put_block-in-Loop.ensures.ok

pub put_if-returns-in-None-clause-ok : goal.put_if-returns-in-None-clause-ok
put_if-returns-in-None-clause-ok t c = on_ok c.put_block.result (if_written _ _ _ c.args.ty c.args.body.now (ap (If c.args.ty c.args.body.now) c.in-None.is)) c.put_block.ensures.ok

pub put_if-returns-in-Some-clause-ok : goal.put_if-returns-in-Some-clause-ok
put_if-returns-in-Some-clause-ok t c = on_ok c.put_else.result (else_written _ _ _ c.args.ty c.args.body.now c.in-Some.other (ap (If c.args.ty c.args.body.now) c.in-Some.is)) c.put_else.ensures.ok

pub put_instr-returns-in-BrTable-clause-ok : goal.put_instr-returns-in-BrTable-clause-ok
put_instr-returns-in-BrTable-clause-ok t c =
    let written = rw c.items.ensures at c.put_labels.ensures.ok in
    on_ok c.put_labels.result (labels_written c.args.instr.now _ _ c.in-BrTable.labels c.in-BrTable.last c.in-BrTable.is) written

pub put_instr-returns-in_ok-put_pair-in-CallIndirect-clause-ok : goal.put_instr-returns-in_ok-put_pair-in-CallIndirect-clause-ok
put_instr-returns-in_ok-put_pair-in-CallIndirect-clause-ok t c = indirect_written c.args.instr.now _ _ c.in-CallIndirect.ty c.in-CallIndirect.table c.in-CallIndirect.is c.in_ok-put_pair-in-CallIndirect.ensures

pub put_instr-returns-in-Select-clause-ok : goal.put_instr-returns-in-Select-clause-ok
put_instr-returns-in-Select-clause-ok t c =
    let written = rw c.items-in-Select.ensures at c.put_select.ensures.ok in
    on_ok c.put_select.result (select_written c.args.instr.now _ _ c.in-Select.types c.in-Select.is) written

pub put_instr-returns-in_ok-put_pair-in-Access-clause-ok : goal.put_instr-returns-in_ok-put_pair-in-Access-clause-ok
put_instr-returns-in_ok-put_pair-in-Access-clause-ok t c =
    access_written c.args.instr.now _ _ c.in-Access.op c.in-Access.align c.in-Access.offset c.in-Access.is
    (access_formed c.args.instr.now c.requires.formed c.in-Access.op c.in-Access.align c.in-Access.offset c.in-Access.is) c.in_ok-put_pair-in-Access.ensures

pub put_instr-returns-in_ok-put_memory_byte-in-MemorySize-clause-ok : goal.put_instr-returns-in_ok-put_memory_byte-in-MemorySize-clause-ok
put_instr-returns-in_ok-put_memory_byte-in-MemorySize-clause-ok t c = size_written c.args.instr.now _ _ c.in-MemorySize.is c.in_ok-put_memory_byte-in-MemorySize.ensures

pub put_instr-returns-in_ok-put_memory_byte-in-MemoryGrow-clause-ok : goal.put_instr-returns-in_ok-put_memory_byte-in-MemoryGrow-clause-ok
put_instr-returns-in_ok-put_memory_byte-in-MemoryGrow-clause-ok t c = grow_written c.args.instr.now _ _ c.in-MemoryGrow.is c.in_ok-put_memory_byte-in-MemoryGrow.ensures

pub put_instr-returns-in_ok-put_i32-in-I32Const-clause-ok : goal.put_instr-returns-in_ok-put_i32-in-I32Const-clause-ok
put_instr-returns-in_ok-put_i32-in-I32Const-clause-ok t c =
    let fits : SFits w32 c.in-I32Const.number = search rules in
    let same = to_z-of_z w32 c.in-I32Const.number fits in
    i32_written c.args.instr.now _ _ c.in-I32Const.number c.in-I32Const.is
    (subst (λ z. Appends (IsShortest (Joined (IsByte 0x41) (SpellsSigned 32 z))) c.args.to.now.items c.put_i32.new.to.items) same c.in_ok-put_i32-in-I32Const.ensures)

pub put_instr-returns-in_ok-put_i64-in-I64Const-clause-ok : goal.put_instr-returns-in_ok-put_i64-in-I64Const-clause-ok
put_instr-returns-in_ok-put_i64-in-I64Const-clause-ok t c =
    let fits : SFits w64 c.in-I64Const.number = search rules in
    let same = to_z-of_z w64 c.in-I64Const.number fits in
    i64_written c.args.instr.now _ _ c.in-I64Const.number c.in-I64Const.is
    (subst (λ z. Appends (IsShortest (Joined (IsByte 0x42) (SpellsSigned 64 z))) c.args.to.now.items c.put_i64.new.to.items) same c.in_ok-put_i64-in-I64Const.ensures)

pub put_instr-returns-in_ok-put_f32-in-F32Const-clause-ok : goal.put_instr-returns-in_ok-put_f32-in-F32Const-clause-ok
put_instr-returns-in_ok-put_f32-in-F32Const-clause-ok t c = f32_written c.args.instr.now _ _ c.in-F32Const.bits c.in-F32Const.is c.in_ok-put_f32-in-F32Const.ensures

pub put_instr-returns-in_ok-put_f64-in-F64Const-clause-ok : goal.put_instr-returns-in_ok-put_f64-in-F64Const-clause-ok
put_instr-returns-in_ok-put_f64-in-F64Const-clause-ok t c = f64_written c.args.instr.now _ _ c.in-F64Const.bits c.in-F64Const.is c.in_ok-put_f64-in-F64Const.ensures

pub put_instr-returns-in_ok-put_null-in-RefNull-clause-ok : goal.put_instr-returns-in_ok-put_null-in-RefNull-clause-ok
put_instr-returns-in_ok-put_null-in-RefNull-clause-ok t c = null_written c.args.instr.now _ _ c.in-RefNull.ty c.in-RefNull.is c.in_ok-put_null-in-RefNull.ensures

pub put_instr-returns-in_ok-put_prefixed-in-Prefixed-clause-ok : goal.put_instr-returns-in_ok-put_prefixed-in-Prefixed-clause-ok
put_instr-returns-in_ok-put_prefixed-in-Prefixed-clause-ok t c = prefixed_written c.args.instr.now _ _ c.in-Prefixed.op c.in-Prefixed.a c.in-Prefixed.b c.in-Prefixed.is c.in_ok-put_prefixed-in-Prefixed.ensures

pub put_instrs-loop-instr-init : goal.put_instrs-loop-instr-init
put_instrs-loop-instr-init t c = each_started c.args.to.now.items

pub put_instrs-loop-instr-preserved : goal.put_instrs-loop-instr-preserved
put_instrs-loop-instr-preserved t c = each_next c.args.instrs.now c.instr-item.result c.loop-instr.instr-index _ _ _ c.loop-instr-test.true c.instr-item.is c.loop-instr.invariant c.in_ok-put_instr.ensures.ok

pub put_instrs-returns-clause-ok : goal.put_instrs-returns-clause-ok
put_instrs-returns-clause-ok t c = instrs_written c.args.instrs.now _ _ (each_ended c.args.instrs.now c.loop-instr.instr-index _ _ c.loop-instr-test.false c.loop-instr.invariant)

pub put_instr-returns-in-If-clause-ok : goal.put_instr-returns-in-If-clause-ok
put_instr-returns-in-If-clause-ok t c =
    on_ok c.put_if.result (λ p. subst (λ i. Appends (IsShortest (SpellsInstr i)) c.args.to.now.items c.put_if.new.to.items) (sym c.in-If.is) p) c.put_if.ensures.ok

pub put_instr-put_if-requires : goal.put_instr-put_if-requires
put_instr-put_if-requires t c =
    let weighs = ap weight c.in-If.is in
    (omega arith, subst (λ i. IsTrue (every has_form i)) c.in-If.is c.requires.formed)

pub put_block-put_instrs-requires : goal.put_block-put_instrs-requires
put_block-put_instrs-requires t c = let weighs = ap weights c.items.ensures in (omega arith, rw c.items.ensures c.requires.formed)

pub put_else-put_instrs-requires : goal.put_else-put_instrs-requires
put_else-put_instrs-requires t c = let weighs = ap weights c.items.ensures in (omega arith, rw c.items.ensures c.requires.body)
