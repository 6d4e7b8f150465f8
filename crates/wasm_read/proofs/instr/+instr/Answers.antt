use Rattle.std.proofs.Common.{◌≡◌, true, length, get_or, ap, arith}
use Rattle.std.proofs.lemmas.Result.{err_from_is_err_and}
use Rattle.std.proofs.lemmas.List.{nil_from_length}
use Rattle.spec_reading.specs.Instructions.{ends}
use Rattle.spec_binary.proofs.Lists.{first_and_others}
use Rattle.wasm_read.proofs.Instructions.{instrs_begin, instrs_end, instrs_stop, instrs_fail, instrs_go_on, no_end, at_else, at_end}
use Rattle.wasm_read.proofs.instr.+instr.Goals.{instrs_of-then-opcode-eq5-via-then-opcode-eq5, instrs_of-then-opcode-eq5-via-else-opcode-eq5+then-opcode-eq11}
use Rattle.wasm_read.proofs.instr.+instr.Goals as goal

pub instrs_of-loop-rest-init : goal.instrs_of-loop-rest-init
instrs_of-loop-rest-init t c = record {
  read = rw c.new-instrs.ensures.items (instrs_begin c.args.room c.args.bytes.now);
  shorter = omega arith;
}

pub instrs_of-returns-then-opcode-eq5-clause-reads : goal.instrs_of-returns-then-opcode-eq5-clause-reads
instrs_of-returns-then-opcode-eq5-clause-reads t c =
    let rest = c.loop-rest.rest.now in
    let e : ends (get_or rest 0 0) ≡ true = elim c.then-opcode-eq5.branch [
      | instrs_of-then-opcode-eq5-via-then-opcode-eq5 w ↦ at_else _ w.if-opcode-eq5.true
      | instrs_of-then-opcode-eq5-via-else-opcode-eq5+then-opcode-eq11 w ↦ at_end _ w.if-opcode-eq11.true
    ] in
    instrs_end c.loop-rest.instrs.items c.args.room (get_or rest 0 0) rest _ c.args.bytes.now (first_and_others rest (omega arith)) e c.loop-rest.invariant.read

pub instrs_of-returns-in_err-instr-clause-reads : goal.instrs_of-returns-in_err-instr-clause-reads
instrs_of-returns-in_err-instr-clause-reads t c =
    let rest = c.loop-rest.rest.now in
    let p = err_from_is_err_and c.from_residual.result c.from_residual.ensures.1 in
    rw (p.1, p.2) (instrs_fail c.in_err-instr.field-0.0 c.loop-rest.instrs.items c.args.room (get_or rest 0 0) rest _ c.args.bytes.now (first_and_others rest (omega arith))
    (no_end _ c.if-opcode-eq5.false c.if-opcode-eq11.false) c.in_err-instr.ensures.reads c.loop-rest.invariant.read)

pub instrs_of-loop-rest-preserved : goal.instrs_of-loop-rest-preserved
instrs_of-loop-rest-preserved t c =
    let rest = c.loop-rest.rest.now in
    let e = first_and_others rest (omega arith) in
    record {
      read = rw c.in_ok-push.ensures.items
          (instrs_go_on c.loop-rest.instrs.items c.args.room (get_or rest 0 0) rest _ c.in_ok-instr.next.now c.args.bytes.now c.in_ok-instr.instr e (no_end _ c.if-opcode-eq5.false c.if-opcode-eq11.false)
          c.in_ok-instr.ensures.shorter c.in_ok-instr.ensures.reads c.loop-rest.invariant.read);
      shorter = let l = ap length e in omega (arith, c.in_ok-instr.ensures.shorter);
    }

pub instrs_of-returns-clause-reads : goal.instrs_of-returns-clause-reads
instrs_of-returns-clause-reads t c = instrs_stop c.loop-rest.instrs.items c.args.room c.loop-rest.rest.now c.args.bytes.now (nil_from_length _ (omega arith)) c.loop-rest.invariant.read
