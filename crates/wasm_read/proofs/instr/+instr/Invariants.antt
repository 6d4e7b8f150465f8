use Rattle.std.proofs.Common.{◌≤◌, ◌+◌, ◌*◌, length}
use Rattle.wasm_read.proofs.Instructions.{Continues}
use Rattle.wasm_read.proofs.instr.+instr.Given as goal

abbrev pub decreases-body_of : goal.decreases-body_of
decreases-body_of l = 4 * length l.bytes.now + 1

abbrev pub decreases-if_of : goal.decreases-if_of
decreases-if_of l = 4 * length l.bytes.now + 1

abbrev pub decreases-else_of : goal.decreases-else_of
decreases-else_of l = 4 * length l.bytes.now + 1

abbrev pub decreases-arms_of : goal.decreases-arms_of
decreases-arms_of l = 4 * length l.bytes.now

abbrev pub decreases-control_of : goal.decreases-control_of
decreases-control_of l = 4 * length l.bytes.now + 2

abbrev pub decreases-instr_of : goal.decreases-instr_of
decreases-instr_of l = 4 * length l.bytes.now + 3

abbrev pub decreases-instrs_of : goal.decreases-instrs_of
decreases-instrs_of l = 4 * length l.bytes.now

abbrev pub invariant-instrs_of-loop-rest : goal.invariant-instrs_of-loop-rest
invariant-instrs_of-loop-rest l = record {
  read : Continues l.instrs.items l.room l.rest l.bytes;
  shorter : length l.rest ≤ length l.bytes;
}

abbrev pub decreases-instrs_of-loop-rest : goal.decreases-instrs_of-loop-rest
decreases-instrs_of-loop-rest l = length l.rest
