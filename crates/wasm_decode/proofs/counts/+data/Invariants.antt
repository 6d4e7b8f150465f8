use Rattle.wasm_decode.proofs.DataNames.{Remain}
use Rattle.wasm_decode.proofs.counts.+data.Given as goal

abbrev pub invariant-all_name_no_data-loop-instr : goal.invariant-all_name_no_data-loop-instr
invariant-all_name_no_data-loop-instr l = Remain l.instrs l.instr-index
