use Rattle.wasm_decode.proofs.DataNames.{names-flat, names_go_on, names_stop, names_end}
use Rattle.wasm_decode.proofs.counts.+data.Goals as goal

pub instr_names_no_data-returns-in_default : goal.instr_names_no_data-returns-in_default
instr_names_no_data-returns-in_default t c = names-flat c.args.instr.now c.in_default.not-Block c.in_default.not-Loop c.in_default.not-If c.in_default.not-Prefixed

pub all_name_no_data-loop-instr-preserved : goal.all_name_no_data-loop-instr-preserved
all_name_no_data-loop-instr-preserved t c =
    names_go_on c.args.instrs.now c.loop-instr.instr-index c.instr-item.result c.instr_names_no_data.result c.loop-instr-test.true c.instr-item.is c.instr_names_no_data.ensures c.if-not-instr_names_no_data.false c.loop-instr.invariant

pub all_name_no_data-returns-then-not-instr_names_no_data : goal.all_name_no_data-returns-then-not-instr_names_no_data
all_name_no_data-returns-then-not-instr_names_no_data t c =
    names_stop c.args.instrs.now c.loop-instr.instr-index c.instr-item.result c.instr_names_no_data.result c.loop-instr-test.true c.instr-item.is c.instr_names_no_data.ensures c.if-not-instr_names_no_data.true c.loop-instr.invariant

pub all_name_no_data-returns : goal.all_name_no_data-returns
all_name_no_data-returns t c = names_end c.args.instrs.now c.loop-instr.instr-index c.loop-instr-test.false c.loop-instr.invariant
