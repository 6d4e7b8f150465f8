use Rattle.std.proofs.Common.{Err, refl}
use Rattle.std.proofs.lemmas.Result.{err_from_is_err_and}
use Rattle.wasm_check.proofs.Unsupported.{if_tells, if_fails}
use Rattle.wasm_check.proofs.inside.+scan.Goals as goal

pub instr_supported-returns-in_ok-instrs_supported-in-If : goal.instr_supported-returns-in_ok-instrs_supported-in-If
instr_supported-returns-in_ok-instrs_supported-in-If t c = if_tells c.else_supported.result c.args.m.now c.args.n c.args.i.now c.in-If.t
    c.in-If.e c.in-If.other c.items-in-If.result.now c.in-If.is c.items-in-If.ensures
    c.in_ok-block_supported_at-in-If.ensures c.in_ok-instrs_supported-in-If.ensures c.else_supported.ensures

pub instr_supported-returns-in_err-instrs_supported-in-If : goal.instr_supported-returns-in_err-instrs_supported-in-If
instr_supported-returns-in_err-instrs_supported-in-If t c =
    let p = err_from_is_err_and c.from_residual-in_err-instrs_supported-in-If.result c.from_residual-in_err-instrs_supported-in-If.ensures.1
    in
    rw (p.1, p.2)
    (if_fails (Err c.in_err-instrs_supported-in-If.field-0.0) c.in_err-instrs_supported-in-If.field-0.0 c.args.m.now c.args.n c.args.i.now
    c.in-If.t c.in-If.e c.in-If.other c.items-in-If.result.now refl c.in-If.is c.items-in-If.ensures
    c.in_ok-block_supported_at-in-If.ensures c.in_err-instrs_supported-in-If.ensures)
