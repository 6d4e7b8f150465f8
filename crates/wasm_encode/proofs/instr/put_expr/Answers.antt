use Rattle.wasm_encode.proofs.Instructions.{expr_written}
use Rattle.wasm_encode.proofs.instr.put_expr.Goals as goal

pub returns-clause-ok : goal.returns-clause-ok
returns-clause-ok c =
    let each = rw c.items.ensures at c.in_ok-put_instrs.ensures.ok in
    expr_written c.args.expr.now _ c.put_instrs.new.to.items _ each c.in_ok-push.ensures.items
