use Rattle.spec_reading.proofs.of_spec_binary.Joined.{on_ok}
use Rattle.wasm_encode.proofs.Parts.{code_written, code_too_long}
use Rattle.wasm_encode.proofs.code.CodePart.put.Goals as goal

pub returns-clause-ok : goal.returns-clause-ok
returns-clause-ok c =
    let locals = rw (c.items.ensures, c.new-contents.ensures.items) at c.in_ok-put_vec.ensures.ok in
    let sized = rw c.deref.ensures.value at c.put_sized.ensures.ok in
    on_ok c.put_sized.result (code_written c.args.self.now c.put_vec.new.to.items c.put_expr.new.to.items locals c.in_ok-put_expr.ensures.ok _ _) sized

pub returns-clause-long : goal.returns-clause-long
returns-clause-long c = λ e.
    let locals = rw (c.items.ensures, c.new-contents.ensures.items) at c.in_ok-put_vec.ensures.ok in
    let long = rw c.deref.ensures.value at (c.put_sized.ensures.long e) in
    code_too_long c.args.self.now c.put_vec.new.to.items c.put_expr.new.to.items locals c.in_ok-put_expr.ensures.ok long
