use Rattle.std.proofs.Common.{◌≡◌, Some, sym}
use Rattle.spec_validation.specs.Context.{block_type}
use Rattle.wasm_typing.specs.Contexts.{context_of, signature_of}
use Rattle.wasm_typing.proofs.Steps.{if-instruction}
use Rattle.wasm_typing.proofs.body.+body.Goals as goal

pub instruction-returns-in_ok-other_side-in-Some-block-2 : goal.instruction-returns-in_ok-other_side-in-Some-block-2
instruction-returns-in_ok-other_side-in-Some-block-2 t c =
    let b : block_type (context_of c.args.scope.now.env) c.in-If.t ≡ Some (signature_of c.in-Some-block-2.ty) = sym
    c.in-Some-block-2.ensures in
    if-instruction c.leave.result c.args.at.now c.take.new.self c.take-in-Some-block-2.new.self c.inside.new.at c.other_side.new.at
    c.leave.new.self (context_of c.args.scope.now.env) c.args.i.now
    c.in-If.t c.in-If.e c.in-If.other (signature_of c.in-Some-block-2.ty) c.items-in-Some-block-2.result.now c.in-If.is
    c.items-in-Some-block-2.ensures b
    c.in_ok-take-in-Some-block-2.ensures.stack c.take.ensures.rest c.in_ok-take-in-Some-block-2-2.ensures.stack
    c.take-in-Some-block-2.ensures.rest
    c.in_ok-inside-in-Some-block-2.ensures c.in_ok-other_side-in-Some-block-2.ensures c.leave.ensures
