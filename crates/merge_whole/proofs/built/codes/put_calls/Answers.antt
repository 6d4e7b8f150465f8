use Rattle.std.proofs.Common.{ap}
use Rattle.merge_whole.specs.Built.{code_of}
use Rattle.merge_module.specs.MergedModule.{finders_of}
use Rattle.merge_whole.proofs.BuiltParts.{loader_put}
use Rattle.merge_whole.proofs.built.codes.put_calls.Goals as goal

pub returns : goal.returns
returns c = λ n x listed numbers.
    let L = c.args.linked.now in
    loader_put L n x c.in_ok-opens.opens c.in_ok-finds.finds c.in_ok-calls.calls c.in_ok-length_function.field-0.code
    (c.in_ok-opens.ensures n x listed)
    (ap code_of c.in_ok-length_function.ensures.code)
    c.in_ok-finds.ensures.code
    (c.in_ok-calls.ensures x (finders_of L x) numbers)
    c.args.to.now.items _ _ _ _
    c.in_ok-put_parts.ensures c.in_ok-push.ensures.items c.in_ok-put_parts-2.ensures c.in_ok-put_parts-3.ensures
