use Rattle.std.proofs.Common.{ap}
use Rattle.merge_whole.specs.Built.{code_of}
use Rattle.merge_whole.proofs.BuiltParts.{generated_put}
use Rattle.merge_whole.proofs.built.codes.put_generated.Goals as goal

pub returns : goal.returns
returns c = λ n x listed loader.
    generated_put c.args.linked.now n x c.in_ok-phases.phases c.in_ok-entry_function.field-0.code
    (c.in_ok-phases.ensures n x listed)
    (ap code_of (c.in_ok-entry_function.ensures n x listed))
    c.args.to.now.items _ _ _
    c.in_ok-put_parts.ensures (c.in_ok-put_loader.ensures n x listed loader) c.in_ok-push.ensures.items
