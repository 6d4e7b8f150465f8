use Rattle.merge_whole.proofs.BuiltParts.{unused_put, used_put}
use Rattle.merge_whole.proofs.built.codes.put_loader.Goals as goal

pub returns-in-None : goal.returns-in-None
returns-in-None c = λ n x listed has. unused_put c.args.linked.now n x c.args.loader.now c.in-None.is has c.args.to.now.items

pub returns-in_ok-put_calls-in-Some : goal.returns-in_ok-put_calls-in-Some
returns-in_ok-put_calls-in-Some c = λ n x listed has.
    used_put c.args.linked.now n x c.args.loader.now _ c.in-Some.is has c.args.to.now.items _ (λ numbers. c.in_ok-put_calls-in-Some.ensures n x listed numbers)
