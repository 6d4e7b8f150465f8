use Rattle.std.proofs.Common.{refl}
use Rattle.merge_whole.specs.Counts.{members_of}
use Rattle.merge_whole.proofs.BuiltParts.{funcs_put}
use Rattle.merge_whole.proofs.built.funcs.put_loader.Goals as goal

pub returns : goal.returns
returns c =
    funcs_put c.args.nullary (members_of c.args.members.now) _ _ _ _
    refl refl refl refl
    c.args.to.now.items _ _ _ _
    c.in_ok-put_each.ensures c.in_ok-push.ensures.items c.in_ok-put_each-2.ensures c.in_ok-put_calls.ensures
