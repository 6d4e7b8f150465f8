use Rattle.std.proofs.Common.{◌++◌, ◌∷◌, [], ap, ◌∙◌, arith}
use Rattle.merge_index.specs.Kept.{numbers_in}
use Rattle.merge_whole.proofs.CountLists.{mapped_step}
use Rattle.merge_whole.proofs.built.starts.put_functions.Goals as goal

pub loop-f-preserved : goal.loop-f-preserved
loop-f-preserved c =
    mapped_step ((numbers_in c.args.n.now).named c.args.m) c.loop-f.f c.args.count c.loop-f.to.items c.push.new.self.items _
    (omega (arith, c.loop-f-test.true))
    (c.in_ok-push.ensures.items ∙ ap (λ x. c.loop-f.to.items ++ x ∷ []) c.named.ensures)
    c.loop-f.invariant
