use Rattle.std.proofs.Common.{◌++◌, ◌∷◌, [], ap, ◌∙◌, arith}
use Rattle.merge_index.specs.Kept.{numbers_in}
use Rattle.merge_whole.proofs.CountLists.{mapped_step}
use Rattle.merge_whole.proofs.built.starts.put_tables.Goals as goal

pub loop-t-preserved : goal.loop-t-preserved
loop-t-preserved c =
    mapped_step ((numbers_in c.args.n.now).table c.args.m) c.loop-t.t c.args.count c.loop-t.to.items c.push.new.self.items _
    (omega (arith, c.loop-t-test.true))
    (c.in_ok-push.ensures.items ∙ ap (λ x. c.loop-t.to.items ++ x ∷ []) c.table.ensures)
    c.loop-t.invariant
