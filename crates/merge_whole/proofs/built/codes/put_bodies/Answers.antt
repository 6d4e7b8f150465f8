use Rattle.std.proofs.Common.{arith}
use Rattle.merge_match.specs.Joined.{renumbered_code}
use Rattle.merge_index.specs.Kept.{numbers_in}
use Rattle.merge_index.specs.Lists.{code_in}
use Rattle.merge_whole.proofs.BuiltBodies.{is_there, body_next}
use Rattle.merge_whole.proofs.built.codes.put_bodies.Goals as goal

pub rename_body-requires : goal.rename_body-requires
rename_body-requires c =
    record { there = is_there c.args.codes.now c.loop-b.b _ (c.requires.bodies c.loop-b.b) (omega (arith, c.loop-b-test.true)) }

pub loop-b-preserved : goal.loop-b-preserved
loop-b-preserved c =
    body_next (renumbered_code (numbers_in c.args.n.now) c.args.m) c.args.codes.now c.loop-b.b
    (omega (arith, c.loop-b-test.true)) (code_in c.args.linked.now c.args.m c.loop-b.b) (c.requires.bodies c.loop-b.b)
    c.in_ok-code.code c.in_ok-code.ensures _ _ _ c.loop-b.invariant c.in_ok-push.ensures.items
