use Rattle.std.proofs.Common.{rules}
use Rattle.dyl_gen.proofs.Held.{begun, one_more}
use Rattle.dyl_gen.proofs.files.add_members.Goals as goal

pub loop-k-init : goal.loop-k-init
loop-k-init c = begun c.args.n c.args.files.now c.requires.fresh

pub loop-k-preserved : goal.loop-k-preserved
loop-k-preserved c =
    one_more c.args.n c.loop-k.k c.loop-k.files c.add_member.new.files (search rules) c.requires.few c.loop-k.invariant c.in_ok-add_member.ensures
