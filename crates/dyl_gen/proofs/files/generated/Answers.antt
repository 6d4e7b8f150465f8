use Rattle.dyl_gen.proofs.Held.{all_there}
use Rattle.dyl_gen.proofs.files.generated.Goals as goal

pub returns-clause-files : goal.returns-clause-files
returns-clause-files c =
    all_there c.args.n c.add_members.new.files c.add_further.new.files c.requires.few c.in_ok-add_members.ensures c.in_ok-add_further.ensures
