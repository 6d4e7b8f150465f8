use Rattle.dyl_section.proofs.Shortest.{name_short}
use Rattle.dyl_section.proofs.write.TextNote.put.Goals as goal

pub put_name-requires : goal.put_name-requires
put_name-requires c = rw c.as_str.ensures (name_short c.args.self.now c.requires)
