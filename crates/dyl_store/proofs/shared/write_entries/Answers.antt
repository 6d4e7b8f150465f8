use Rattle.std.proofs.Common.{refl}
use Rattle.dyl_store.proofs.SharedTable.{written}
use Rattle.dyl_store.proofs.shared.write_entries.Goals as goal

pub returns : goal.returns
returns c = written c.args.table.now c.init.new.self c.args.at _ c.args.entries.now c.init.result refl c.requires.fits c.init.ensures
