use Rattle.spec_reading.proofs.ModulesAlone.{one_module}
use Rattle.spec_reading.proofs.bytes_spell_one_module.Goals as goal

pub returns : goal.returns
returns c = one_module
