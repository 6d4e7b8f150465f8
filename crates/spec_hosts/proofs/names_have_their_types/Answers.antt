use Rattle.spec_hosts.proofs.Declared.{wasi_goes_first, others_are_of_the_table}
use Rattle.spec_hosts.proofs.names_have_their_types.Goals as goal

pub returns-clause-wasi : goal.returns-clause-wasi
returns-clause-wasi c = wasi_goes_first

pub returns-clause-others : goal.returns-clause-others
returns-clause-others c = others_are_of_the_table
