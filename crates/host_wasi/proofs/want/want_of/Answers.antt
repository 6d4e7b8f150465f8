use Rattle.host_wasi.specs.Wants.{meant}
use Rattle.host_wasi.proofs.Asks.{asks}
use Rattle.host_wasi.proofs.want.want_of.Goals as goal

pub returns-in-Some-clause-asks : goal.returns-in-Some-clause-asks
returns-in-Some-clause-asks c =
    asks c.args.texts.now c.args.memory.now (meant c.in-Some.call) c.args.args.now c.want_of_call.result c.want_of_call.ensures
