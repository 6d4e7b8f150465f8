use Rattle.spec_hosts.proofs.Fitting.{answer_fits}
use Rattle.spec_hosts.proofs.wasi_answers_fit.Goals as goal

pub returns : goal.returns
returns c = answer_fits
