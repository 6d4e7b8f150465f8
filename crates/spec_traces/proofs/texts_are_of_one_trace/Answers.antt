use Rattle.spec_traces.proofs.TraceLines.{one_trace}
use Rattle.spec_traces.proofs.texts_are_of_one_trace.Goals as goal

pub returns : goal.returns
returns c = one_trace
