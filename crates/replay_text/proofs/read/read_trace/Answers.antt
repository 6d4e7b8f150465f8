use Rattle.replay_text.specs.Stages.{seen}
use Rattle.replay_text.proofs.Ended.{ends_read}
use Rattle.replay_text.proofs.read.read_trace.Goals as goal

pub returns-in-Ok : goal.returns-in-Ok
returns-in-Ok c = ends_read c.args.bytes.now c.in-Ok.line c.in-Ok.rest.now (seen c.read_lines.new.stage) c.in-Ok.ensures.0 c.in-Ok.ensures.1 c.ended.result c.ended.ensures
