use Rattle.std.proofs.Common.{◌<◌, ◌+◌, rules}
use Rattle.replay_text.specs.Stages.{seen}
use Rattle.replay_text.proofs.Lines.{low_number, reads_further, breaks_here}
use Rattle.replay_text.proofs.read.read_lines.Goals as goal

pub returns-in-Err-Malformed : goal.returns-in-Err-Malformed
returns-in-Err-Malformed c = breaks_here c.args.bytes.now c.loop-text.line c.loop-text.rest.now (seen c.loop-text.stage) c.loop-text.invariant c.in-Some.text.now c.in-Some.behind.now c.in-Some.ensures (rw c.in-Err-Malformed.field-0-is at c.in-Err-Malformed.ensures)

pub overflow_add-line : goal.overflow_add-line
overflow_add-line c =
    let low : c.loop-text.line + 1 < 4294967296 =
    low_number c.args.bytes.now c.loop-text.line c.loop-text.rest.now (seen c.loop-text.stage) c.loop-text.invariant c.in-Some.text.now c.in-Some.behind.now c.in-Some.ensures (seen c.read_line.new.stage) c.in-Ok.ensures c.requires.few in
    search rules

pub loop-text-preserved : goal.loop-text-preserved
loop-text-preserved c =
    reads_further c.args.bytes.now c.loop-text.line c.loop-text.rest.now (seen c.loop-text.stage) c.loop-text.invariant c.in-Some.text.now c.in-Some.behind.now c.in-Some.ensures (seen c.read_line.new.stage) c.in-Ok.ensures
