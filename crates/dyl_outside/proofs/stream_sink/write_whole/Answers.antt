use Rattle.std.proofs.Common.{arith}
use Rattle.dyl_outside.proofs.KnownBytes.{appends_more}
use Rattle.dyl_outside.proofs.stream_sink.write_whole.Goals as goal
use Rattle.dyl_outside.proofs.stream_sink.write_whole.Goals.{in-Ok, in-Err+else-ne}

pub loop-preserved : goal.loop-preserved
loop-preserved g c = elim c.match-write.branch [
  | in-Ok w ↦ rw w.written-is (grind (arith, w.in-Ok.ensures.bound), appends_more _ _ _ c.args.bytes.now c.loop.written w.in-Ok.count c.loop.invariant.1 w.in-Ok.ensures.bytes)
  | in-Err+else-ne w ↦ grind arith
]
