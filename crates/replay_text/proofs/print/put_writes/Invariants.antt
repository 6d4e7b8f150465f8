use Rattle.std.proofs.Common.{◌≡◌, ◌++◌, drop, map}
use Rattle.spec_traces.specs.Texts.{put_line}
use Rattle.spec_traces.specs.Lines.{text_of}
use Rattle.replay_text.proofs.print.put_writes.Given as goal

abbrev pub invariant-loop-write : goal.invariant-loop-write
invariant-loop-write l = l.to.items ++ text_of (map put_line (drop l.write-index l.writes)) ≡ l.fn.to.items ++ text_of (map put_line l.writes)
