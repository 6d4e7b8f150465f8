-- Flushes that were interrupted changed nothing.
use Rattle.std.specs.Io.KnownBytes.{Keeps}
use Rattle.dyl_outside.proofs.stream_sink.flush.Given as goal

abbrev pub invariant-loop : goal.invariant-loop
invariant-loop g l = Keeps (g.W.Write.contents l.initial.writer) (g.W.Write.contents l.writer)
