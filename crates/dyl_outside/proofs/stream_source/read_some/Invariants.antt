-- Reads that were interrupted took nothing.
use Rattle.std.proofs.Common.{◌≡◌, min, length}
use Rattle.std.specs.Io.KnownBytes.{Keeps}
use Rattle.dyl_outside.proofs.stream_source.read_some.Given as goal

abbrev pub invariant-loop : goal.invariant-loop
invariant-loop g l = (length l.bytes.items ≡ min l.most 65536) × Keeps (g.R.Read.remaining l.initial.reader) (g.R.Read.remaining l.reader)
