-- The bytes so far are what the file gave.
use Rattle.std.proofs.Common.{◌≡◌, ◌≤◌, length}
use Rattle.std.specs.Io.KnownBytes.{Consumes}
use Rattle.dyl_outside.proofs.disk_files.read_whole.Given as goal

abbrev pub invariant-loop : goal.invariant-loop
invariant-loop g l = (length l.bytes.items ≤ l.most) × (length l.piece.items ≡ 65536) × Consumes (g.R.Read.remaining l.initial.file) (g.R.Read.remaining l.file) l.bytes.items
