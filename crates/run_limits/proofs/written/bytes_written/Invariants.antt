-- The bytes of the writes so far.
use Rattle.std.proofs.Common.{◌≡◌, ◌*◌, ◌≤◌, length, map, sum, take}
use Rattle.run_limits.proofs.written.bytes_written.Given as goal

abbrev pub invariant-loop-write : goal.invariant-loop-write
invariant-loop-write l = record {
  bytes : l.bytes ≡ sum (map (λ w. length w.bytes) (take l.write-index l.write-items));
  below : l.bytes ≤ l.write-index * 18446744073709551615;
}
