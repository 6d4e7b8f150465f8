-- The buffers so far, and then those of the vectors that are left.
use Rattle.std.proofs.Common.{◌≡◌, ◌+◌, ◌*◌, ◌-◌, ◌++◌}
use Rattle.spec_hosts.specs.Calls as calls
use Rattle.host_wasi.specs.Wants.{pairs}
use Rattle.host_wasi.proofs.buffers.buffers_at.Given as goal

abbrev pub invariant-loop-k : goal.invariant-loop-k
invariant-loop-k l = pairs l.buffers.items ++ calls.vectors_at l.memory (l.vectors + 8 * l.k) (l.n - l.k) ≡ calls.vectors_at l.memory l.vectors l.n
