-- The buffers so far lie inside.
use Rattle.std.proofs.Common.{◌≡◌, ◌+◌, ◌*◌, ◌-◌}
use Rattle.spec_hosts.specs.Calls as calls
use Rattle.host_wasi.proofs.buffers.are_in.Given as goal

abbrev pub invariant-loop-k : goal.invariant-loop-k
invariant-loop-k l = calls.are_in l.memory (calls.vectors_at l.memory (l.vectors + 8 * l.k) (l.n - l.k)) ≡ calls.are_in l.memory (calls.vectors_at l.memory l.vectors l.n)
