-- The buffers so far are filled.
use Rattle.std.proofs.Common.{◌≡◌, ◌++◌, drop}
use Rattle.spec_hosts.specs.Calls as calls
use Rattle.host_wasi.specs.Wants.{pairs}
use Rattle.host_wasi.proofs.replies.filled.Given as goal

abbrev pub invariant-loop-buffer : goal.invariant-loop-buffer
invariant-loop-buffer l = l.writes.items ++ calls.filled (pairs (drop l.buffer-index l.buffers)) l.rest ≡ calls.filled (pairs l.buffers) l.bytes
