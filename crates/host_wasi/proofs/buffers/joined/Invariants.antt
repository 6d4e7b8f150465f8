-- The front of the buffers so far.
use Rattle.std.proofs.Common.{◌≡◌, take}
use Rattle.spec_hosts.specs.Calls as calls
use Rattle.host_wasi.specs.Wants.{pairs}
use Rattle.host_wasi.proofs.buffers.joined.Given as goal

abbrev pub invariant-loop-buffer : goal.invariant-loop-buffer
invariant-loop-buffer l = l.bytes.items ≡ take calls.most_bytes (calls.joined l.memory (pairs (take l.buffer-index l.buffers)))
