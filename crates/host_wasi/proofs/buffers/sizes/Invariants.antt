-- The sizes so far.
use Rattle.std.proofs.Common.{◌≡◌, ◌≤◌, ◌*◌, ◌^◌, take}
use Rattle.spec_hosts.specs.Calls as calls
use Rattle.host_wasi.specs.Wants.{pairs}
use Rattle.host_wasi.proofs.buffers.sizes.Given as goal

abbrev pub invariant-loop-buffer : goal.invariant-loop-buffer
invariant-loop-buffer l =
    (l.sum ≡ calls.sizes (pairs (take l.buffer-index l.buffers))) × (l.sum ≤ l.buffer-index * 2 ^ 32)
