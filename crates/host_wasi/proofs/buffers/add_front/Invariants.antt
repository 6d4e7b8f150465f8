-- The bytes of the buffer so far.
use Rattle.std.proofs.Common.{◌≡◌, ◌++◌, take, drop}
use Rattle.host_wasi.proofs.buffers.add_front.Given as goal

abbrev pub invariant-loop-k : goal.invariant-loop-k
invariant-loop-k l = l.bytes.items ≡ l.initial.bytes.items ++ take l.k (drop l.buffer.at l.memory.bytes)
