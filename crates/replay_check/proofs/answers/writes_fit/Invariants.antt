use Rattle.std.proofs.Common.{◌≡◌, length, drop}
use Rattle.spec_traces.specs.spec_hosts.spec_runtime.Memories.{MemoryInstance}
use Rattle.spec_traces.specs.spec_hosts.spec_runtime.Hosts.{writes_fit}
use Rattle.replay_check.proofs.answers.writes_fit.Given as goal

abbrev pub invariant-loop-write : goal.invariant-loop-write
invariant-loop-write l = (memory : MemoryInstance) → length memory.bytes ≡ l.size → writes_fit (drop l.write-index l.writes) memory ≡ writes_fit l.writes memory
