-- The bytes so far, and then those of the rest.
use Rattle.std.proofs.Common.{◌≡◌, ◌++◌, ◌-◌}
use Rattle.spec_hosts.specs.spec_runtime.Memories.{little}
use Rattle.host_wasi.proofs.replies.little_bytes.Given as goal

abbrev pub invariant-loop : goal.invariant-loop
invariant-loop l = l.bytes.items ++ little (l.len - l.counter) l.rest ≡ little l.len l.fn.value
