-- The size so far and that of the texts that are left.
use Rattle.std.proofs.Common.{◌≡◌, ◌≤◌, ◌+◌, ◌*◌, ◌^◌, drop}
use Rattle.spec_hosts.specs.Calls as calls
use Rattle.host_wasi.proofs.arguments.texts_size.Given as goal

abbrev pub invariant-loop-text : goal.invariant-loop-text
invariant-loop-text l =
    (l.size + calls.texts_size (drop l.text-index l.texts) ≡ calls.texts_size l.texts) × (l.size ≤ l.text-index * 2 ^ 64)
