-- No call before this one has the name.
use Rattle.std.proofs.Common.{◌≡◌, map, drop}
use Rattle.spec_hosts.specs.Calls.{all_calls, first_named}
use Rattle.host_wasi.specs.Wants.{meant}
use Rattle.host_wasi.proofs.calls.call_named.Given as goal

abbrev pub invariant-loop-call : goal.invariant-loop-call
invariant-loop-call l = first_named l.name (map meant (drop l.call-index l.call-items)) ≡ first_named l.name all_calls
