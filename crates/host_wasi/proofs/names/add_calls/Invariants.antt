-- The calls before this one are declared.
use Rattle.std.proofs.Common.{◌≡◌, map, drop}
use Rattle.spec_hosts.specs.spec_runtime.Names.{with_names}
use Rattle.spec_hosts.specs.Calls.{all_calls, host_name_of}
use Rattle.host_wasi.specs.Wants.{meant}
use Rattle.host_wasi.proofs.names.add_calls.Given as goal

abbrev pub invariant-loop-call : goal.invariant-loop-call
invariant-loop-call l = with_names l.names (map host_name_of (map meant (drop l.call-index l.call-items))) ≡ with_names l.fn.names (map host_name_of all_calls)
