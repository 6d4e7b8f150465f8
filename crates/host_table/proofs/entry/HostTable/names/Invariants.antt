use Rattle.std.proofs.Common.{◌≡◌, length, map}
use Rattle.spec_runtime.specs.Names.{with_names}
use Rattle.host_table.specs.Names.{host_name_of}
use Rattle.host_table.proofs.entry.HostTable.names.Given as goal

abbrev pub invariant-loop-entry : goal.invariant-loop-entry
invariant-loop-entry g l =
    with_names l.names (map (λ e. host_name_of e.host) l.rest) ≡ with_names l.fn.first (map (λ e. host_name_of e.host) l.self.entries.items)

abbrev pub decreases-loop-entry : goal.decreases-loop-entry
decreases-loop-entry g l = length l.rest
