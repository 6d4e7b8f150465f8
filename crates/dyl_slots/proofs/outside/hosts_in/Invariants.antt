use Rattle.std.proofs.Common.{◌≡◌, drop}
use Rattle.spec_loading.specs.spec_linking.Orders.{with_numbers}
use Rattle.dyl_slots.specs.Outside.{host_numbers, hosts_in}
use Rattle.dyl_slots.proofs.outside.hosts_in.Given as goal

abbrev pub invariant-loop-r : goal.invariant-loop-r
invariant-loop-r l = with_numbers l.hosts (host_numbers (drop l.r-index l.list)) ≡ hosts_in l.list
