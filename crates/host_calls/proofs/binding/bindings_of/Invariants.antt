-- The host functions so far have their bindings.
use Rattle.std.proofs.Common.{◌≡◌, length, map, take}
use Rattle.host_table.specs.Names.{host_name_of}
use Rattle.host_calls.specs.Bindings.{AreBindings}
use Rattle.host_calls.proofs.binding.bindings_of.Given as goal

abbrev pub invariant-loop-host : goal.invariant-loop-host
invariant-loop-host g l = record {
  count : length l.bindings.items ≡ l.host-index;
  bound : AreBindings l.table (map (λ h. host_name_of h) (take l.host-index l.hosts)) l.bindings.items;
}
