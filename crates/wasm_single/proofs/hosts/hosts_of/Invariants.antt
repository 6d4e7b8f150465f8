use Rattle.std.proofs.Common.{◌≡◌, ◌++◌, drop, map}
use Rattle.spec_safety.specs.spec_execution.Instances.{imported_hosts}
use Rattle.spec_safety.specs.spec_execution.OneModule.{imports_met}
use Rattle.host_table.specs.Names.{host_name_of}
use Rattle.wasm_single.proofs.hosts.hosts_of.Given as goal

abbrev pub invariant-loop-import : goal.invariant-loop-import
invariant-loop-import l = record {
  met : imports_met l.m l.names (drop l.import-index l.imports) ≡ imports_met l.m l.names l.imports;
  listed : map host_name_of l.hosts.items ++ imported_hosts l.m (drop l.import-index l.imports) ≡ imported_hosts l.m l.imports;
}
