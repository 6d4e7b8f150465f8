use Rattle.std.proofs.Common.{◌≡◌, ◌++◌, drop, map}
use Rattle.dyl_link.specs.host_table.Names.{host_name_of}
use Rattle.merge_module.specs.MergedModule.{host_imports}
use Rattle.merge_whole.specs.Hosts.{number_by}
use Rattle.merge_whole.proofs.built.imports.host_imports.Given as goal

abbrev pub invariant-loop-e : goal.invariant-loop-e
invariant-loop-e l =
    l.imports.items ++ host_imports (number_by l.first l.added l.uses) l.e (map host_name_of (drop l.e l.hosts))
    ≡ host_imports (number_by l.first l.added l.uses) 0 (map host_name_of l.hosts)
