use Rattle.std.proofs.Common.{◌≡◌, [], drop, map}
use Rattle.dyl_link.specs.host_table.Names.{host_name_of}
use Rattle.merge_module.specs.MergedModule.{types_added}
use Rattle.merge_whole.specs.Hosts.{use_in}
use Rattle.merge_whole.proofs.built.hosts.added_types.Given as goal

abbrev pub invariant-loop-e : goal.invariant-loop-e
invariant-loop-e l =
    types_added (use_in l.uses) l.added.items l.e (map host_name_of (drop l.e l.hosts)) ≡ types_added (use_in l.uses) [] 0 (map host_name_of l.hosts)
