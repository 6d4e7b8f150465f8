use Rattle.std.proofs.Common.{◌≡◌, [], drop, map}
use Rattle.dyl_names.specs.Names.{with_all, definition_value}
use Rattle.dyl_names.proofs.names.Names.of.Given as goal

abbrev pub invariant-loop-d : goal.invariant-loop-d
invariant-loop-d l = with_all l.names (map definition_value (drop l.d-index l.definitions)) ≡ with_all [] (map definition_value l.definitions)
