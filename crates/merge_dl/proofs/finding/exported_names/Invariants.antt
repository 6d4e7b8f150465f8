use Rattle.std.proofs.Common.{◌≡◌, ◌++◌, drop}
use Rattle.std.specs.List.{All, flat_map}
use Rattle.merge_find.specs.Building.{names_of, HasText}
use Rattle.merge_dl.specs.Listed.{export_names}
use Rattle.merge_dl.proofs.finding.exported_names.Given as goal

abbrev pub invariant-loop-e : goal.invariant-loop-e
invariant-loop-e l = record {
  names : names_of l.names.items ++ flat_map (export_names l.linked l.m) (drop l.e-index l.exports) ≡ flat_map (export_names l.linked l.m) l.exports;
  texts : All HasText l.names.items;
}
