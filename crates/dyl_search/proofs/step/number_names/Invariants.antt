use Rattle.std.proofs.Common.{◌≡◌, map, take}
use Rattle.spec_linking.specs.Wanted.{with_names, number_of}
use Rattle.spec_linking.proofs.Numbering.{Have}
use Rattle.dyl_search.proofs.step.number_names.Given as goal

abbrev pub invariant-loop-name : goal.invariant-loop-name
invariant-loop-name l = record {
  known : l.names ≡ with_names l.needed_by l.fn.names (take l.name-index l.needed);
  have : Have l.names (take l.name-index l.needed);
  numbers : l.numbers.items ≡ map (number_of l.names) (take l.name-index l.needed);
}
