use Rattle.std.proofs.Common.{◌≡◌, drop}
use Rattle.spec_linking.specs.Wanted.{with_one_of}
use Rattle.dyl_search.proofs.names.Names.add_one_of.Given as goal

abbrev pub invariant-loop-name : goal.invariant-loop-name
invariant-loop-name l = record {
  same : l.self ≡ l.fn.self;
  rest : with_one_of (drop l.name-index l.names) l.self ≡ with_one_of l.names l.self;
}
