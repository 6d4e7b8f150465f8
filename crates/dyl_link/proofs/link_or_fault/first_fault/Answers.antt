use Rattle.std.proofs.Common.{ap, sym, map}
use Rattle.dyl_slots.specs.dyl_search.Gathers.{member_of, set_of}
use Rattle.dyl_link.proofs.link_or_fault.first_fault.Goals as goal

pub found_of-requires-clause-symbols : goal.found_of-requires-clause-symbols
found_of-requires-clause-symbols c = c.in_ok-symbols.ensures.exact (set_of c.args.set.now) c.requires.shape (ap (λ ms. map member_of ms) (sym c.items.ensures))

pub returns-clause-ready : goal.returns-clause-ready
returns-clause-ready c = record {
  symbols = c.in_ok-symbols.ensures.exact (set_of c.args.set.now) c.requires.shape (ap (λ ms. map member_of ms) (sym c.items.ensures));
  types = c.in_ok-types.ensures;
  found = c.in_ok-found.ensures.exact;
}
