use Rattle.std.proofs.Common.{◌≡◌, sym, ap, subst}
use Rattle.dyl_link.specs.Sets.{linked_set}
use Rattle.dyl_link.specs.Parts.{IsLinked}
use Rattle.dyl_link.proofs.Findings.{few_members}
use Rattle.dyl_link.proofs.Pages.{pages_below}
use Rattle.dyl_link.proofs.link_or_fault.link.Goals as goal

pub found_over-requires-clause-few : goal.found_over-requires-clause-few
found_over-requires-clause-few c = few_members c.args.set c.requires.shape

pub of-requires : goal.of-requires
of-requires c =
    let found = c.in-Ok.ensures in
    subst (λ names. IsLinked (linked_set c.args.set c.args.o.now names) c.in-Ok.ready) (sym found.names) (record {
      shape = c.requires.shape;
      links = found.tells;
      pages = pages_below (linked_set c.args.set c.args.o.now c.args.hosts.now) c.requires.pages;
      integers = c.integers.ensures;
      ready = found.ready;
    })
