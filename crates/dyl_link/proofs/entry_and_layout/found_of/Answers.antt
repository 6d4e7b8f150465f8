use Rattle.std.proofs.Common.{rules, ap, map, sym}
use Rattle.dyl_slots.specs.dyl_search.Gathers.{member_of, set_of}
use Rattle.dyl_link.specs.Sets.{linked_set}
use Rattle.dyl_link.proofs.Sound.{is_over}
use Rattle.dyl_link.proofs.entry_and_layout.found_of.Goals as goal

pub of-requires-clause-set : goal.of-requires-clause-set
of-requires-clause-set c = (set_of c.args.set.now, c.requires.shape, ap (map member_of) (sym c.items.ensures))

pub entered-requires-clause-over : goal.entered-requires-clause-over
entered-requires-clause-over c =
    let L = linked_set c.args.set.now c.args.o.now c.args.hosts.now in
    (L, is_over c.args.set.now c.args.o.now c.args.hosts.now c.args.symbols.now c.items.result.now c.in_ok-imports.imports c.requires.shape c.requires.symbols c.items.ensures (c.in_ok-imports.ensures.exact L))

pub returns-in_err-found-clause-tells : goal.returns-in_err-found-clause-tells
returns-in_err-found-clause-tells c =
    let L = linked_set c.args.set.now c.args.o.now c.args.hosts.now in
    let over = is_over c.args.set.now c.args.o.now c.args.hosts.now c.args.symbols.now c.items.result.now c.in_ok-imports.imports c.requires.shape c.requires.symbols c.items.ensures (c.in_ok-imports.ensures.exact L) in
    let told = c.in_err-found.ensures.tells L over in
    search (rules, told)

pub returns-clause-tells : goal.returns-clause-tells
returns-clause-tells c =
    let L = linked_set c.args.set.now c.args.o.now c.args.hosts.now in
    let over = is_over c.args.set.now c.args.o.now c.args.hosts.now c.args.symbols.now c.items.result.now c.in_ok-imports.imports c.requires.shape c.requires.symbols c.items.ensures (c.in_ok-imports.ensures.exact L) in
    c.in_ok-found.ensures.tells L over

pub returns-clause-exact : goal.returns-clause-exact
returns-clause-exact c =
    let L = linked_set c.args.set.now c.args.o.now c.args.hosts.now in
    let over = is_over c.args.set.now c.args.o.now c.args.hosts.now c.args.symbols.now c.items.result.now c.in_ok-imports.imports c.requires.shape c.requires.symbols c.items.ensures (c.in_ok-imports.ensures.exact L) in
    record {
      placed = c.in_ok-found.ensures.placed L over;
      entry = c.in_ok-found.ensures.entry L over;
      hosts = c.into_hosts.ensures L over.imported;
      uses_loader = c.uses_loader-uses_loader.ensures L over.imported;
    }
