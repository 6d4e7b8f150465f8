use Rattle.std.proofs.Common.{◌≡◌, true, Some, sym, ap, ◌∙◌, subst}
use Rattle.std.specs.List.{list_all}
use Rattle.std.proofs.lemmas.Option.{slice_get-get_or}
use Rattle.spec_loading.specs.spec_validation.Faults.{elem_fits}
use Rattle.spec_loading.proofs.of_spec_safety.Lookups.{passes_at}
use Rattle.dyl_slots.proofs.placings.placings_of.Goals as goal

pub add_placing-requires-clause-fits : goal.add_placing-requires-clause-fits
add_placing-requires-clause-fits c =
    let elems = c.items-e-items.result.now in
    let k = c.loop-e.e-index in
    let e = c.e-item.result in
    let fits = subst (λ es. list_all (elem_fits c.args.m.now) es ≡ true) (sym c.items-e-items.ensures) c.requires.fits in
    passes_at (elem_fits c.args.m.now) elems k e fits (slice_get-get_or elems k e c.loop-e-test.true ∙ ap (λ x. Some x) (sym c.e-item.is))
