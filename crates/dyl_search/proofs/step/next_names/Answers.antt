use Rattle.std.proofs.Common.{◌∙◌, ap, sym, map}
use Rattle.spec_linking.specs.Wanted.{with_names, number_of}
use Rattle.dyl_search.proofs.step.next_names.Goals as goal

pub returns-clause-named : goal.returns-clause-named
returns-clause-named c = record {
  asked = record { name = c.in-Some.name.now; needed_by = c.in-Some.field-0-1 };
  at = sym c.in-Some.ensures;
  is = c.of.ensures ∙ c.in_ok-name.ensures;
  needed_are = c.of-2.ensures ∙ c.in_ok-needed.ensures.numbers ∙ ap (map (number_of c.number_names.new.names)) c.items.ensures
      ∙ ap (λ ks. map (number_of ks) c.args.dylink.now.needed) (c.in_ok-needed.ensures.known ∙ ap (with_names c.args.number c.args.names.now) c.items.ensures);
}
