use Rattle.std.proofs.Common.{◌∙◌, ◌∷◌, [], ap, refl, ℕ, List}
use Rattle.spec_linking.specs.Sets.{main_name}
use Rattle.spec_linking.specs.Wanted.{Wanted}
use Rattle.dyl_search.proofs.Beginning.{begins}
use Rattle.dyl_search.proofs.gathered.begun.Goals as goal

named : List ℕ → List Wanted
named name = record { name = name; needed_by = 0 } ∷ []

pub returns-clause-stands : goal.returns-clause-stands
unfolding named
returns-clause-stands c = λ told. begins told c.args.o.now (record { names = c.in_ok-names.names; members = c.new.result; total = 0 }) c.new.ensures.items
    (c.in_ok-names.ensures ∙ ap named (c.name_of.ensures ∙ ap main_name c.as_str.ensures)) refl
