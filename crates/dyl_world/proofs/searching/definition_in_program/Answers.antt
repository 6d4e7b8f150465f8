use Rattle.std.proofs.Common.{List, ℕ, ◌∙◌, ap}
use Rattle.spec_loading.specs.spec_linking.Definitions.{searched}
use Rattle.dyl_world.proofs.Found.{found_first, found_later}
use Rattle.dyl_world.proofs.searching.definition_in_program.Goals as goal

pub returns-in-Nothing : goal.returns-in-Nothing
returns-in-Nothing c =
    let S = c.args.linked.now.set in
    let name = c.args.name.now in
    let none = c.in-Nothing.ensures ∙ ap (λ (ms : List ℕ). searched S ms name) c.startup.ensures in
    found_later S S.startup c.args.promoted.now.list name _ none (c.definition_in-in-Nothing.ensures ∙ ap (λ (ms : List ℕ). searched S ms name) c.list.ensures)

pub returns-in_default : goal.returns-in_default
returns-in_default c =
    let S = c.args.linked.now.set in
    let name = c.args.name.now in
    let first = c.definition_in.ensures ∙ ap (λ (ms : List ℕ). searched S ms name) c.startup.ensures in
    found_first S S.startup c.args.promoted.now.list name _ c.in_default.not-Nothing first
