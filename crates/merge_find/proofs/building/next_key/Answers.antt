use Rattle.std.proofs.Common.{◌<◌, ◌++◌, length, ap, ◌∙◌, arith, append_assoc}
use Rattle.std.proofs.lemmas.List.{length-map}
use Rattle.merge_find.specs.Decisions.{Named}
use Rattle.merge_find.specs.Building.{goal_of, name_of, names_of}
use Rattle.merge_find.proofs.Halving.{texts_of}
use Rattle.merge_find.proofs.building.next_key.Goals as goal

pub returns-clause-code : goal.returns-clause-code
returns-clause-code c =
    let ns = c.args.rest.names.items in
    let some : 0 < length (names_of ns) = omega (arith, length-map {B = Named} ns name_of, c.requires.sound.some) in
    rw (c.in_ok-put_exact.ensures, c.key_at.ensures)
    (append_assoc c.args.to.now.items _ _
    ∙ ap (λ l. c.args.to.now.items ++ l) (c.next_place.ensures.code (goal_of c.args.search.now) (names_of ns) some (texts_of ns c.requires.sound.texts)))
