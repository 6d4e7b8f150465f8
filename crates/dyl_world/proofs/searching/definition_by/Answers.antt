use Rattle.std.proofs.Common.{List, ℕ, ◌∙◌, ap}
use Rattle.spec_loading.specs.spec_linking.Definitions.{searched}
use Rattle.dyl_world.proofs.Known.{handle_program, handle_closure}
use Rattle.dyl_world.proofs.searching.definition_by.Goals as goal

pub returns-then-handle-lt2 : goal.returns-then-handle-lt2
returns-then-handle-lt2 c =
    let S = c.args.linked.now.set in
    c.definition_in_program.ensures ∙ ap (λ (ms : List ℕ). searched S ms c.args.name.now) (handle_program S c.args.promoted.now.list c.args.handle c.if-handle-lt2.true)

pub returns-else-handle-lt2 : goal.returns-else-handle-lt2
returns-else-handle-lt2 c =
    let S = c.args.linked.now.set in
    c.definition_in.ensures
    ∙ ap (λ (ms : List ℕ). searched S ms c.args.name.now) (c.closure.ensures ∙ handle_closure S c.args.promoted.now.list c.args.handle c.if-handle-lt2.false)
