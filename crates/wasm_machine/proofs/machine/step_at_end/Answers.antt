use Rattle.std.proofs.Common.{◌∙◌, refl, sym}
use Rattle.wasm_step.specs.Moves.{between}
use Rattle.wasm_machine.specs.Stacks.{joined}
use Rattle.wasm_machine.specs.Machines.{MayGrow, going}
use Rattle.wasm_machine.specs.declared.machine.Standing.TheVariants as standing
use Rattle.wasm_machine.proofs.Leading.{led_step}
use Rattle.wasm_machine.proofs.Telling.{here_moves}
use Rattle.wasm_machine.proofs.Stepping.{code_stepped, code_over}
use Rattle.wasm_machine.proofs.machine.step_at_end.Goals as goal

pub end-requires : goal.end-requires
end-requires g c κs =
    let w = g.V.View.seen c.args.view.now in
    let live = sym c.is_live.ensures ∙ c.if-not-is_live.false in
    let at = going (joined c.args.callers.now c.args.top.now) in
    let moves = here_moves w.fixed w.units w.memory c.args.callers.now c.args.top.now standing.Moving at live refl refl c.requires.over in
    ((refl, tt), (c.requires.joined, (live, (c.requires.done, (c.requires.over.rooms, moves)))))

pub returns-clause-stepped : goal.returns-clause-stepped
returns-clause-stepped g c =
    let w = g.V.View.seen c.args.view.now in
    let live = sym c.is_live.ensures ∙ c.if-not-is_live.false in
    let led = led_step w.fixed ⊥ (MayGrow (joined c.args.callers.now c.args.top.now).frames) _ _ (between w w) (λ none. absurd none) c.end.result _ _ refl c.end.ensures.led in
    code_stepped w.fixed (between w w) c.args.callers.now c.end.new.callers c.args.top.now c.end.new.top c.end.result live c.requires.over led (λ out. absurd (c.end.ensures.inside out)) (λ _. c.end.ensures.joined) c.end.ensures.rooms

pub returns-clause-over : goal.returns-clause-over
returns-clause-over g c =
    let w = g.V.View.seen c.args.view.now in
    let live = sym c.is_live.ensures ∙ c.if-not-is_live.false in
    let led = led_step w.fixed ⊥ (MayGrow (joined c.args.callers.now c.args.top.now).frames) _ _ (between w w) (λ none. absurd none) c.end.result _ _ refl c.end.ensures.led in
    code_over w.fixed (between w w) c.args.callers.now c.end.new.callers c.args.top.now c.end.new.top c.end.result live c.requires.over led (λ out. absurd (c.end.ensures.inside out)) (λ _. c.end.ensures.joined) c.end.ensures.rooms
