use Rattle.std.proofs.Common.{refl, ◌≡◌, Some}
use Rattle.wasm_step.specs.Moves.{between}
use Rattle.wasm_step.specs.Primitives.{first_of}
use Rattle.wasm_machine.specs.Stacks.{joined}
use Rattle.wasm_machine.specs.Machines.{going}
use Rattle.wasm_machine.specs.declared.machine.Standing.TheVariants as standing
use Rattle.wasm_machine.proofs.OnTop.{rest_is_live}
use Rattle.wasm_machine.proofs.Sound.{names_there, all_held}
use Rattle.wasm_machine.proofs.Telling.{here_within, here_moves, here_in_range}
use Rattle.wasm_machine.proofs.Stepping.{code_stepped, code_over}
use Rattle.wasm_machine.proofs.machine.step_code.Goals as goal

pub advance-requires : goal.advance-requires
advance-requires g c κs =
    let w = g.V.View.seen c.args.view.now in
    let next : Some c.in-Some.i.now ≡ first_of c.args.top.now.act.rest = c.in-Some.ensures {u = tt} in
    let live = rest_is_live c.args.callers.now c.args.top.now c.in-Some.i.now c.requires.joined next in
    let over = c.requires.over in
    let at = going (joined c.args.callers.now c.args.top.now) in
    let range = here_in_range w.fixed w.units w.memory c.args.callers.now c.args.top.now standing.Moving at live refl refl over in
    let within = here_within w.fixed w.units w.memory c.args.callers.now c.args.top.now standing.Moving at live refl refl over in
    let moves = here_moves w.fixed w.units w.memory c.args.callers.now c.args.top.now standing.Moving at live refl refl over in
    ((refl, tt), (c.requires.joined, (live, (next, (over.rooms, (names_there w.fixed over.view, (all_held w.fixed w.units over.view over.units, (range, (within, moves)))))))))

pub returns-in-Some-clause-stepped : goal.returns-in-Some-clause-stepped
returns-in-Some-clause-stepped g c =
    let w = g.V.View.seen c.args.view.now in
    let live = rest_is_live c.args.callers.now c.args.top.now c.in-Some.i.now c.requires.joined (c.in-Some.ensures {u = tt}) in
    code_stepped w.fixed (between w (g.V.View.seen c.advance.new.view)) c.args.callers.now c.advance.new.callers c.args.top.now c.advance.new.top c.advance.result live c.requires.over c.advance.ensures.led c.advance.ensures.outside c.advance.ensures.joined c.advance.ensures.rooms

pub returns-in-Some-clause-over : goal.returns-in-Some-clause-over
returns-in-Some-clause-over g c =
    let w = g.V.View.seen c.args.view.now in
    let live = rest_is_live c.args.callers.now c.args.top.now c.in-Some.i.now c.requires.joined (c.in-Some.ensures {u = tt}) in
    code_over w.fixed (between w (g.V.View.seen c.advance.new.view)) c.args.callers.now c.advance.new.callers c.args.top.now c.advance.new.top c.advance.result live c.requires.over c.advance.ensures.led c.advance.ensures.outside c.advance.ensures.joined c.advance.ensures.rooms
