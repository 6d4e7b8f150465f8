use Rattle.std.proofs.Common.{refl, ◌≡◌, ◌∙◌, Some}
use Rattle.wasm_form.specs.declared.instr.Instr.{out-Instr}
use Rattle.spec_safety.specs.spec_execution.Runs.{Traps}
use Rattle.wasm_step.specs.declared.done.Done.TheVariants as done
use Rattle.wasm_step.specs.Moves.{between}
use Rattle.wasm_machine.specs.Stacks.{under_of}
use Rattle.wasm_machine.specs.Outside.{callee_of}
use Rattle.wasm_machine.proofs.Coming.{rest_some}
use Rattle.wasm_machine.proofs.Callees.{callee_named, callee_outside, has_index, above_within}
use Rattle.wasm_machine.proofs.Leading.{led_called, called_moves}
use Rattle.wasm_machine.proofs.calls.call_next.Goals as goal

pub called-requires : goal.called-requires
called-requires g c κs =
    let w = g.V.View.seen c.args.view.now in
    let t = c.args.top.now in
    let q : callee_of (out-Instr c.args.i.now) ≡ Some c.in-Some.callee = cc in
    let moves = called_moves w.fixed w.units w.memory c.args.callers.now t c.args.i.now c.requires.live c.requires.next c.in-Some.callee q c.requires.moves in
    let named = callee_named (w.fixed.counts t.act.unit) t.act.rest c.args.i.now c.requires.rest c.requires.next c.in-Some.callee q in
    ((refl, tt), (c.requires.names, (c.requires.holds, (named, has_index w.fixed w.units w.memory (under_of c.args.callers.now t) c.in-Some.callee t.act moves))))

pub call-requires : goal.call-requires
call-requires g c κs =
    let w = g.V.View.seen c.args.view.now in
    let t = c.args.top.now in
    let q : callee_of (out-Instr c.args.i.now) ≡ Some c.in-Some.callee = cc in
    let moves = called_moves w.fixed w.units w.memory c.args.callers.now t c.args.i.now c.requires.live c.requires.next c.in-Some.callee q c.requires.moves in
    let index = has_index w.fixed w.units w.memory (under_of c.args.callers.now t) c.in-Some.callee t.act moves in
    let h = rw c.in-Ok.is at c.called.ensures in
    rw c.above.ensures (
      (refl, tt),
      (c.requires.joined, (c.requires.live, (c.requires.rooms, (rest_some _ _ c.requires.next, (above_within c.in-Some.callee t.act.values index, (h.0, λ n. moves (h.2 (under_of c.args.callers.now t) ∙ n))))))),
    )

pub returns-in-Ok-clause-led : goal.returns-in-Ok-clause-led
returns-in-Ok-clause-led g c =
    let w = g.V.View.seen c.args.view.now in
    let q : callee_of (out-Instr c.args.i.now) ≡ Some c.in-Some.callee = cc in
    let h = rw c.in-Ok.is at c.called.ensures in
    led_called w.fixed w.units w.memory c.args.callers.now c.args.top.now c.args.i.now c.call.result (between w w) c.requires.live c.requires.next c.call.new.callers c.call.new.top c.in-Some.callee _ q
    (h.2 (under_of c.args.callers.now c.args.top.now)) (rw c.above.ensures at c.call.ensures.led)

pub returns-in-Ok-clause-outside : goal.returns-in-Ok-clause-outside
returns-in-Ok-clause-outside g c =
    let w = g.V.View.seen c.args.view.now in
    let q : callee_of (out-Instr c.args.i.now) ≡ Some c.in-Some.callee = cc in
    let h = rw c.in-Ok.is at c.called.ensures in
    λ o. callee_outside w.fixed w.units c.args.top.now.act c.args.i.now c.requires.next c.in-Some.callee q ∙ h.1 ∙ c.call.ensures.outside o

pub returns-in-Err-clause-led : goal.returns-in-Err-clause-led
returns-in-Err-clause-led g c =
    let w = g.V.View.seen c.args.view.now in
    let q : callee_of (out-Instr c.args.i.now) ≡ Some c.in-Some.callee = cc in
    let h = rw c.in-Err.is at c.called.ensures in
    led_called w.fixed w.units w.memory c.args.callers.now c.args.top.now c.args.i.now (done.Trapped c.in-Err.trap) (between w w) c.requires.live c.requires.next c.args.callers.now c.args.top.now c.in-Some.callee (Some (Traps c.in-Err.trap)) q
    (h (under_of c.args.callers.now c.args.top.now)) (refl, (refl, refl))
