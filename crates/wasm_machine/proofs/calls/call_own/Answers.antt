use Rattle.std.proofs.Common.{arith, sym, ◌≡◌, ◌∙◌, ◌∷◌, length, drop, true}
use Rattle.std.specs.Prelude.{reverse}
use Rattle.spec_safety.specs.spec_execution.Runs.{calling}
use Rattle.wasm_step.specs.Tops.{with_act}
use Rattle.wasm_machine.specs.Stacks.{joined, under_of, rooms_at, total, passes_over}
use Rattle.wasm_machine.specs.Machines.{past_call}
use Rattle.wasm_step.proofs.Arguments.{arguments_count}
use Rattle.wasm_step.proofs.Openings.{opened_wider}
use Rattle.wasm_machine.proofs.Called.{called_deep, called_goes}
use Rattle.wasm_machine.proofs.Callees.{arguments_there}
use Rattle.wasm_machine.proofs.Passing.{over_sizes}
use Rattle.wasm_machine.proofs.Joined.{RoomsAre_live, past_is, frames_opened, joined_opened}
use Rattle.wasm_machine.proofs.calls.call_own.Goals as goal

pub returns-then-passes_over-clause-led : goal.returns-then-passes_over-clause-led
returns-then-passes_over-clause-led g c =
    let w = g.V.View.seen c.args.view.now in
    let caller = calling (past_call c.args.top.now.act c.args.above) (under_of c.args.callers.now c.args.top.now) in
    let args = arguments_there w.units w.memory caller (drop c.args.above c.args.top.now.act.values) w.fixed c.args.unit c.args.func c.type_of-ty.result.now c.type_of-ty.ensures c.requires.moves in
    let passes : passes_over (length (c.args.top.now.room ∷ rooms_at (reverse c.args.callers.now))) (total (c.args.top.now.room ∷ rooms_at (reverse c.args.callers.now))) c.room-room.result ≡ true =
    sym (c.passes_over.ensures.passes ∙ over_sizes _ _ _ _ c.room-room.result (omega arith) (omega arith)) ∙ c.if-passes_over.true in
    called_deep w.fixed _ _ caller (drop c.args.above c.args.top.now.act.values) c.args.unit c.args.func c.type_of-ty.result.now c.type_of-ty.ensures args
    (c.args.top.now.room ∷ rooms_at (reverse c.args.callers.now)) c.room-room.result _ _
    (λ _. RoomsAre_live c.args.callers.now c.args.top.now c.requires.live w.fixed c.requires.rooms) c.room-room.ensures passes

pub open-place-requires-clause-arguments : goal.open-place-requires-clause-arguments
open-place-requires-clause-arguments g c =
    let w = g.V.View.seen c.args.view.now in
    let caller = calling (past_call c.args.top.now.act c.args.above) (under_of c.args.callers.now c.args.top.now) in
    let args = arguments_there w.units w.memory caller (drop c.args.above c.args.top.now.act.values) w.fixed c.args.unit c.args.func c.type_of-ty.result.now c.type_of-ty.ensures c.requires.moves in
    let e : c.drop_values.new.self ≡ with_act c.args.top.now (past_call c.args.top.now.act c.args.above) = past_is c.args.top.now _ _ _ c.advance.ensures c.drop_values.ensures in
    rw (c.make_room.ensures.same.same, e, c.items-params.ensures) (arguments_count c.type_of-ty.result.now.params (drop c.args.above c.args.top.now.act.values) args)

pub returns-in-Ok-clause-led : goal.returns-in-Ok-clause-led
returns-in-Ok-clause-led g c =
    let w = g.V.View.seen c.args.view.now in
    let caller = calling (past_call c.args.top.now.act c.args.above) (under_of c.args.callers.now c.args.top.now) in
    let args = arguments_there w.units w.memory caller (drop c.args.above c.args.top.now.act.values) w.fixed c.args.unit c.args.func c.type_of-ty.result.now c.type_of-ty.ensures c.requires.moves in
    let e : c.drop_values.new.self ≡ with_act c.args.top.now (past_call c.args.top.now.act c.args.above) = past_is c.args.top.now _ _ _ c.advance.ensures c.drop_values.ensures in
    let o = rw (c.items-params.ensures, c.items-results.ensures) at (opened_wider _ _ _ _ _ _ _ _ _ _ c.make_room.ensures.same c.open-place.ensures) in
    called_goes w.fixed _ _ caller (drop c.args.above c.args.top.now.act.values) c.args.unit c.args.func
    c.type_of-ty.result.now c.type_of-ty.ensures args c.code-code.result.now _ _ (joined c.push.new.self c.open-place.new.self) c.code-code.ensures.locals c.code-code.ensures.body
    (frames_opened c.args.callers.now c.push.new.self c.args.top.now _ _ _ _ _ _ _ _ _ _ c.requires.live e o (c.in-Ok.ensures {u = tt}))

pub returns-in-Ok-clause-joined : goal.returns-in-Ok-clause-joined
returns-in-Ok-clause-joined g c =
    let e : c.drop_values.new.self ≡ with_act c.args.top.now (past_call c.args.top.now.act c.args.above) = past_is c.args.top.now _ _ _ c.advance.ensures c.drop_values.ensures in
    let o = opened_wider _ _ _ _ _ _ _ _ _ _ c.make_room.ensures.same c.open-place.ensures in
    λ _. joined_opened c.args.callers.now c.push.new.self c.args.top.now _ _ _ _ _ _ _ _ _ _ c.requires.live e o (c.in-Ok.ensures {u = tt}) c.requires.joined (omega arith) (omega arith)
