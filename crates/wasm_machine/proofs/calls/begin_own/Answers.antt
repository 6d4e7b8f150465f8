use Rattle.std.proofs.Common.{arith, refl, sym, [], ◌≡◌, ◌∙◌, length, true}
use Rattle.std.specs.Prelude.{reverse}
use Rattle.wasm_machine.specs.Stacks.{joined, under_of, rooms_at, total, passes_over}
use Rattle.wasm_machine.proofs.Called.{called_deep, called_goes}
use Rattle.wasm_machine.proofs.Passing.{over_sizes}
use Rattle.wasm_machine.proofs.Joined.{RoomsAre_idle, frames_started, joined_started}
use Rattle.wasm_machine.proofs.calls.begin_own.Goals as goal

pub returns-then-passes_over-clause-led : goal.returns-then-passes_over-clause-led
returns-then-passes_over-clause-led g c =
    let passes : passes_over (length (rooms_at (reverse c.args.callers.now))) (total (rooms_at (reverse c.args.callers.now))) c.room-room.result ≡ true =
    sym (c.passes_over.ensures.passes ∙ over_sizes _ _ _ _ c.room-room.result (omega arith) (omega arith)) ∙ c.if-passes_over.true in
    called_deep (g.V.View.seen c.args.view.now).fixed _ _ (λ _. under_of c.args.callers.now c.args.top.now) [] c.args.unit c.args.func _ (sym c.requires.nullary) refl (rooms_at (reverse c.args.callers.now)) c.room-room.result _ _
    (λ _. RoomsAre_idle c.args.callers.now c.args.top.now c.requires.idle (g.V.View.seen c.args.view.now).fixed c.requires.rooms) c.room-room.ensures passes

pub returns-in-Ok-clause-led : goal.returns-in-Ok-clause-led
returns-in-Ok-clause-led g c =
    called_goes (g.V.View.seen c.args.view.now).fixed _ _ (λ _. under_of c.args.callers.now c.args.top.now) [] c.args.unit c.args.func _ (sym c.requires.nullary) refl c.code.result.now _ _ (joined c.args.callers.now c.start.new.self)
    c.code.ensures.locals c.code.ensures.body (frames_started c.args.callers.now _ _ _ _ _ _ _ c.requires.idle (c.in-Ok.ensures {u = tt}))

pub returns-in-Ok-clause-joined : goal.returns-in-Ok-clause-joined
returns-in-Ok-clause-joined g c = λ _. joined_started _ _ _ _ _ _ _ _ c.requires.idle (c.in-Ok.ensures {u = tt}) c.requires.joined (omega arith) (omega arith)
