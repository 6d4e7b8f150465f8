use Rattle.std.proofs.Common.{refl, sym, [], ◌∙◌}
use Rattle.std.specs.Prelude.{reverse}
use Rattle.wasm_machine.specs.Stacks.{under_of, rooms_at}
use Rattle.wasm_machine.proofs.Called.{called_passes}
use Rattle.wasm_machine.proofs.Joined.{RoomsAre_idle}
use Rattle.wasm_machine.proofs.Passing.{over_sizes}
use Rattle.wasm_machine.proofs.calls.begin_passes.Goals as goal

pub returns : goal.returns
returns g c =
    let V = (g.V.View.seen c.args.view.now).fixed in
    c.passes_over.ensures.passes ∙ over_sizes c.count.result c.room.result _ _ c.room-2.result c.count.ensures.count c.room.ensures.room
    ∙ sym (called_passes V _ _ (λ _. under_of c.args.callers.now c.args.top.now) [] c.args.unit c.args.func _ (sym c.requires.nullary) refl (rooms_at (reverse c.args.callers.now)) c.room-2.result
    (λ _. RoomsAre_idle c.args.callers.now c.args.top.now c.requires.idle V c.requires.rooms) c.room-2.ensures)
