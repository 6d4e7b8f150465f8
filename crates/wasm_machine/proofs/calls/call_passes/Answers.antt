use Rattle.std.proofs.Common.{arith, sym, ap, ◌≡◌, ◌∷◌, ◌∙◌, drop, true}
use Rattle.std.specs.Prelude.{reverse, is_some}
use Rattle.spec_safety.specs.spec_execution.Values.{take_values}
use Rattle.spec_safety.specs.spec_execution.Runs.{calling}
use Rattle.spec_safety.specs.spec_execution.Limits.{passes_limit}
use Rattle.wasm_machine.specs.Stacks.{under_of, rooms_at}
use Rattle.wasm_machine.specs.Machines.{past_call, called_from}
use Rattle.wasm_machine.proofs.Called.{called_passes}
use Rattle.wasm_machine.proofs.Joined.{RoomsAre_live}
use Rattle.wasm_machine.proofs.Passing.{over_sizes}
use Rattle.wasm_machine.proofs.calls.call_passes.Goals as goal

pub returns : goal.returns
returns g c =
    let w = g.V.View.seen c.args.view.now in
    let under = under_of c.args.callers.now c.args.top.now in
    let args : is_some (take_values (reverse c.type_of.result.now.params) (drop c.args.above c.args.top.now.act.values)) ≡ true = cc in
    c.passes_over.ensures.passes ∙ over_sizes _ _ _ _ c.room-3.result (omega arith) (omega arith)
    ∙ sym (called_passes w.fixed _ _ (calling (past_call c.args.top.now.act c.args.above) under) (drop c.args.above c.args.top.now.act.values) c.in-Own.unit c.in-Own.func c.type_of.result.now c.type_of.ensures args
    (c.args.top.now.room ∷ rooms_at (reverse c.args.callers.now)) c.room-3.result (λ _. RoomsAre_live c.args.callers.now c.args.top.now c.requires.live w.fixed c.requires.rooms) c.room-3.ensures)
    ∙ ap (λ r. passes_limit w.fixed (called_from w c.args.top.now.act c.args.above under r)) (sym c.in-Own.is)
