use Rattle.std.proofs.Common.{arith, subst, sym, ◌-◌}
use Rattle.spec_execution.specs.Activations.{branch_move}
use Rattle.wasm_step.specs.Tops.{Top}
use Rattle.wasm_step.specs.Moves.{IsSafe}
use Rattle.wasm_step.proofs.Leaving.{left_safe}
use Rattle.wasm_step.proofs.control.branch.Goals as goal

pub land-requires : goal.land-requires
land-requires c =
    let b = c.loop-between.top.act in
    record { safe = subst (λ (x : Top). IsSafe x (branch_move b 0)) (sym c.loop-between.invariant.rest) (left_safe c.args.top.now b c.args.k (c.args.k - c.loop-between._between) c.loop-between.invariant.leaving (omega arith) c.requires.safe) }
