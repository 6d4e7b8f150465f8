use Rattle.std.proofs.Common.{◌≡◌, ◌≢◌, ◌≤◌, ◌-◌, []}
use Rattle.wasm_machine.specs.Stacks.{joined, IsJoined}
use Rattle.wasm_machine.specs.Machines.{IsOver, GoesOn, going, at_point}
use Rattle.wasm_machine.specs.Iterated.{Iterated}
use Rattle.wasm_machine.proofs.machine.steps_of_code.Given as goal

-- so many steps were made, and code goes on
abbrev pub invariant-steps : goal.invariant-steps
invariant-steps g l = record {
  lies : IsJoined l.callers l.top;
  over : IsOver (g.V.View.seen l.view).fixed (g.V.View.seen l.view).units (g.V.View.seen l.view).memory (going (joined l.callers l.top));
  some : (joined l.callers l.top).frames ≢ [];
  fixed : (g.V.View.seen l.view).fixed ≡ (g.V.View.seen l.fn.view).fixed;
  goes : Iterated (GoesOn (g.V.View.seen l.fn.view).fixed) (l.most - l.left) (at_point (going (joined l.fn.callers l.fn.top)) (g.V.View.seen l.fn.view)) (at_point (going (joined l.callers l.top)) (g.V.View.seen l.view));
  few : l.left ≤ l.most;
}

abbrev pub decreases-steps : goal.decreases-steps
decreases-steps g l = l.left
