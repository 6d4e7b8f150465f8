-- As far as it has come.
use Rattle.std.proofs.Common.{◌≡◌, ◌-◌}
use Rattle.slice_board.specs.Steps.{GoesAlong}
use Rattle.slice_board.proofs.Going.{IsBegun}
use Rattle.slice_board.proofs.steps.make_steps.Given as goal

abbrev pub invariant-loop-why : goal.invariant-loop-why
invariant-loop-why l = record {
  linked : l.store.linked ≡ l.fn.store.linked;
  along : GoesAlong l.most l.until l.fn.store l.store;
  begun : IsBegun l.fn.store l.store;
}

abbrev pub decreases-loop-why : goal.decreases-loop-why
decreases-loop-why l = l.until - l.store.run.steps
