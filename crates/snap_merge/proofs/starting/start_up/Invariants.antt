use Rattle.std.proofs.Common.{◌≡◌, ◌-◌}
use Rattle.snap_merge.specs.StartUp.{IsStarting, NoneBefore}
use Rattle.snap_merge.proofs.starting.start_up.Given as goal

abbrev pub invariant-start : goal.invariant-start
invariant-start l = record {
  starting : IsStarting l.most l.store;
  before : NoneBefore l.store.linked l.most l.store.run.steps;
  same : l.store.linked ≡ l.fn.store.linked;
}

abbrev pub decreases-start : goal.decreases-start
decreases-start l = l.most - l.store.run.steps
