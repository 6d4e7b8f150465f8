use Rattle.std.proofs.Common.{◌≡◌, ◌++◌, drop}
use Rattle.spec_loading.specs.Phases.{tasks_of}
use Rattle.dyl_store.proofs.tasks.put_tasks.Given as goal

abbrev pub invariant-loop-m : goal.invariant-loop-m
invariant-loop-m l = l.to.items ++ tasks_of l.phase (drop l.m-index l.members) ≡ l.fn.to.items ++ tasks_of l.phase l.members
