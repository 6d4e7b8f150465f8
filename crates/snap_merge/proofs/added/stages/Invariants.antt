use Rattle.std.proofs.Common.{◌≡◌, take}
use Rattle.spec_loading.specs.spec_runtime.Courses.{state_at}
use Rattle.dyl_store.specs.Stores.{set_course}
use Rattle.snap_merge.proofs.added.stages.Given as goal

abbrev pub invariant-loop-m : goal.invariant-loop-m
invariant-loop-m l = l.all.items ≡ take l.m (state_at (set_course l.store.linked) l.store.run).loader.stages
