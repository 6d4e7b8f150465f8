use Rattle.spec_loading.specs.spec_runtime.Courses.{state_at}
use Rattle.dyl_store.specs.Stores.{set_course}
use Rattle.snap_merge.proofs.AddedLists.{take_next}
use Rattle.snap_merge.proofs.added.stages.Goals as goal

pub loop-m-preserved : goal.loop-m-preserved
loop-m-preserved c =
    let before = c.loop-m.invariant in
    let here = c.stage.ensures c.requires.found in
    let next = take_next (state_at (set_course c.args.store.now.linked) c.args.store.now.run).loader.stages c.loop-m.m c.stage.result here in
    let same = c.from.ensures in
    let put = c.in_ok-push.ensures.items in
    cc
