use Rattle.std.proofs.Common.{sym, subst, ◌∙◌}
use Rattle.spec_loading.specs.spec_linking.LinkedSets.{set_hosts}
use Rattle.spec_loading.specs.spec_runtime.Courses.{status_at}
use Rattle.dyl_store.specs.Stores.{set_course}
use Rattle.wasm_machine.specs.Steps.{TellsStatus}
use Rattle.snap_merge.proofs.StartUp.{told_moving, status_is, IsOver, over_told, never_over}
use Rattle.snap_merge.proofs.starting.may_step.Goals as goal

pub may_move-requires-clause-moving : goal.may_move-requires-clause-moving
may_move-requires-clause-moving c =
    let v = c.args.store.now in
    let L = v.linked in
    sym (status_is L c.args.most v c.requires.starting)
    ∙ told_moving (set_hosts L) (status_at (set_course L) v.run) (subst (λ e. TellsStatus (set_hosts L) e (status_at (set_course L) v.run)) c.in-Moved.is (c.state.ensures.tells c.requires.starting.found))

pub unreachable-requires : goal.unreachable-requires
unreachable-requires c =
    let v = c.args.store.now in
    let L = v.linked in
    let able = c.requires.able in
    let over = over_told (set_hosts L) c.state.result.now (status_at (set_course L) v.run) (c.state.ensures.tells c.requires.starting.found) c.in_default.not-Moved c.in_default.not-Waits c.in_default.not-Trapped in
    never_over L c.first_states_are_one.ensures.some able.0 able.1 c.args.most v.run.steps c.requires.before c.requires.unstarted
    (subst IsOver (status_is L c.args.most v c.requires.starting) over)
