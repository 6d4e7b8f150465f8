use Rattle.std.proofs.Common.{◌<◌, ℕ, length, refl, sym, subst, ◌∙◌}
use Rattle.std.specs.Prelude.{IfSome}
use Rattle.dyl_frames.specs.Cores.{top_frame}
use Rattle.dyl_store.proofs.Loads.{none_first, nullary_seen}
use Rattle.dyl_store.proofs.frames.is_deep.Goals as goal
use Rattle.spec_loading.specs.Members.{set_view}

pub returns-then-not-is_marked : goal.returns-then-not-is_marked
returns-then-not-is_marked g c D loaded serves = c.code_deep.ensures D loaded

pub callee-requires : goal.callee-requires
callee-requires g c =
    let there = subst (λ o. IfSome o (λ t. t.member < length c.args.core.now.stages)) c.in-Some.is c.next_task.ensures.member in
    subst (λ (n : ℕ). c.in-Some.task.member < n) c.requires.members there

pub task_deep-requires : goal.task_deep-requires
task_deep-requires g c κs =
    let marked = c.is_marked.ensures.marked c.if-not-is_marked.false in
    let task = sym c.next_task.ensures.task ∙ c.in-Some.is in
    let there = subst (λ o. IfSome o (λ t. t.member < length c.args.core.now.stages)) c.in-Some.is c.next_task.ensures.member in
    let callable = nullary_seen (g.V.View.seen c.args.view.now).fixed (set_view c.args.linked.now) c.requires.types c.callee.result c.callee.ensures.nullary in
    ((refl, tt), (c.requires.core, (marked, (task, (there, callable)))))

pub returns-in-Some : goal.returns-in-Some
returns-in-Some g c D loaded serves = c.task_deep.ensures D loaded (serves.callee c.in-Some.task.phase c.in-Some.task.member ∙ c.callee.ensures.found)

pub follow_deep-requires : goal.follow_deep-requires
follow_deep-requires g c κs =
    let marked = c.is_marked.ensures.marked c.if-not-is_marked.false in
    let last = none_first (top_frame c.args.core.now).tasks (sym c.in-None.is ∙ c.next_task.ensures.task) in
    ((refl, tt), (c.requires.core, (marked, (last, c.requires.nullary))))

pub returns-in-None : goal.returns-in-None
returns-in-None g c D loaded serves = c.follow_deep.ensures D loaded serves.entry
