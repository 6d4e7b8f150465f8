use Rattle.std.proofs.Common.{◌<◌, ℕ, refl, sym, subst, ◌∙◌, arith}
use Rattle.std.specs.List.{All}
use Rattle.spec_loading.specs.LoadedSet.{set_loading}
use Rattle.spec_loading.specs.declared.task.Task.{Task}
use Rattle.dyl_store.proofs.Opened.{view_over, holds_over, memory_over, startup_opens, core_at}
use Rattle.dyl_store.proofs.opening.core_of.Goals as goal

pub member_tasks-requires : goal.member_tasks-requires
member_tasks-requires c = c.links.ensures.shape.some

pub new-requires : goal.new-requires
new-requires c κs =
    let L = c.args.linked.now in
    let shape = c.links.ensures.shape in
    let links = c.links.ensures.links in
    let w = c.args.world.now in
    let opened = c.requires.opened in
    let runnable = c.requires.runnable in
    let opens = c.linked_sets_never_get_stuck.ensures.opening in
    let view = view_over L shape links runnable w opened c.linked_sets_step_soundly.ensures.view in
    let holds = holds_over L shape links runnable w opened c.linked_sets_step_soundly.ensures.set opens in
    let memory = memory_over L shape links runnable w opened opens in
    let tasks = subst (λ (n : ℕ). All (λ (t : Task). t.member < n) c.in_ok-tasks.tasks.items) (sym c.member_count-count.ensures.count) c.in_ok-tasks.ensures.members in
    ((refl, tt), (view, (holds, (memory, (omega (arith, c.member_count-count.ensures.few), tasks)))))

pub returns-clause-core : goal.returns-clause-core
returns-clause-core c = c.in_ok-core.ensures.core

pub returns-clause-opened : goal.returns-clause-opened
returns-clause-opened c =
    let L = c.args.linked.now in
    core_at L c.args.world.now c.requires.opened c.member_count-count.result c.member_count-count.ensures.count _ (c.in_ok-tasks.ensures.tasks ∙ startup_opens L c.links.ensures.shape) c.in_ok-core.core (c.in_ok-core.ensures.opened (set_loading L))
