use Rattle.std.proofs.Common.{◌≡◌, ◌<◌, ℕ, Option, false, length, refl, sym, subst, ◌∙◌}
use Rattle.std.specs.Prelude.{IfSome}
use Rattle.std.proofs.lemmas.Result.{IfOk-weaker}
use Rattle.spec_loading.specs.declared.task.Task.{Task}
use Rattle.spec_loading.specs.declared.task.Phase.TheVariants.{Place}
use Rattle.spec_loading.specs.Members.{set_view}
use Rattle.dyl_frames.specs.Cores.{top_frame, is_behind}
use Rattle.dyl_store.proofs.Loads.{none_first, nullary_seen}
use Rattle.dyl_store.proofs.frames.proceed.Goals as goal

pub follow-requires : goal.follow-requires
follow-requires g c κs =
    let last = none_first (top_frame c.args.core.now).tasks (sym c.in-None.is ∙ c.next_task.ensures.task) in
    ((refl, tt), (c.requires.core, (c.requires.marked, (last, (c.requires.members, (c.requires.nullary, c.requires.own))))))

pub pass-requires : goal.pass-requires
pass-requires g c κs =
    let task = sym c.next_task.ensures.task ∙ c.in-Some.is in
    let there = subst (λ (o : Option Task). IfSome o (λ t. t.member < length c.args.core.now.stages)) c.in-Some.is c.next_task.ensures.member in
    let passed = subst (λ (o : Option Task). IfSome o (λ t. t.phase ≡ Place → is_behind c.args.core.now t ≡ false)) task c.requires.none (c.is_place.ensures.places c.if-is_place.true) in
    ((refl, tt), (c.requires.core, (c.requires.marked, (task, (there, passed)))))

pub returns-then-is_place-clause-stepped : goal.returns-then-is_place-clause-stepped
returns-then-is_place-clause-stepped g c D loaded serves = c.pass.ensures.stepped D

pub callee-requires : goal.callee-requires
callee-requires g c =
    let there = subst (λ (o : Option Task). IfSome o (λ t. t.member < length c.args.core.now.stages)) c.in-Some.is c.next_task.ensures.member in
    subst (λ (n : ℕ). c.in-Some.task.member < n) c.requires.members there

pub call_task-requires : goal.call_task-requires
call_task-requires g c κs =
    let task = sym c.next_task.ensures.task ∙ c.in-Some.is in
    let there = subst (λ (o : Option Task). IfSome o (λ t. t.member < length c.args.core.now.stages)) c.in-Some.is c.next_task.ensures.member in
    let callable = nullary_seen (g.V.View.seen c.args.view.now).fixed (set_view c.args.linked.now) c.requires.types c.callee.result c.callee.ensures.nullary in
    ((refl, tt), (c.requires.core, (c.requires.marked, (task, (there, (c.is_place.ensures.calls c.if-is_place.false, callable))))))

pub returns-else-is_place-clause-stepped : goal.returns-else-is_place-clause-stepped
returns-else-is_place-clause-stepped g c =
    IfOk-weaker c.call_task.result _ _
    (λ e s D loaded serves. s D loaded (serves.callee c.in-Some.task.phase c.in-Some.task.member ∙ c.callee.ensures.found)) c.call_task.ensures.stepped
