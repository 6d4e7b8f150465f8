use Rattle.std.proofs.Common.{◌≡◌, ◌<◌, Option, false, length, sym, subst, ◌∙◌}
use Rattle.std.specs.Prelude.{IfSome}
use Rattle.spec_loading.specs.declared.task.Task.{Task}
use Rattle.spec_loading.specs.declared.task.Phase.TheVariants.{Place}
use Rattle.dyl_frames.specs.Cores.{is_behind}
use Rattle.dyl_store.proofs.frames.placing.Goals as goal

pub returns-in-None : goal.returns-in-None
returns-in-None g c =
    subst (λ (o : Option Task). IfSome o (λ t. t.phase ≡ Place → is_behind c.args.core.now t ≡ false)) (sym c.in-None.is ∙ c.next_task.ensures.task) tt

pub returns-then-not-is_place : goal.returns-then-not-is_place
returns-then-not-is_place g c =
    subst (λ (o : Option Task). IfSome o (λ t. t.phase ≡ Place → is_behind c.args.core.now t ≡ false)) (sym c.in-Some.is ∙ c.next_task.ensures.task)
    (λ place. absurd (c.is_place.ensures.calls c.if-not-is_place.true place))

pub returns-then-not-is_behind : goal.returns-then-not-is_behind
returns-then-not-is_behind g c =
    subst (λ (o : Option Task). IfSome o (λ t. t.phase ≡ Place → is_behind c.args.core.now t ≡ false)) (sym c.in-Some.is ∙ c.next_task.ensures.task)
    (λ place. sym c.is_behind.ensures ∙ c.if-not-is_behind.true)

pub returns-else-not-is_behind : goal.returns-else-not-is_behind
returns-else-not-is_behind g c = record {
  next = sym c.next_task.ensures.task ∙ c.in-Some.is;
  member = subst (λ (o : Option Task). IfSome o (λ t. t.member < length c.args.core.now.stages)) c.in-Some.is c.next_task.ensures.member;
  places = c.is_place.ensures.places c.if-not-is_place.false;
  behind = sym c.is_behind.ensures ∙ c.if-not-is_behind.false;
}
