use Rattle.std.proofs.Common.{refl, sym, ◌∙◌}
use Rattle.std.proofs.lemmas.Result.{IfOk-weaker}
use Rattle.dyl_store.proofs.frames.follow.Goals as goal

pub enter-requires : goal.enter-requires
enter-requires g c κs =
    let entry = sym c.follows.ensures ∙ c.in-CallEntry.is in
    ((refl, tt), (c.requires.core, (c.requires.marked, (c.requires.last, (entry, (c.requires.nullary, c.requires.own))))))

pub returns-in-CallEntry-clause-stepped : goal.returns-in-CallEntry-clause-stepped
returns-in-CallEntry-clause-stepped g c = IfOk-weaker c.enter.result _ _ (λ e s D loaded serves. s D loaded serves.entry) c.enter.ensures.stepped

pub hand_over-requires : goal.hand_over-requires
hand_over-requires g c κs =
    let handle = sym c.follows.ensures ∙ c.in-GiveHandle.is in
    ((refl, tt), (c.requires.core, (c.requires.marked, (c.requires.last, handle))))

pub returns-in-GiveHandle-clause-stepped : goal.returns-in-GiveHandle-clause-stepped
returns-in-GiveHandle-clause-stepped g c D loaded serves = c.hand_over.ensures.stepped D

pub promote-requires : goal.promote-requires
promote-requires g c κs =
    let handle = sym c.follows.ensures ∙ c.in-GiveAndPromote.is in
    ((refl, tt), (c.requires.core, (c.requires.marked, (c.requires.last, (handle, c.requires.members)))))

pub returns-in-GiveAndPromote-clause-stepped : goal.returns-in-GiveAndPromote-clause-stepped
returns-in-GiveAndPromote-clause-stepped g c D loaded serves = c.promote.ensures.stepped D serves.promote
