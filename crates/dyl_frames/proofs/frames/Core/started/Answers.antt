use Rattle.std.proofs.Common.{List, slice_get, ap, ◌∙◌, subst}
use Rattle.dyl_frames.specs.declared.frames.Pending.{Pending}
use Rattle.dyl_frames.specs.Cores.{first_calls}
use Rattle.dyl_frames.proofs.Started.{IsGoing, started_by}
use Rattle.dyl_frames.proofs.frames.Core.started.Goals as goal

pub returns-in-Moving : goal.returns-in-Moving
returns-in-Moving g c = λ D s k.
    let w = g.V.View.seen c.args.view.now in
    started_by D w.fixed w.units w.memory c.args.self.now c.requires.core.sound s k c.first_calls.result (c.first_calls.ensures ∙ ap (λ (fs : List Pending). first_calls (slice_get fs 0)) c.deref.ensures.value) (subst IsGoing c.standing.ensures c.in-Moving.is)
