use Rattle.std.proofs.Common.{◌≡◌, ◌∙◌, length, refl, rules, arith}
use Rattle.dyl_frames.specs.declared.frames.Pending.{Pending}
use Rattle.dyl_frames.specs.declared.frames.Core.{Core}
use Rattle.dyl_frames.proofs.Giving.{loading_live, on_top, opens_from, opens_core}
use Rattle.dyl_frames.proofs.FewFrames.{few_running, few_opened}
use Rattle.dyl_frames.proofs.frames.Core.open.Goals as goal

pub as_tag-tag-requires : goal.as_tag-tag-requires
as_tag-tag-requires g c =
    let w = g.V.View.seen c.args.view.now in
    let old = c.args.self.now in
    let many : c.len.result ≡ length old.frames.items = search rules in
    let few = few_running old c.requires.core.few (loading_live w.fixed w.units w.memory old c.requires.core.sound c.requires.loading).1 in
    omega (arith, few, many)

pub returns-clause-stepped : goal.returns-clause-stepped
returns-clause-stepped g c D =
    let p : Pending = record { tasks = c.args.tasks; after = c.args.after } in
    let many : c.len.result ≡ length c.args.self.now.frames.items = search rules in
    let new : Core = record c.args.self.now { machine = c.mark.new.self; frames = c.push.new.self } in
    opens_from (g.V.View.seen c.args.view.now) c.args.self.now c.requires.core.sound c.requires.loading c.args.tasks.items c.args.after c.requires.hands c.as_tag-tag.result c.mark.new.self c.in_ok-mark.ensures.marked new p refl c.in_ok-push.ensures.items refl refl refl refl
    (c.as_tag-tag.ensures ∙ many) D

pub returns-clause-core : goal.returns-clause-core
returns-clause-core g c =
    let p : Pending = record { tasks = c.args.tasks; after = c.args.after } in
    let many : c.len.result ≡ length c.args.self.now.frames.items = search rules in
    let new : Core = record c.args.self.now { machine = c.mark.new.self; frames = c.push.new.self } in
    let w = g.V.View.seen c.args.view.now in
    let old = c.args.self.now in
    let tag = c.as_tag-tag.ensures ∙ many in
    let sound = opens_core w old c.requires.core.sound c.requires.loading c.args.tasks.items c.args.after c.requires.hands c.as_tag-tag.result c.mark.new.self c.in_ok-mark.ensures.marked new p refl c.in_ok-push.ensures.items refl refl refl refl
    tag c.in_ok-mark.ensures.over c.requires.tasks c.requires.handle in
    let top = on_top w old c.requires.core.sound c.requires.loading c.args.tasks.items c.args.after c.requires.hands c.as_tag-tag.result c.mark.new.self c.in_ok-mark.ensures.marked new p refl c.in_ok-push.ensures.items refl refl refl refl tag in
    let few = few_opened old c.requires.core.few new p c.as_tag-tag.result old.machine.stack.frames c.in_ok-push.ensures.items refl refl top (loading_live w.fixed w.units w.memory old c.requires.core.sound c.requires.loading).1 in
    record { sound = sound; few = few }
