use Rattle.std.proofs.Common.{refl, ap, sym, subst, inr}
use Rattle.std.specs.Prelude.{Result}
use Rattle.spec_loading.specs.wasm_form.declared.runtime.Trap.{Trap}
use Rattle.wasm_machine.specs.Machines.{MachineState, IsMarked}
use Rattle.dyl_frames.specs.Cores.{raised_stages, PlacesFrom}
use Rattle.dyl_frames.proofs.Tasks.{live_mark, placed_steps, trap_steps, trapped_core, finished_core, raised_count}
use Rattle.dyl_frames.proofs.FewFrames.{few_finished, few_ended}
use Rattle.dyl_frames.proofs.frames.Core.placed.Goals as goal

pub trap-requires : goal.trap-requires
trap-requires g c = inr (subst IsMarked (sym c.finish.ensures.machine) c.requires.marked)

pub returns-in-Ok-clause-stepped : goal.returns-in-Ok-clause-stepped
returns-in-Ok-clause-stepped g c D before places s k =
    let m = live_mark (g.V.View.seen c.args.view.now).fixed (g.V.View.seen c.args.view.now).units (g.V.View.seen c.args.view.now).memory c.args.self.now c.requires.core.sound c.requires.marked in
    placed_steps D s c.args.self.now c.finish.new.self before.units (g.V.View.seen c.args.view.now).units before.memory (g.V.View.seen c.args.view.now).memory k c.requires.marked.0 m c.args.task c.requires.task (raised_stages c.args.self.now c.args.task) c.finish.ensures c.requires.behind refl c.requires.places
    (subst (λ (o : Result (Unit {0}) Trap). PlacesFrom D c.args.task.member before o (g.V.View.seen c.args.view.now)) c.in-Ok.is places)

pub returns-in-Ok-clause-core : goal.returns-in-Ok-clause-core
returns-in-Ok-clause-core g c =
    let w = g.V.View.seen c.args.view.now in
    let old = c.args.self.now in
    let task = c.args.task in
    let m = live_mark w.fixed w.units w.memory old c.requires.core.sound c.requires.marked in
    let sound = finished_core w.fixed w.units w.memory (raised_stages old task) m.number old c.finish.new.self c.finish.ensures m.count c.requires.core.sound (raised_count old task) in
    let few = few_finished old c.requires.core.few task old.machine c.finish.new.self c.requires.behind c.finish.ensures in
    record { sound = sound; few = few }

pub returns-in-Err-clause-stepped : goal.returns-in-Err-clause-stepped
returns-in-Err-clause-stepped g c D before places s k =
    let m = live_mark (g.V.View.seen c.args.view.now).fixed (g.V.View.seen c.args.view.now).units (g.V.View.seen c.args.view.now).memory c.args.self.now c.requires.core.sound c.requires.marked in
    trap_steps D s c.args.self.now c.finish.new.self before.units (g.V.View.seen c.args.view.now).units before.memory (g.V.View.seen c.args.view.now).memory k c.requires.marked.0 m c.args.task c.requires.task (raised_stages c.args.self.now c.args.task) c.finish.ensures c.requires.behind refl c.requires.places
    c.in-Err.why c.trap.new.self (ap (λ (x : MachineState). x.standing) c.trap.ensures)
    (subst (λ (o : Result (Unit {0}) Trap). PlacesFrom D c.args.task.member before o (g.V.View.seen c.args.view.now)) c.in-Err.is places)

pub returns-in-Err-clause-core : goal.returns-in-Err-clause-core
returns-in-Err-clause-core g c =
    let w = g.V.View.seen c.args.view.now in
    let old = c.args.self.now in
    let task = c.args.task in
    let m = live_mark w.fixed w.units w.memory old c.requires.core.sound c.requires.marked in
    let sound = finished_core w.fixed w.units w.memory (raised_stages old task) m.number old c.finish.new.self c.finish.ensures m.count c.requires.core.sound (raised_count old task) in
    let few = few_finished old c.requires.core.few task old.machine c.finish.new.self c.requires.behind c.finish.ensures in
    record {
      sound = trapped_core w.fixed w.units w.memory c.finish.new.self c.in-Err.why c.trap.new.self sound c.trap.ensures;
      few = few_ended c.finish.new.self few c.trap.new.self (ap (λ (x : MachineState). x.stack.frames) c.trap.ensures);
    }
