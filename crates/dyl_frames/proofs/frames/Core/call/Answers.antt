use Rattle.std.proofs.Common.{sym, ◌∙◌, []}
use Rattle.spec_loading.specs.spec_execution.Runs.{call}
use Rattle.wasm_step.specs.Moves.{between}
use Rattle.dyl_frames.specs.Cores.{raised_stages}
use Rattle.dyl_frames.proofs.CodeSteps.{with_machine}
use Rattle.dyl_frames.proofs.Tasks.{live_mark, unmade_call, made_call, called_core, finished_core, raised_count}
use Rattle.dyl_frames.proofs.FewFrames.{few_finished, few_unmade}
use Rattle.dyl_frames.proofs.frames.Core.call.Goals as goal

pub returns-then-is_deep-clause-stepped : goal.returns-then-is_deep-clause-stepped
returns-then-is_deep-clause-stepped g c D loaded callee =
    unmade_call D (g.V.View.seen c.args.view.now) loaded c.args.self.now c.begin.new.self c.requires.core.sound c.requires.marked c.args.task c.requires.task c.requires.behind c.requires.calls c.args.r callee c.in_ok-event.event c.in_ok-event.ensures.told
    (sym c.is_deep.ensures ∙ c.if-is_deep.true)

pub returns-clause-stepped : goal.returns-clause-stepped
returns-clause-stepped g c D loaded callee =
    made_call D (g.V.View.seen c.args.view.now) loaded c.args.self.now c.begin.new.self c.requires.core.sound c.requires.marked c.args.task c.requires.task c.requires.behind c.requires.calls c.args.r callee c.in_ok-event.event c.in_ok-event.ensures.told
    c.in_ok-event.ensures.over c.finish.new.self c.finish.ensures (sym c.is_deep.ensures ∙ c.if-is_deep.false) c.requires.nullary

pub returns-then-is_deep-clause-core : goal.returns-then-is_deep-clause-core
returns-then-is_deep-clause-core g c =
    let w = g.V.View.seen c.args.view.now in
    record {
      sound = called_core w c.args.self.now c.begin.new.self c.requires.core.sound c.requires.marked.0 c.args.r c.in_ok-event.event c.requires.nullary c.in_ok-event.ensures.told c.in_ok-event.ensures.over;
      few = few_unmade c.args.self.now c.requires.core.few w.fixed (call w.fixed w.units w.memory (λ _. c.args.self.now.machine.stack.frames) [] c.args.r) c.begin.new.self (between w w) c.in_ok-event.event
          c.in_ok-event.ensures.told.1 (sym c.is_deep.ensures ∙ c.if-is_deep.true);
    }

pub returns-clause-core : goal.returns-clause-core
returns-clause-core g c =
    let w = g.V.View.seen c.args.view.now in
    let old = c.args.self.now in
    let task = c.args.task in
    let m = live_mark w.fixed w.units w.memory old c.requires.core.sound c.requires.marked in
    let called = called_core w old c.begin.new.self c.requires.core.sound c.requires.marked.0 c.args.r c.in_ok-event.event c.requires.nullary c.in_ok-event.ensures.told c.in_ok-event.ensures.over in
    record {
      sound = finished_core w.fixed w.units w.memory (raised_stages old task) m.number (with_machine old c.begin.new.self) c.finish.new.self c.finish.ensures m.count called (raised_count old task);
      few = few_finished old c.requires.core.few task c.begin.new.self c.finish.new.self c.requires.behind c.finish.ensures;
    }
