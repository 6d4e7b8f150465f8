use Rattle.std.proofs.Common.{refl, ap}
use Rattle.wasm_machine.specs.Machines.{MachineState}
use Rattle.spec_loading.specs.declared.task.After.TheVariants as after
use Rattle.dyl_frames.specs.declared.frames.Pending.{Pending}
use Rattle.dyl_frames.specs.declared.frames.Core.{Core}
use Rattle.dyl_frames.proofs.Opening.{one_frame, opened_core, on_stack, tasks_small}
use Rattle.dyl_frames.proofs.FewFrames.{few_first}
use Rattle.dyl_frames.proofs.frames.Core.new.Goals as goal

pub returns-clause-core : goal.returns-clause-core
returns-clause-core g c =
    let w = g.V.View.seen c.args.view.now in
    let p : Pending = record { tasks = c.args.tasks; after = after.CallEntry } in
    let core : Core = record { machine = c.mark.new.self; frames = c.push.new.self; stages = c.in_ok-stages.stages; promoted = c.in_ok-promoted.promoted; error = c.new-error.result } in
    let frames = one_frame c.push.new.self.items c.new-frames.result.items p c.in_ok-push.ensures.items c.new-frames.ensures.items in
    let bare = ap (λ (m : MachineState). m.stack.frames) c.new-machine.ensures in
    let marked = c.in_ok-mark.ensures.marked in
    record {
      sound = opened_core w c.args.members c.args.tasks.items core p c.new-machine.result frames refl refl c.in_ok-stages.ensures c.new-error.ensures c.in_ok-promoted.ensures bare marked
          c.in_ok-mark.ensures.over (tasks_small c.args.members c.args.tasks.items c.requires.tasks);
      few = few_first c.args.members core p c.requires.few frames c.in_ok-stages.ensures c.in_ok-promoted.ensures
          (on_stack w c.args.members c.args.tasks.items core p c.new-machine.result frames refl refl c.in_ok-stages.ensures c.new-error.ensures c.in_ok-promoted.ensures bare marked);
    }
