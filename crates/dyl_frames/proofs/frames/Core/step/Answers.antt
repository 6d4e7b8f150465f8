use Rattle.std.specs.Prelude.{Result, Ok, Err, OnOk}
use Rattle.spec_loading.specs.wasm_form.declared.Memory.{Memory}
use Rattle.spec_loading.specs.spec_runtime.Memories.{MemoryInstance}
use Rattle.spec_loading.specs.spec_execution.Views.{View}
use Rattle.wasm_step.specs.Moves.{between}
use Rattle.wasm_machine.specs.declared.event.Event.{Event}
use Rattle.dyl_frames.specs.declared.frames.Core.{Core}
use Rattle.dyl_frames.specs.Cores.{IsSound, HasFewFrames, IsCore}
use Rattle.dyl_frames.proofs.CodeSteps.{with_machine, core_after, mark_told, steps_after, wanting_after}
use Rattle.dyl_frames.proofs.FewFrames.{few_after}
use Rattle.dyl_frames.proofs.frames.Core.step.Goals as goal

both : {Units : Type 0} (V : View Units) (us : Units) (memory : MemoryInstance) (c : Core) (r : Result Event Memory) → OnOk r (IsSound V us memory c) → OnOk r (HasFewFrames c) → OnOk r (IsCore V us memory c)
both V us memory c (Ok e) sound few = record { sound = sound; few = few }
both V us memory c (Err e) sound few = tt

pub returns-clause-stepped : goal.returns-clause-stepped
returns-clause-stepped g c =
    steps_after (g.V.View.seen c.args.view.now) (g.V.View.seen c.step_apart.new.view) c.args.self.now c.step_apart.new.self c.requires.core.sound c.requires.moving c.step_apart.result c.step_apart.ensures.stepped c.step_apart.ensures.over

pub returns-clause-core : goal.returns-clause-core
returns-clause-core g c =
    let w = g.V.View.seen c.args.view.now in
    let w' = g.V.View.seen c.step_apart.new.view in
    both w.fixed w'.units w'.memory (with_machine c.args.self.now c.step_apart.new.self) c.step_apart.result
    (core_after w w' c.args.self.now c.step_apart.new.self c.requires.core.sound c.requires.moving c.step_apart.result c.step_apart.ensures.stepped c.step_apart.ensures.over)
    (few_after c.args.self.now c.requires.core.few w.fixed c.step_apart.new.self (between w w') c.step_apart.result c.step_apart.ensures.stepped)

pub returns-clause-marked : goal.returns-clause-marked
returns-clause-marked g c =
    mark_told (g.V.View.seen c.args.view.now) (g.V.View.seen c.step_apart.new.view) c.args.self.now c.step_apart.new.self c.step_apart.ensures.fixed c.requires.moving c.step_apart.result c.step_apart.ensures.stepped

pub returns-clause-wanting : goal.returns-clause-wanting
returns-clause-wanting g c = wanting_after (g.V.View.seen c.args.view.now) c.args.self.now c.requires.moving c.step_apart.result c.step_apart.ensures.wanting
