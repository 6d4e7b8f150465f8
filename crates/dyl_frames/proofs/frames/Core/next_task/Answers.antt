use Rattle.dyl_frames.proofs.Tasks.{frames_there, tasks_inside}
use Rattle.dyl_frames.proofs.frames.Core.next_task.Goals as goal

pub top_task-requires : goal.top_task-requires
top_task-requires g c = frames_there (g.V.View.seen c.args.view.now).fixed (g.V.View.seen c.args.view.now).units (g.V.View.seen c.args.view.now).memory c.args.self.now c.requires.core.sound c.requires.marked

pub returns-clause-member : goal.returns-clause-member
returns-clause-member g c = tasks_inside (g.V.View.seen c.args.view.now).fixed (g.V.View.seen c.args.view.now).units (g.V.View.seen c.args.view.now).memory c.args.self.now c.requires.core.sound c.requires.marked c.top_task.result c.top_task.ensures
