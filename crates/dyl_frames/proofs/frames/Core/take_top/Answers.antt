use Rattle.std.proofs.Common.{refl, rules, ◌-◌}
use Rattle.dyl_frames.proofs.Tops.{takes}
use Rattle.dyl_frames.proofs.frames.Core.take_top.Goals as goal

pub returns : goal.returns
returns c =
    takes c.args.self.now c.take_task.new.frame c.index_mut.result.now (c.len-last.result - 1) c.len-last.result c.requires.frames (search rules) refl c.index_mut.ensures.value c.take_task.ensures
