use Rattle.std.proofs.Common.{refl, [], ◌∷◌}
use Rattle.dyl_frames.proofs.Giving.{gives_from, gives_core}
use Rattle.dyl_frames.specs.declared.frames.Core.{Core}
use Rattle.dyl_frames.proofs.FewFrames.{few_received}
use Rattle.dyl_frames.proofs.frames.Core.give.Goals as goal

pub returns-clause-stepped : goal.returns-clause-stepped
returns-clause-stepped g c D = gives_from (g.V.View.seen c.args.view.now) c.args.self.now c.requires.core.sound c.requires.loading c.args.n c.args.errors c.give.new.self c.give.ensures.received D

pub returns-clause-core : goal.returns-clause-core
returns-clause-core g c =
    let w = g.V.View.seen c.args.view.now in
    let new : Core = record c.args.self.now { machine = c.give.new.self; error = c.args.errors } in
    record {
      sound = gives_core w c.args.self.now c.requires.core.sound c.requires.loading c.args.n c.args.errors c.give.new.self c.give.ensures.received c.give.ensures.over;
      few = few_received c.args.self.now c.requires.core.few new (c.args.n ∷ []) refl refl refl c.give.ensures.received;
    }
