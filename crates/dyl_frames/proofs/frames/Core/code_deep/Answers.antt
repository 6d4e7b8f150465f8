use Rattle.dyl_frames.proofs.Deep.{code_tells}
use Rattle.dyl_frames.proofs.frames.Core.code_deep.Goals as goal

pub returns : goal.returns
returns g c D loaded = code_tells D (g.V.View.seen c.args.view.now) loaded c.args.self.now c.requires.core.sound c.requires.moving c.deep.result c.requires.code c.deep.ensures
