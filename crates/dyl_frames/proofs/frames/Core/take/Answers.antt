use Rattle.std.proofs.Common.{refl}
use Rattle.dyl_frames.proofs.Answering.{fits_answer, taken_from, taken_core}
use Rattle.wasm_step.specs.Moves.{between}
use Rattle.dyl_frames.proofs.FewFrames.{few_answered}
use Rattle.dyl_frames.proofs.frames.Core.take.Goals as goal

pub answer-requires : goal.answer-requires
answer-requires g c κs = ((refl, tt), (c.requires.core.sound.over, fits_answer (g.V.View.seen c.args.view.now).fixed (g.V.View.seen c.args.view.now).memory c.args.a.now c.args.self.now.machine.standing c.requires.fits))

pub returns-clause-taken : goal.returns-clause-taken
returns-clause-taken g c D loaded = taken_from D (g.V.View.seen c.args.view.now) (g.V.View.seen c.answer.new.view) c.args.self.now c.answer.new.self c.args.a.now c.requires.fits c.answer.ensures.answered

pub returns-clause-core : goal.returns-clause-core
returns-clause-core g c =
    let w = g.V.View.seen c.args.view.now in
    let w' = g.V.View.seen c.answer.new.view in
    record {
      sound = taken_core w w' c.args.self.now c.answer.new.self c.args.a.now c.requires.core.sound c.requires.fits c.answer.ensures.answered c.answer.ensures.over;
      few = few_answered c.args.self.now c.requires.core.few c.args.a.now c.answer.new.self (between w w') c.answer.ensures.answered;
    }
