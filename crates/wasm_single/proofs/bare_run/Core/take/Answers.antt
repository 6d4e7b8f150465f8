use Rattle.std.proofs.Common.{refl}
use Rattle.wasm_single.proofs.Calling.{over_view}
use Rattle.wasm_single.proofs.CoreSteps.{fits_view, core_answered}
use Rattle.wasm_single.proofs.bare_run.Core.take.Goals as goal

pub answer-requires : goal.answer-requires
answer-requires c κs = ((refl, tt), (over_view c.args.self.now c.requires.core, fits_view c.args.self.now c.args.a.now c.requires.core c.requires.fits))

pub returns-clause-core : goal.returns-clause-core
returns-clause-core c =
    core_answered c.args.self.now c.answer.new.view c.answer.new.self c.args.a.now c.requires.core c.requires.fits c.answer.ensures.fixed c.answer.ensures.over c.answer.ensures.answered
