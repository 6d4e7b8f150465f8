use Rattle.std.proofs.Common.{subst, arith}
use Rattle.std.specs.List.{All}
use Rattle.std.proofs.lemmas.List.{take_all}
use Rattle.spec_reading.specs.spec_binary.WellFormed.{IsFormedType}
use Rattle.merge_whole.proofs.Little.{types_next}
use Rattle.merge_whole.proofs.sets.check_types.Goals as goal

pub loop-ty-preserved : goal.loop-ty-preserved
loop-ty-preserved c =
    types_next c.args.types.now c.loop-ty.ty-index c.ty-item.result c.loop-ty-test.true c.ty-item.is c.in_ok-check_type.ensures c.loop-ty.invariant

pub returns : goal.returns
returns c = subst (All IsFormedType) (take_all c.loop-ty.ty-index c.args.types.now (omega arith)) c.loop-ty.invariant
