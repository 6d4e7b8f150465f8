use Rattle.std.proofs.Common.{take}
use Rattle.std.specs.List.{All}
use Rattle.spec_reading.specs.spec_binary.WellFormed.{IsFormedType}
use Rattle.merge_whole.proofs.sets.check_types.Given as goal

abbrev pub invariant-loop-ty : goal.invariant-loop-ty
invariant-loop-ty l = All IsFormedType (take l.ty-index l.types)
