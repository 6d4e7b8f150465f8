use Rattle.std.proofs.Common.{◌≡◌, ◌++◌, drop}
use Rattle.dyl_link.proofs.linked_set.function_type.Given as goal

abbrev pub invariant-loop-ty : goal.invariant-loop-ty
invariant-loop-ty l = l.taken.items ++ drop l.ty-index l.params ≡ l.params
