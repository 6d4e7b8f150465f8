use Rattle.std.proofs.Common.{◌≡◌, drop, map}
use Rattle.dyl_scope.specs.Names.{definition_value}
use Rattle.dyl_scope.specs.Definers.{with_definers}
use Rattle.dyl_scope.proofs.definers.Definers.add_all.Given as goal

abbrev pub invariant-loop-d : goal.invariant-loop-d
invariant-loop-d l = with_definers l.m (map definition_value (drop l.d-index l.definitions)) l.self ≡ with_definers l.m (map definition_value l.definitions) l.initial.self
