use Rattle.std.proofs.Common.{◌≡◌, ◌++◌, drop}
use Rattle.spec_loading.specs.spec_linking.LinkedSets.{LinkedSet}
use Rattle.dyl_slots.specs.Found.{IsKnownOf, initial_values}
use Rattle.dyl_slots.proofs.cells.member_cells.Given as goal

abbrev pub invariant-loop-i : goal.invariant-loop-i
invariant-loop-i l = (L : LinkedSet) → IsKnownOf L l.known → l.cells.items ++ initial_values L l.m (drop l.i-index l.imports) ≡ initial_values L l.m l.imports
