use Rattle.std.proofs.Common.{◌≡◌, ◌++◌, drop}
use Rattle.dyl_slots.specs.Placings.{base_numbers}
use Rattle.dyl_slots.proofs.placings.base_numbers.Given as goal

abbrev pub invariant-loop-i : goal.invariant-loop-i
invariant-loop-i l = l.numbers.items ++ base_numbers l.bases (drop l.i-index l.imports) ≡ base_numbers l.bases l.imports
