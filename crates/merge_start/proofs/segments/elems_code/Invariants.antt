use Rattle.std.proofs.Common.{◌≡◌, ◌++◌, drop}
use Rattle.spec_loading.specs.spec_execution.Segments.{elem_effects, all_effects}
use Rattle.merge_start.specs.Words.{effects_code}
use Rattle.dyl_addresses.specs.Offsets.{number_with}
use Rattle.merge_start.specs.Listed.{numbers_at}
use Rattle.merge_start.proofs.segments.elems_code.Given as goal

abbrev pub invariant-loop-e : goal.invariant-loop-e
invariant-loop-e l =
    l.code.items ++ effects_code (numbers_at l.n l.at) 0 (all_effects (elem_effects (number_with l.bases)) l.e (drop l.e l.elems))
    ≡ effects_code (numbers_at l.n l.at) 0 (all_effects (elem_effects (number_with l.bases)) 0 l.elems)
