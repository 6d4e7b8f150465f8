use Rattle.std.proofs.Common.{◌≡◌, ◌++◌, drop}
use Rattle.spec_loading.specs.spec_execution.Segments.{data_effects, all_effects}
use Rattle.merge_start.specs.Words.{effects_code}
use Rattle.dyl_addresses.specs.Offsets.{number_with}
use Rattle.merge_start.specs.Listed.{numbers_at}
use Rattle.merge_start.proofs.segments.datas_code.Given as goal

abbrev pub invariant-loop-d : goal.invariant-loop-d
invariant-loop-d l =
    l.code.items ++ effects_code (numbers_at l.n l.at) 0 (all_effects (data_effects (number_with l.bases)) l.d (drop l.d l.datas))
    ≡ effects_code (numbers_at l.n l.at) 0 (all_effects (data_effects (number_with l.bases)) 0 l.datas)
