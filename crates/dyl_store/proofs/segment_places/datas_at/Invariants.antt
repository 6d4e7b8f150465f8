use Rattle.std.proofs.Common.{◌≡◌, ◌++◌, drop, map}
use Rattle.dyl_addresses.specs.Offsets.{number_with}
use Rattle.dyl_store.specs.Placements.{data_offset}
use Rattle.dyl_store.proofs.segment_places.datas_at.Given as goal

abbrev pub invariant-loop-segment : goal.invariant-loop-segment
invariant-loop-segment l = l.ats.items ++ map (data_offset (number_with l.bases)) (drop l.segment-index l.segments) ≡ map (data_offset (number_with l.bases)) l.segments
