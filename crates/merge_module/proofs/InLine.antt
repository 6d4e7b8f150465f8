-- How much there is to write of the merged module: in line with its set.
use Rattle.std.proofs.Common.{ℕ, ◌+◌, ◌*◌, ◌≤◌, [], length, map, arith}
use Rattle.std.specs.List.{All}
use Rattle.spec_loading.specs.spec_linking.LinkedSets.{LinkedSet, hosts_of}
use Rattle.spec_loading.specs.spec_linking.Slots.{linked_plan}
use Rattle.wasm_encode.specs.Laws.{WeightIsLeast}
use Rattle.wasm_encode.specs.Weight.{weight}
use Rattle.merge_find.specs.Shape.{SearchIsSmall}
use Rattle.merge_module.specs.MergedModule.{first_use, host_type_number}
use Rattle.merge_module.specs.Laws.{most_weight}
use Rattle.merge_module.proofs.Known.{IsKnown}
use Rattle.merge_module.proofs.AddedTypes.{added_bulk}
use Rattle.merge_module.proofs.MergedSpaces.{funcs_many}
use Rattle.merge_module.proofs.Opens.{N, X, M}
use Rattle.merge_module.proofs.HostWeights.{hosts_light}
use Rattle.merge_module.proofs.Bounds.{IsLight, members_light, types_weigh, elems_weigh, datas_weigh}
use Rattle.merge_module.proofs.LightGlobals.{globals_weigh, tables_many}
use Rattle.merge_module.proofs.LightCode.{codes_weigh}

module _ (small : SearchIsSmall) (least : WeightIsLeast) (L : LinkedSet) (K : IsKnown L) (few : (linked_plan L).pages_max ≤ 16384) where
  light : All IsLight L.set.members
  light = members_light least L.set.members K.set.members

  pub merged_in_line : weight (M L K few) ≤ most_weight L
  merged_in_line =
      let types = types_weigh L K few light in
      let added = added_bulk (first_use L) [] 0 (hosts_of L) in
      let imports = hosts_light L (host_type_number L) light in
      let funcs = funcs_many L (N L K few) (X L K few) K.set in
      let tables = tables_many L K few in
      let globals = globals_weigh L K few in
      let elems = elems_weigh L K few light in
      let codes = codes_weigh small L K few light in
      let datas = datas_weigh L K few light in
      omega arith
