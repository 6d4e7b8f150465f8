-- No section of the merged module of a brief set is too long to be written.
use Rattle.std.proofs.Common.{ℕ, ◌+◌, ◌*◌, ◌≤◌, ◌<◌, ◌^◌, List, length, arith}
use Rattle.std.specs.List.{All}
use Rattle.spec_reading.specs.wasm_form.declared.module.Module.{Module}
use Rattle.spec_loading.specs.spec_linking.LinkedSets.{LinkedSet}
use Rattle.spec_loading.specs.spec_linking.Slots.{linked_plan}
use Rattle.wasm_encode.specs.SectionSizes.{types, imports, funcs, tables, memories, globals, exports, elems, codes, datas, IsContents}
use Rattle.wasm_encode.specs.Laws.{WeightIsLeast, SectionsAreBounded, BodiesAreBounded}
use Rattle.wasm_encode.specs.Weight.{sum_of, type_weight, import_weight, global_weight, export_weight, elem_weight, code_weight, data_weight}
use Rattle.merge_module.specs.MergedModule.{host_type_number}
use Rattle.merge_module.specs.Laws.{IsBrief, AreShort}
use Rattle.merge_module.proofs.Known.{IsKnown}
use Rattle.merge_index.proofs.Counted.{few_bytes}
use Rattle.merge_module.proofs.HostWeights.{hosts_light}
use Rattle.merge_module.proofs.MergedSpaces.{few_funcs}
use Rattle.merge_module.proofs.Opens.{N, X, M}
use Rattle.merge_module.proofs.Bounds.{IsLight, members_light, types_light, elems_light, datas_light}
use Rattle.merge_module.proofs.LightGlobals.{globals_light, few_tables}
use Rattle.merge_find.specs.Shape.{SearchIsSmall}
use Rattle.merge_module.proofs.LightCode.{codes_light}

module _ (small : SearchIsSmall) (least : WeightIsLeast) (sections : SectionsAreBounded) (bodies : BodiesAreBounded) (L : LinkedSet) (K : IsKnown L) (few : (linked_plan L).pages_max ≤ 16384) (brief : IsBrief L) where
  abbrev merged : Module
  merged = M L K few

  light : All IsLight L.set.members
  light = members_light least L.set.members K.set.members

  contents_short : {id : ℕ} {w : List ℕ} → IsContents merged id w → length w < 2 ^ 32
  contents_short {w} (types s) =
      let most : length w ≤ 16 * sum_of type_weight merged.types + 16 = sections merged 1 w (types s) in
      let all = types_light L K few light brief.types in
      omega arith
  contents_short {w} (imports s) =
      let most : length w ≤ 16 * sum_of import_weight merged.imports + 16 = sections merged 2 w (imports s) in
      let all = hosts_light L (host_type_number L) light in
      let bytes = few_bytes L K.set in
      omega arith
  contents_short {w} (funcs s) =
      let most : length w ≤ 16 * length merged.funcs + 16 = sections merged 3 w (funcs s) in
      let all = few_funcs L (N L K few) (X L K few) K.set in
      omega arith
  contents_short {w} (tables s) =
      let most : length w ≤ 16 * length merged.tables + 16 = sections merged 4 w (tables s) in
      let all = few_tables L K few in
      omega arith
  contents_short {w} (memories s) = (let most : length w ≤ 16 * length merged.memories + 16 = sections merged 5 w (memories s) in omega arith)
  contents_short {w} (globals s) =
      let most : length w ≤ 16 * sum_of global_weight merged.globals + 16 = sections merged 6 w (globals s) in
      let all = globals_light L K few in
      omega arith
  contents_short {w} (exports s) = (let most : length w ≤ 16 * sum_of export_weight merged.exports + 16 = sections merged 7 w (exports s) in omega arith)
  contents_short {w} (elems s) =
      let most : length w ≤ 16 * sum_of elem_weight merged.elems + 16 = sections merged 9 w (elems s) in
      let all = elems_light L K few light in
      omega arith
  contents_short {w} (codes s) =
      let most : length w ≤ 16 * sum_of code_weight merged.codes + 16 = sections merged 10 w (codes s) in
      let all = codes_light small L K few light brief.names in
      omega arith
  contents_short {w} (datas s) =
      let most : length w ≤ 16 * sum_of data_weight merged.datas + 16 = sections merged 11 w (datas s) in
      let all = datas_light L K few light in
      omega arith

  pub merged_short : AreShort merged
  merged_short = record {
    contents = contents_short;
    bodies = λ c has w s.
        (let most : length w ≤ 16 * sum_of code_weight merged.codes = bodies merged c has w s in let all = codes_light small L K few light brief.names in omega arith);
  }
