-- How much of the merged module is kept.
use Rattle.std.proofs.Common.{◌≡◌, ℕ, ◌+◌, ◌*◌, ◌≤◌, List, [], ◌∷◌, ◌++◌, length, map, refl, arith, length-append}
use Rattle.std.specs.List.{All}
use Rattle.std.proofs.lemmas.List.{length-map}
use Rattle.std.proofs.lemmas.List.Elements.{All-head, All-tail}
use Rattle.spec_reading.specs.wasm_form.declared.module.Module.{Module}
use Rattle.spec_reading.specs.spec_binary.IndexSpaces.{function_space, imports_of, functions_in}
use Rattle.spec_loading.specs.spec_linking.Sets.{Member}
use Rattle.spec_loading.specs.spec_linking.Gathering.{total_size}
use Rattle.spec_loading.specs.spec_linking.LinkedSets.{LinkedSet}
use Rattle.spec_loading.specs.spec_linking.Slots.{linked_plan, fresh_from, fresh_functions, outside_slots}
use Rattle.spec_loading.specs.Members.{from_members}
use Rattle.spec_loading.specs.LoadedSet.{own_functions}
use Rattle.spec_loading.proofs.SlotWords.{table_within}
use Rattle.wasm_encode.specs.Weight.{sum_of, elem_weight}
use Rattle.merge_match.specs.Renumbering.{Numbers}
use Rattle.merge_index.proofs.FewItems.{total_cons}
use Rattle.merge_index.proofs.Counted.{few_bytes, few_members, few_hosts, few_of}
use Rattle.merge_module.specs.MergedModule.{exported_functions, passive_elem, slots_elem, outside_elem, declared_elem}
use Rattle.merge_module.proofs.Known.{IsKnown}
use Rattle.merge_module.proofs.MergedSpaces.{few_funcs, host_many}
use Rattle.merge_module.proofs.Opens.{N, X, M}
use Rattle.merge_module.proofs.Formed.{named_few}
use Rattle.merge_module.proofs.Weights.{sum_then, sum_same, elem_weighs}
use Rattle.merge_module.proofs.Pieces.{number_step}
use Rattle.merge_module.proofs.Bounds.{IsLight}

members_light : (n : Numbers) (k : ℕ) (xs : List Member) → All IsLight xs
    → sum_of elem_weight (from_members (λ m wasm. map (passive_elem n m) wasm.elems) k xs) ≤ total_size xs
members_light n k [] all = omega arith
members_light n k (x ∷ xs) all =
    let here = All-head IsLight x xs all in
    let own = sum_same (passive_elem n k) elem_weight elem_weight (elem_weighs n k) x.wasm.elems in
    let later = members_light n (k + 1) xs (All-tail IsLight x xs all) in
    let sum = total_cons x xs in
    let both = sum_then elem_weight (map (passive_elem n k) x.wasm.elems) (from_members (λ m wasm. map (passive_elem n m) wasm.elems) (k + 1) xs) in
    omega arith

slots_weigh : (L : LinkedSet) (n : Numbers) (k : ℕ) (xs : List Member)
    → sum_of elem_weight (from_members (λ m w. slots_elem L n m ∷ []) k xs) ≡ 2 * length xs + length (fresh_from L k xs)
slots_weigh L n k [] = refl
slots_weigh L n k (x ∷ xs) =
    let later = slots_weigh L n (k + 1) xs in
    let both = length-append (own_functions L k) (fresh_from L (k + 1) xs) in
    let here = length-map (own_functions L k) n.function in
    omega arith

module _ (L : LinkedSet) (K : IsKnown L) (few : (linked_plan L).pages_max ≤ 16384) where
  abbrev n : Numbers
  n = N L K few

  abbrev merged : Module
  merged = M L K few

  abbrev members : List Member
  members = L.set.members

  -- by the bytes of the files
  pub elems_by_bytes : All IsLight L.set.members → sum_of elem_weight merged.elems ≤ 2 * total_size members + 1050000
  elems_by_bytes light =
      let own = members_light n 0 members light in
      let slots = slots_weigh L n 0 members in
      let outside = (number_step ((linked_plan L).table_end + length (fresh_functions L))).one in
      let named = length-map (outside_slots L) n.function in
      let fresh = length-append (fresh_functions L) (outside_slots L) in
      let entries = table_within L K.links in
      let declared = few_of L K.set (λ m wasm. map (n.named m) (exported_functions wasm)) (λ k y is. (let all = is.all in let names = named_few y.wasm.exports in omega (arith, length-map (exported_functions y.wasm) (n.named k)))) in
      let count = few_members L K.set in
      let one = sum_then elem_weight (from_members (λ m wasm. map (passive_elem n m) wasm.elems) 0 members) (from_members (λ m wasm. slots_elem L n m ∷ []) 0 members ++ outside_elem L n ∷ declared_elem L n ∷ []) in
      let two = sum_then elem_weight (from_members (λ m wasm. slots_elem L n m ∷ []) 0 members) (outside_elem L n ∷ declared_elem L n ∷ []) in
      omega arith

  pub few_functions : length (function_space merged) ≤ 50400000
  few_functions =
      let own = few_funcs L n (X L K few) K.set in
      let hosts = few_hosts L K.set in
      let many = host_many L n (X L K few) in
      let bytes = few_bytes L K.set in
      let both = length-append (imports_of functions_in merged.imports) merged.funcs in
      omega arith

  pub tables_by_bytes : length merged.tables ≤ total_size members + 1
  tables_by_bytes = (let all = few_of L K.set (λ k w. w.tables) (λ k y is. (let all = is.all in omega arith)) in omega arith)
