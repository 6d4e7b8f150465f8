-- How much the types and the segments of the merged module weigh.
use Rattle.std.proofs.Common.{◌≡◌, ℕ, ◌+◌, ◌*◌, ◌≤◌, List, [], ◌∷◌, ◌++◌, length, map, refl, arith, length-append}
use Rattle.std.specs.List.{All}
use Rattle.std.proofs.lemmas.List.{length-map}
use Rattle.std.proofs.lemmas.List.Elements.{All-nil, All-cons, All-head, All-tail}
use Rattle.spec_reading.specs.wasm_form.declared.types.FuncType.{FuncType}
use Rattle.spec_reading.specs.wasm_form.declared.module.Module.{Module}
use Rattle.spec_loading.specs.spec_linking.Sets.{Member}
use Rattle.spec_loading.specs.spec_linking.Gathering.{total_size, IsMember}
use Rattle.spec_loading.specs.spec_linking.LinkedSets.{LinkedSet}
use Rattle.spec_loading.specs.spec_linking.Slots.{linked_plan, fresh_from, fresh_functions, outside_slots, table_entries}
use Rattle.spec_loading.specs.Members.{from_members}
use Rattle.spec_loading.specs.LoadedSet.{own_functions}
use Rattle.spec_loading.proofs.Rows.{texts_length}
use Rattle.wasm_encode.specs.Laws.{WeightIsLeast}
use Rattle.wasm_encode.specs.Weight.{sum_of, type_weight, expr_weight, elem_weight, data_weight, weight}
use Rattle.merge_match.specs.Renumbering.{Numbers}
use Rattle.merge_dl.specs.Words.{handle_type, unary_type, binary_type, search_type}
use Rattle.merge_module.specs.MergedModule.{members_types, generated_functions_types, added_types, number_expr, exported_functions, passive_elem, slots_elem, outside_elem, declared_elem, passive_data, texts_segment}
use Rattle.merge_module.specs.Laws.{types_bulk}
use Rattle.merge_module.proofs.Known.{IsKnown}
use Rattle.merge_module.proofs.WithLoader.{with_either}
use Rattle.merge_index.proofs.FewItems.{member_text, total_cons}
use Rattle.merge_index.proofs.Counted.{few_bytes, few_members, few_of}
use Rattle.spec_loading.proofs.SlotWords.{table_within}
use Rattle.merge_module.proofs.Opens.{N, M}
use Rattle.merge_module.proofs.Formed.{named_few}
use Rattle.merge_module.proofs.Weights.{sum_then, sum_same, elem_weighs, data_weighs}
use Rattle.merge_module.proofs.Pieces.{number_step}

-- ---- members

-- a member weighs no more than its bytes
abbrev pub IsLight : Member → Type 0
IsLight y = weight y.wasm ≤ y.size

pub members_light : WeightIsLeast → (xs : List Member) → All IsMember xs → All IsLight xs
members_light least [] all = All-nil IsLight
members_light least (y ∷ ys) all =
    let is = All-head IsMember y ys all in
    let within = least y.wasm is.bytes (member_text y is) in
    let size = is.read.size in
    All-cons IsLight y ys (omega arith) (members_light least ys (All-tail IsMember y ys all))

all_light : {A : Type 0} (weighs : A → ℕ) (of : ℕ → Module → List A) → ((k : ℕ) (y : Member) → IsLight y → sum_of weighs (of k y.wasm) ≤ y.size)
    → (k : ℕ) (xs : List Member) → All IsLight xs → sum_of weighs (from_members of k xs) ≤ total_size xs
all_light weighs of each k [] all = omega arith
all_light weighs of each k (x ∷ xs) all =
    let here = each k x (All-head IsLight x xs all) in
    let later = all_light weighs of each (k + 1) xs (All-tail IsLight x xs all) in
    let sum = total_cons x xs in
    let both = sum_then weighs (of k x.wasm) (from_members of (k + 1) xs) in
    omega arith

number_weighs : (k : ℕ) → expr_weight (number_expr k) ≡ 2
number_weighs k = (let one = (number_step k).one in omega arith)

slots_weigh : (L : LinkedSet) (n : Numbers) (k : ℕ) (xs : List Member)
    → sum_of elem_weight (from_members (λ m w. slots_elem L n m ∷ []) k xs) ≡ 2 * length xs + length (fresh_from L k xs)
slots_weigh L n k [] = refl
slots_weigh L n k (x ∷ xs) =
    let later = slots_weigh L n (k + 1) xs in
    let both = length-append (own_functions L k) (fresh_from L (k + 1) xs) in
    let here = length-map (own_functions L k) n.function in
    omega arith

module _ (L : LinkedSet) (K : IsKnown L) (few : (linked_plan L).pages_max ≤ 16384) (light : All IsLight L.set.members) where
  abbrev n : Numbers
  n = N L K few

  abbrev merged : Module
  merged = M L K few

  abbrev members : List Member
  members = L.set.members

  -- ---- types

  own_types_light : sum_of type_weight (members_types L) ≤ total_size members
  own_types_light = all_light type_weight (λ m wasm. wasm.types) (λ k y is. omega arith) 0 members light

  generated_light : sum_of type_weight (generated_functions_types L) ≤ 14
  generated_light =
      let some = with_either L (λ l. sum_of type_weight l ≤ 13) (handle_type ∷ unary_type ∷ binary_type ∷ search_type ∷ []) (omega arith) (λ used. omega arith) in
      omega arith

  added_light : (tys : List FuncType) → sum_of type_weight tys ≡ types_bulk tys
  added_light [] = refl
  added_light (ty ∷ tys) = (let later = added_light tys in omega arith)

  pub types_weigh : sum_of type_weight merged.types ≤ total_size members + types_bulk (added_types L) + 14
  types_weigh =
      let own = own_types_light in
      let generated = generated_light in
      let added = added_light (added_types L) in
      let both = sum_then type_weight (members_types L) (generated_functions_types L ++ added_types L) in
      let rest = sum_then type_weight (generated_functions_types L) (added_types L) in
      omega arith

  pub types_light : types_bulk (added_types L) ≤ 33554432 → sum_of type_weight merged.types ≤ 50331662
  types_light few_added = (let all = types_weigh in let bytes = few_bytes L K.set in omega arith)

  -- ---- segments

  member_elems_light : (k : ℕ) (y : Member) → IsLight y → sum_of elem_weight (map (passive_elem n k) y.wasm.elems) ≤ y.size
  member_elems_light k y is = (let less = sum_same (passive_elem n k) elem_weight elem_weight (elem_weighs n k) y.wasm.elems in omega arith)

  pub elems_weigh : sum_of elem_weight merged.elems ≤ 2 * total_size members + 2 * length members + table_entries L + 6
  elems_weigh =
      let own = all_light elem_weight (λ m wasm. map (passive_elem n m) wasm.elems) member_elems_light 0 members light in
      let slots = slots_weigh L n 0 members in
      let outside = number_weighs ((linked_plan L).table_end + length (fresh_functions L)) in
      let named = length-map (outside_slots L) n.function in
      let fresh = length-append (fresh_functions L) (outside_slots L) in
      let declared = few_of L K.set (λ m wasm. map (n.named m) (exported_functions wasm)) (λ k y is. (let all = is.all in let names = named_few y.wasm.exports in omega (arith, length-map (exported_functions y.wasm) (n.named k)))) in
      let one = sum_then elem_weight (from_members (λ m wasm. map (passive_elem n m) wasm.elems) 0 members) (from_members (λ m wasm. slots_elem L n m ∷ []) 0 members ++ outside_elem L n ∷ declared_elem L n ∷ []) in
      let two = sum_then elem_weight (from_members (λ m wasm. slots_elem L n m ∷ []) 0 members) (outside_elem L n ∷ declared_elem L n ∷ []) in
      omega arith

  pub elems_light : sum_of elem_weight merged.elems ≤ 36700160
  elems_light =
      let all = elems_weigh in
      let entries = table_within L K.links in
      let bytes = few_bytes L K.set in
      let count = few_members L K.set in
      omega arith

  member_datas_light : (k : ℕ) (y : Member) → IsLight y → sum_of data_weight (map passive_data y.wasm.datas) ≤ y.size
  member_datas_light k y is = (let less = sum_same passive_data data_weight data_weight data_weighs y.wasm.datas in omega arith)

  pub datas_weigh : sum_of data_weight merged.datas ≤ total_size members + 184
  datas_weigh =
      let own = all_light data_weight (λ m wasm. map passive_data wasm.datas) member_datas_light 0 members light in
      let texts = number_weighs (linked_plan L).stack_top in
      let many = texts_length in
      let one = sum_then data_weight (from_members (λ m wasm. map passive_data wasm.datas) 0 members) (texts_segment L ∷ []) in
      omega arith

  pub datas_light : sum_of data_weight merged.datas ≤ 16777400
  datas_light = (let all = datas_weigh in let bytes = few_bytes L K.set in omega arith)
