-- What a linked set has is bounded by the bytes of its files, so the numbers of its merged module are numbers of 32 bits.
use Rattle.std.proofs.Common.{◌≡◌, ◌<◌, ◌≤◌, ℕ, ◌+◌, List, [], ◌∷◌, length, map, drop, get_or, slice_get, Some, option_map, sym, ap, ◌∙◌, arith, length-append}
use Rattle.std.specs.List.{All}
use Rattle.std.proofs.lemmas.List.{drop_more, length-map}
use Rattle.std.proofs.lemmas.List.Elements.{All-head, All-tail}
use Rattle.std.proofs.lemmas.Option.{slice_get-map}
use Rattle.wasm_form.specs.declared.module.Module.{Module}
use Rattle.spec_loading.specs.spec_linking.Sets.{Member}
use Rattle.spec_loading.specs.spec_linking.Gathering.{total_size, IsMember, IsSet}
use Rattle.spec_loading.specs.spec_linking.LinkedSets.{LinkedSet}
use Rattle.spec_loading.specs.Addresses.{globals_size}
use Rattle.spec_loading.specs.Members.{from_members}
use Rattle.spec_loading.proofs.of_spec_safety.Lookups.{holds_at}
use Rattle.dyl_link.specs.dyl_search.declared.set.Member as kept
use Rattle.dyl_link.specs.dyl_search.Gathers.{member_of}
use Rattle.merge_index.specs.Numbering.{starts_of}
use Rattle.dyl_addresses.specs.Sets.{module_of}
use Rattle.merge_module.specs.MergedModule.{passive_data, texts_segment, merged_datas}
use Rattle.merge_index.proofs.FewItems.{AreFew, member_few, total_cons, size_within, sum_few}
use Rattle.merge_index.proofs.Counted.{few_bytes, few_of}
use Rattle.merge_module.proofs.OpenedStore.{cells_few}
use Rattle.merge_whole.specs.declared.built.counts.Space.TheVariants.{Elems, Datas}
use Rattle.merge_whole.specs.Counts.{members_of, size_in, total}

-- ---- sums

total_few : (size : Module → ℕ) → ((x : Member) → AreFew x.wasm x.size → size x.wasm ≤ x.size) → (start : ℕ) (xs : List Member) → All IsMember xs
    → total size start xs ≤ start + total_size xs
total_few size each start [] all = omega arith
total_few size each start (x ∷ xs) all =
    let here = each x (member_few x (All-head IsMember x xs all)) in
    let later = total_few size each (start + size x.wasm) xs (All-tail IsMember x xs all) in
    let sum = total_cons x xs in
    omega arith

total_least : (size : Module → ℕ) (start : ℕ) (xs : List Member) → start ≤ total size start xs
total_least size start [] = omega arith
total_least size start (x ∷ xs) = (let later = total_least size (start + size x.wasm) xs in omega arith)

-- the next number is no more than the last
pub total_room : (size : Module → ℕ) (xs : List kept.Member) (i : ℕ) (x : kept.Member) → i < length xs → x ≡ get_or xs i x → (next all : ℕ)
    → total size next (members_of (drop i xs)) ≡ all → next + size (module_of x) ≤ all
total_room size xs i x lt is next all held =
    let rest : drop i xs ≡ x ∷ drop (i + 1) xs = drop_more xs i x lt ∙ ap (λ y. y ∷ drop (i + 1) xs) (sym is) in
    let least = total_least size (next + size (module_of x)) (members_of (drop (i + 1) xs)) in
    let same : total size (next + size (module_of x)) (members_of (drop (i + 1) xs)) ≡ all =
    sym (ap (λ l. total size next (members_of l)) rest) ∙ held in
    omega arith

-- ---- a set

module _ (L : LinkedSet) (shape : IsSet L.set) where
  elems_each : (x : Member) → AreFew x.wasm x.size → length x.wasm.elems ≤ x.size
  elems_each x few = (let all = few.all in omega arith)

  datas_each : (x : Member) → AreFew x.wasm x.size → length x.wasm.datas ≤ x.size
  datas_each x few = (let all = few.all in omega arith)

  pub elems_total : total (size_in Elems) (length L.set.members) L.set.members < 4294967296
  elems_total =
      let most = total_few (size_in Elems) elems_each (length L.set.members) L.set.members shape.members in
      let bytes = few_bytes L shape in
      let many = shape.few in
      omega arith

  pub datas_total : total (size_in Datas) 0 L.set.members < 4294967296
  datas_total =
      let most = total_few (size_in Datas) datas_each 0 L.set.members shape.members in
      let bytes = few_bytes L shape in
      omega arith

  -- what a member has
  module _ (xs : List kept.Member) (same : map member_of xs ≡ L.set.members) (i : ℕ) (x : kept.Member) (at : slice_get xs i ≡ Some x) where
    there : slice_get L.set.members i ≡ Some (member_of x)
    there = ap (λ (ms : List Member). slice_get ms i) (sym same) ∙ slice_get-map member_of xs i ∙ ap (option_map member_of) at

    has_few : AreFew (module_of x) (member_of x).size
    has_few = member_few (member_of x) (holds_at IsMember L.set.members i (member_of x) shape.members there)

    pub tables_within : length (module_of x).imports + length (module_of x).tables < 4294967296
    tables_within = (let all = has_few.all in let within = size_within L.set.members i (member_of x) there in let bytes = few_bytes L shape in omega arith)

    pub functions_within : length (module_of x).imports + length (module_of x).funcs < 4294967296
    functions_within = (let all = has_few.all in let within = size_within L.set.members i (member_of x) there in let bytes = few_bytes L shape in omega arith)

  globals_each : (x : Member) → AreFew x.wasm x.size → globals_size x.wasm ≤ 2 + x.size
  globals_each x few = (let all = few.all in let cells = cells_few x.wasm in omega arith)

  pub guards_few : (starts_of L).guards < 1073741824
  guards_few =
      let most = sum_few globals_size 2 globals_each L.set.members shape.members in
      let bytes = few_bytes L shape in
      let many = shape.few in
      omega arith

  pub datas_few : length (merged_datas L) < 4294967296
  datas_few =
      let own = few_of L shape (λ m w. map passive_data w.datas)
      (λ m y few. (let all = few.all in omega (arith, length-map y.wasm.datas passive_data))) in
      let bytes = few_bytes L shape in
      omega (arith, length-append (from_members (λ m w. map passive_data w.datas) 0 L.set.members) (texts_segment L ∷ []))
