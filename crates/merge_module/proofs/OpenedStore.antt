-- The merged module opens with what the set begins with, and behind it the guards and the segments of fresh slots.
use Rattle.std.proofs.Common.{◌≡◌, ℕ, zero, suc, ◌+◌, ◌*◌, ◌<◌, ◌≤◌, true, List, [], ◌∷◌, ◌++◌, length, map, slice_get, slice_set, Option, Some, refl, sym, ap, ap₂, ◌∙◌, subst, arith, length-append, append-nil, option_map}
use Rattle.std.specs.List.{All}
use Rattle.std.proofs.lemmas.List.{length-map, map-append}
use Rattle.std.proofs.lemmas.List.Elements.{All-head, All-tail}
use Rattle.spec_reading.specs.wasm_form.declared.types.TableType.{TableType}
use Rattle.spec_reading.specs.wasm_form.declared.types.FuncType.{FuncType}
use Rattle.spec_reading.specs.wasm_form.declared.module.Data.{Data}
use Rattle.spec_reading.specs.wasm_form.declared.module.Module.{Module}
use Rattle.spec_reading.specs.wasm_form.declared.runtime.Ref.{Ref}
use Rattle.spec_reading.specs.wasm_form.declared.runtime.Ref.TheVariants.{Own}
use Rattle.spec_reading.specs.wasm_form.declared.runtime.Value.{Value}
use Rattle.spec_reading.specs.wasm_form.declared.runtime.Value.TheVariants.{Num}
use Rattle.spec_reading.specs.spec_binary.Options.{◌>>=◌}
use Rattle.spec_loading.specs.spec_runtime.Tables.{TableInstance}
use Rattle.spec_loading.specs.spec_execution.Segments.{opened_items}
use Rattle.spec_loading.specs.spec_execution.Instances.{ModuleParts, module_target, function_named, global_value}
use Rattle.spec_loading.specs.spec_execution.OneModule.{opened_table}
use Rattle.spec_loading.specs.spec_linking.Sets.{Member}
use Rattle.spec_loading.specs.spec_linking.Gathering.{total_size, IsMember}
use Rattle.spec_loading.specs.spec_linking.LinkedSets.{LinkedSet, wasm_of}
use Rattle.spec_loading.specs.spec_linking.Slots.{linked_plan, cells_of, cell_value, fresh_of, member_items}
use Rattle.spec_loading.specs.Addresses.{globals_size}
use Rattle.spec_loading.specs.Members.{from_members, opened_global, opened_globals, opening_table, opening_store}
use Rattle.merge_match.specs.Renumbering.{Numbers, entry, table_instance}
use Rattle.merge_match.specs.Parts.{nowhere, extended}
use Rattle.merge_match.proofs.Lists.{length-slice_set}
use Rattle.merge_match.proofs.JoinedParts.{named_own}
use Rattle.merge_start.specs.Words.{Starts}
use Rattle.merge_start.specs.Started.{slot_items, IsOpened}
use Rattle.merge_index.specs.Numbering.{function_number}
use Rattle.merge_module.specs.MergedModule.{with_loader, passive_elem, slots_elem, outside_elem, declared_elem, merged_elems, passive_data, texts_segment, merged_datas, merged_globals, member_globals, guard_globals, own_global, number_global, merged_tables, zero_globals, loader_globals}
use Rattle.merge_module.proofs.Known.{IsKnown}
use Rattle.merge_module.proofs.WithLoader.{with_used, with_few}
pub use Rattle.spec_loading.proofs.of_spec_linking.FewImports.{cells_few}
use Rattle.merge_index.proofs.FewItems.{AreFew as AreFewParts, member_few, total_cons}
use Rattle.spec_loading.proofs.of_spec_validation.Parts.{parts_fit}
use Rattle.merge_module.proofs.SetMembers.{is_sound}
use Rattle.merge_index.proofs.Counted.{joined_length, few_bytes, few_members, few_of}
use Rattle.merge_module.proofs.MergedSpaces.{in_front, one_each, host_many}
use Rattle.merge_module.proofs.OwnNumbers.{own_number, own_typed}
use Rattle.merge_module.proofs.OpenedItems.{members_mapped, elems_same}
use Rattle.merge_module.proofs.OpenedGlobals.{globals_opened, zeros, loader_zeros}
use Rattle.merge_module.proofs.SlotFunctions.{IsOwnIn, fresh_own, own_is_defined}
use Rattle.merge_module.proofs.Applied.{own_datas, outside_number, texts_number}
use Rattle.std.proofs.lemmas.Option.{slice_get-map}
use Rattle.spec_loading.proofs.of_spec_safety.Lookups.{got}
use Rattle.merge_module.proofs.Opens.{N, X, M, has_parts, named_target, nulls_same, us, items_of, own, slots, bytes_of, elems_apart, number_is, datas_apart, texts_is, set_past, opened}

-- ---- lists

-- what is made of what each member has
made_of : {A B : Type 0} (f : A → B) (of : ℕ → Module → List A) (k : ℕ) (xs : List Member) → map f (from_members of k xs) ≡ from_members (λ m w. map f (of m w)) k xs
made_of f of k [] = refl
made_of f of k (x ∷ xs) = map-append f (of k x.wasm) (from_members of (k + 1) xs) ∙ ap (λ l. map f (of k x.wasm) ++ l) (made_of f of (k + 1) xs)

each_same : {A : Type 0} (of other : ℕ → Module → List A) → ((m : ℕ) (w : Module) → of m w ≡ other m w) → (k : ℕ) (xs : List Member) → from_members of k xs ≡ from_members other k xs
each_same of other same k [] = refl
each_same of other same k (x ∷ xs) = ap₂ (λ a b. a ++ b) (same k x.wasm) (each_same of other same (k + 1) xs)

passive_bytes : (ds : List Data) → map (λ (d : Data). d.bytes) (map passive_data ds) ≡ map (λ (d : Data). d.bytes) ds
passive_bytes [] = refl
passive_bytes (d ∷ ds) = ap (λ l. d.bytes ∷ l) (passive_bytes ds)

-- two and its size of each are no more than two of each and the whole
pub two_each : {A : Type 0} (of : ℕ → Module → List A) → ((k : ℕ) (x : Member) → AreFewParts x.wasm x.size → length (of k x.wasm) ≤ 2 + x.size)
    → (k : ℕ) (xs : List Member) → All IsMember xs → length (from_members of k xs) ≤ 2 * length xs + total_size xs
two_each of each k [] all = omega arith
two_each of each k (x ∷ xs) all =
    let here = each k x (member_few x (All-head IsMember x xs all)) in
    let later = two_each of each (k + 1) xs (All-tail IsMember x xs all) in
    let sum = total_cons x xs in
    omega (arith, length-append (of k x.wasm) (from_members of (k + 1) xs))

module _ (L : LinkedSet) where
  pub globals_fit : (k : ℕ) (w : Module) → length (opened_globals L k w) ≡ globals_size w
  globals_fit k w =
      let cells = length-map (cells_of w) (λ c. Num (cell_value L k c)) in
      let globals = length-map w.globals (opened_global L k) in
      let both = length-append (map (λ c. Num (cell_value L k c)) (cells_of w)) (map (opened_global L k) w.globals) in
      omega arith

  pub member_globals_fit : (n : Numbers) (k : ℕ) (w : Module) → length (member_globals L n k w) ≡ globals_size w
  member_globals_fit n k w =
      let cells = length-map (cells_of w) (λ c. number_global true (cell_value L k c)) in
      let globals = length-map w.globals (own_global L n k) in
      let both = length-append (map (λ c. number_global true (cell_value L k c)) (cells_of w)) (map (own_global L n k) w.globals) in
      omega arith

-- a guard and a place for each member, the error, and how many are promoted
pub guards_few : (L : LinkedSet) → length (guard_globals L) ≤ 2 * length L.set.members + 2
guards_few L =
    let guards = length-map L.set.members (λ (y : Member). number_global true 0) in
    let more = with_few L (loader_globals L) in
    omega (arith, length-append (zero_globals L) (with_loader L (loader_globals L)))

module _ (L : LinkedSet) (K : IsKnown L) (few : (linked_plan L).pages_max ≤ 16384) where
  abbrev n : Numbers
  n = N L K few

  abbrev x : Starts
  x = X L K few

  abbrev m : Module
  m = M L K few

  abbrev store : ModuleParts
  store = opening_store L

  abbrev members : List Member
  members = L.set.members

  -- ---- fresh slots

  pub own_target : (k : ℕ) (w : Module) → wasm_of L k ≡ Some w → (f : ℕ) → IsOwnIn w f → module_target m (function_number L (Own k f)) ≡ Some (Own 0 (function_number L (Own k f)))
  own_target k w here f is =
      let defined = own_is_defined w (is_sound L k w K.set here) f is in
      let number = own_number L K.set k f w here defined in
      let many = host_many L n x in
      ap (λ (o : Option FuncType). o >>= λ ty. Some (function_named m (function_number L (Own k f)))) (own_typed L K.set k f w here defined)
      ∙ ap Some (named_own m (function_number L (Own k f)) (omega arith))

  own_items : (k : ℕ) (w : Module) → wasm_of L k ≡ Some w → (fs : List ℕ) → All (IsOwnIn w) fs
      → map (module_target m) (map n.function (map (Own k) fs)) ≡ map (entry n) (map Some (map (Own k) fs))
  own_items k w here [] all = refl
  own_items k w here (f ∷ fs) all =
      ap₂ (λ a l. a ∷ l) (own_target k w here f (All-head (IsOwnIn w) f fs all)) (own_items k w here fs (All-tail (IsOwnIn w) f fs all))

  slots_at : (k : ℕ) (ys : List Member) (i j : ℕ) → ((l : ℕ) (y : Member) → slice_get ys l ≡ Some y → wasm_of L (k + l) ≡ Some y.wasm) → i < length ys → j ≡ k + i
      → slice_get (map (items_of L K few) (from_members (λ m wasm. slots_elem L n m ∷ []) k ys)) i ≡ Some (slot_items L n j)
  slots_at k [] i j there lt q = absurd (omega arith)
  slots_at k (y ∷ ys) zero j there lt q =
      let place : k + 0 ≡ k = omega arith in
      let same : k ≡ j = omega arith in
      let here : wasm_of L k ≡ Some y.wasm = subst (λ l. wasm_of L l ≡ Some y.wasm) place (there 0 y refl) in
      ap Some (own_items k y.wasm here (fresh_of L k) (fresh_own L k y.wasm here) ∙ ap (slot_items L n) same)
  slots_at k (y ∷ ys) (suc i) j there lt q =
      slots_at (k + 1) ys i j (λ l z at. (let place : k + suc l ≡ k + 1 + l = omega arith in subst (λ a. wasm_of L a ≡ Some z.wasm) place (there (suc l) z at))) (omega arith) (omega arith)

  -- ---- what is behind the store

  abbrev last_elems : List (List (Option Ref))
  last_elems = map (items_of L K few) (slots L K few) ++ [] ∷ [] ∷ []

  abbrev behind : ModuleParts
  behind = record { globals = zeros L ++ with_loader L (loader_zeros L); tables = []; elems = last_elems; datas = [] ∷ [] }

  tables_of_member : (ts : List TableType) → map (table_instance n) (map opened_table ts) ≡ map opened_table ts
  tables_of_member [] = refl
  tables_of_member (t ∷ ts) = ap₂ (λ a l. a ∷ l) (nulls_same L K few _ _) (tables_of_member ts)

  abbrev own_tables : List TableInstance
  own_tables = from_members (λ k wasm. map opened_table wasm.tables) 0 members

  tables_whole : (opened L K few).tables ≡ map (table_instance n) store.tables ++ []
  tables_whole =
      let one = made_of opened_table (λ k wasm. wasm.tables) 0 members in
      let two : map (table_instance n) own_tables ≡ own_tables = made_of (table_instance n) (λ k wasm. map opened_table wasm.tables) 0 members
      ∙ each_same (λ k wasm. map (table_instance n) (map opened_table wasm.tables)) (λ k wasm. map opened_table wasm.tables) (λ k w. tables_of_member w.tables) 0 members in
      ap (λ l. table_instance n (opening_table L) ∷ l) (one ∙ sym two) ∙ sym (append-nil (map (table_instance n) store.tables))

  elems_mapped : map (items_of L K few) (own L K few) ≡ map (map (entry n)) store.elems
  elems_mapped =
      members_mapped (items_of L K few) (map (entry n)) (λ k wasm. map (passive_elem n k) wasm.elems) (λ k wasm. map (opened_items (member_items L k)) wasm.elems) 0 members
      (λ i y at. elems_same L n m (has_parts L K few).targets (0 + i) y.wasm y.wasm.elems
      (parts_fit y.wasm (is_sound L i y.wasm K.set (ap (λ (o : Option Member). o >>= λ z. Some z.wasm) at)).valid).elems)

  elems_whole : (opened L K few).elems ≡ map (map (entry n)) store.elems ++ last_elems
  elems_whole =
      let front = map (items_of L K few) (own L K few) in
      let mid = map (items_of L K few) (slots L K few) in
      let rest = items_of L K few (outside_elem L n) ∷ [] ∷ [] in
      ap₂ (λ l i. slice_set l i []) (elems_apart L K few) (number_is L K few)
      ∙ set_past front (mid ++ rest) (length mid + 0) []
      ∙ ap (λ l. front ++ l) (set_past mid rest 0 [])
      ∙ ap (λ l. l ++ last_elems) elems_mapped

  datas_whole : (opened L K few).datas ≡ store.datas ++ [] ∷ []
  datas_whole =
      let front = map (bytes_of L K few) (own_datas L n) in
      ap₂ (λ l i. slice_set l i []) (datas_apart L K few) (texts_is L K few)
      ∙ set_past front _ 0 []
      ∙ ap (λ l. l ++ [] ∷ []) (made_of (bytes_of L K few) (λ k wasm. map passive_data wasm.datas) 0 members
      ∙ each_same (λ k wasm. map (bytes_of L K few) (map passive_data wasm.datas)) (λ k wasm. map (λ (d : Data). d.bytes) wasm.datas) (λ k w. passive_bytes w.datas) 0 members)

  parts_whole : opened L K few ≡ extended n store behind
  parts_whole =
      let globals = globals_opened L K few n m (named_target L K few) in
      λ i. record { globals = globals i; tables = tables_whole i; elems = elems_whole i; datas = datas_whole i }

  -- the count and the places are behind the error
  promoted_zero : (k : ℕ) → k ≤ length members → slice_get (loader_zeros L) (1 + k) ≡ Some (Num 0)
  promoted_zero zero le = refl
  promoted_zero (suc k) le =
      let found = got members k (omega arith) in
      let place : 1 + suc k ≡ suc (suc k) = omega arith in
      ap (slice_get (loader_zeros L)) place ∙ slice_get-map (λ (y : Member). Num 0) members k ∙ ap (option_map (λ (y : Member). Num 0)) found.1

  -- ---- there is little

  pub globals_many : length (opened L K few).globals ≤ nowhere
  globals_many =
      let all = two_each (member_globals L n) (λ k y is. (let fit = member_globals_fit L n k y.wasm in let cells = cells_few y.wasm in let all = is.all in omega arith)) 0 members K.set.members in
      let bytes = few_bytes L K.set in
      let count = few_members L K.set in
      let both = length-append (from_members (member_globals L n) 0 members) (guard_globals L) in
      let guards = guards_few L in
      omega (arith, length-map (merged_globals L n) (global_value m))

  pub tables_many : length (opened L K few).tables ≤ nowhere
  tables_many =
      let all = few_of L K.set (λ k w. w.tables) (λ k y is. (let all = is.all in omega arith)) in
      let bytes = few_bytes L K.set in
      omega (arith, length-slice_set (us L K few).tables 0 (table_instance n (opening_table L)), length-map (merged_tables L) opened_table)

  slots_many : length (slots L K few) ≡ length members
  slots_many = one_each (λ k w. slots_elem L n k) 0 members

  pub elems_many : length (opened L K few).elems ≤ nowhere
  elems_many =
      let all = few_of L K.set (λ k w. map (passive_elem n k) w.elems) (λ k y is. (let all = is.all in omega (arith, length-map y.wasm.elems (passive_elem n k)))) in
      let bytes = few_bytes L K.set in
      let count = few_members L K.set in
      let mid = slots_many in
      let rest = length-append (slots L K few) (outside_elem L n ∷ declared_elem L n ∷ []) in
      let both = length-append (own L K few) (slots L K few ++ outside_elem L n ∷ declared_elem L n ∷ []) in
      omega (arith, length-slice_set (us L K few).elems (outside_number L n) [], length-map (merged_elems L n) (items_of L K few))

  pub datas_many : length (opened L K few).datas ≤ nowhere
  datas_many =
      let all = few_of L K.set (λ k w. map passive_data w.datas) (λ k y is. (let all = is.all in omega (arith, length-map y.wasm.datas passive_data))) in
      let bytes = few_bytes L K.set in
      let both = length-append (own_datas L n) (texts_segment L ∷ []) in
      omega (arith, length-slice_set (us L K few).datas (texts_number L n) [], length-map (merged_datas L) (bytes_of L K few))

  -- ---- all of it

  pub is_opened : IsOpened L n x (opened L K few)
  is_opened = record {
    more = behind;
    whole = parts_whole;
    few = record { globals = globals_many; tables = tables_many; elems = elems_many; datas = datas_many };
    others = with_loader L (loader_zeros L);
    guards = refl;
    error = λ used. ap (λ (l : List Value). slice_get l 0) (with_used L (loader_zeros L) used);
    promoted = λ used k le. ap (λ (l : List Value). slice_get l (1 + k)) (with_used L (loader_zeros L) used) ∙ promoted_zero k le;
    slots = λ k lt. in_front (map (items_of L K few) (slots L K few)) ([] ∷ [] ∷ []) k (slot_items L n k)
        (slots_at 0 members k k (λ l y at. (let place : l ≡ 0 + l = omega arith in subst (λ a. wasm_of L a ≡ Some y.wasm) place (ap (λ (o : Option Member). o >>= λ z. Some z.wasm) at))) lt (omega arith));
    first_guard = (let all = joined_length (opened_globals L) globals_size (globals_fit L) 0 members in omega arith);
    first_slots = λ m lt.
        ap (λ c. c + m) (sym (joined_length (λ k wasm. map (opened_items (member_items L k)) wasm.elems) (λ w. length w.elems) (λ k w. length-map w.elems (opened_items (member_items L k))) 0 members));
  }
