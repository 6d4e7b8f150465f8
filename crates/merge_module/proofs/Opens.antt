-- The merged module opens: its host functions are declared, it has an entry, and its active segments leave what the set begins with.
use Rattle.std.proofs.Common.{◌≡◌, ℕ, suc, ◌+◌, ◌*◌, ◌^◌, ◌<◌, ◌≤◌, min, true, List, [], ◌∷◌, ◌++◌, length, map, slice_get, slice_set, nat_le, Option, Some, None, option_map, refl, sym, ap, ap₂, ◌∙◌, arith, length-append}
use Rattle.std.specs.Prelude.{Ok, unwrap_or}
use Rattle.std.specs.List.{All}
use Rattle.std.proofs.lemmas.Bool.{lt-ltb, le-ltb, le-leb}
use Rattle.std.proofs.lemmas.List.{length-map, map-append, length-replicate}
use Rattle.std.proofs.lemmas.List.Elements.{All-head, All-tail}
use Rattle.std.proofs.lemmas.Option.{slice_get_within}
use Rattle.spec_reading.specs.wasm_form.declared.types.FuncType.{FuncType}
use Rattle.spec_reading.specs.wasm_form.declared.module.Module.{Module}
use Rattle.spec_reading.specs.wasm_form.declared.module.Data.{Data}
use Rattle.spec_reading.specs.wasm_form.declared.module.Elem.{Elem}
use Rattle.spec_reading.specs.wasm_form.declared.runtime.Ref.{Ref}
use Rattle.spec_reading.specs.wasm_form.declared.runtime.Ref.TheVariants.{Own, Loader, Host, Stub}
use Rattle.spec_reading.specs.spec_binary.Options.{◌>>=◌}
use Rattle.spec_reading.specs.spec_binary.Indices.{is_own, nullary}
use Rattle.spec_reading.specs.spec_binary.IndexSpaces.{imported_count, function_space}
use Rattle.spec_loading.specs.spec_validation.Faults.{most_entries}
use Rattle.spec_loading.specs.spec_runtime.Memories.{page_size, zeros, written}
use Rattle.spec_loading.specs.spec_runtime.Tables.{TableInstance, nulls, new_table, entries_initialized}
use Rattle.spec_loading.specs.spec_execution.Segments.{goes_on, all_performed, opened_items}
use Rattle.spec_loading.specs.spec_execution.Instances.{module_view, ModuleParts, module_target, function_named, segment_items, constant_offset}
use Rattle.spec_loading.specs.spec_execution.OneModule.{module_entry, opened_table, opened_parts, opened_memory, segments_performed, opened_state, module_opening}
use Rattle.spec_loading.specs.spec_linking.LinkedSets.{LinkedSet, hosts_of}
use Rattle.spec_loading.specs.spec_linking.Slots.{linked_plan, fresh_functions, outside_slots, table_entries, table_most}
use Rattle.spec_loading.specs.Texts.{error_texts}
use Rattle.spec_loading.specs.Members.{opening_table}
use Rattle.spec_loading.specs.LoadedSet.{opening_memory}
use Rattle.spec_loading.proofs.of_spec_safety.Lookups.{went_on, got}
use Rattle.merge_match.specs.Renumbering.{Numbers, reference, entry, table_instance}
use Rattle.merge_match.specs.Parts.{number_of}
use Rattle.merge_match.specs.Laws.{HasParts}
use Rattle.merge_match.proofs.Lists.{map-replicate}
use Rattle.merge_match.proofs.Spaces.{initialized_same}
use Rattle.merge_match.proofs.JoinedParts.{named_host, joined_has_parts}
use Rattle.merge_start.specs.Words.{Starts}
use Rattle.merge_index.specs.Numbering.{function_number}
use Rattle.merge_module.specs.MergedModule.{host_type_number, shared_table_type, outside_elem, declared_elem, texts_segment}
use Rattle.merge_module.proofs.Known.{IsKnown}
use Rattle.spec_loading.proofs.SlotWords.{table_within}
use Rattle.spec_loading.proofs.PlannedWords.{most_within, texts_within}
use Rattle.merge_module.proofs.PlannedWords.{stack_within}
use Rattle.spec_loading.proofs.Rows.{texts_length}
use Rattle.merge_module.proofs.HostsMatch.{hosts_met, are_met}
use Rattle.merge_module.proofs.MergedSpaces.{past_front, host_many}
use Rattle.merge_module.proofs.HostTypes.{host_types, host_typed}
use Rattle.merge_module.proofs.OwnNumbers.{n, x, merged}
use Rattle.merge_module.proofs.LoaderFunctions.{call_there}
use Rattle.merge_module.proofs.Joins.{is_joined}
use Rattle.merge_module.proofs.Generated.{entry_typed}
use Rattle.merge_module.proofs.GlobalValues.{IsNamed}
use Rattle.merge_module.proofs.Constants.{number_offset}
use Rattle.merge_module.proofs.SlotFunctions.{IsOutsideSet, slots_outside}
use Rattle.merge_module.proofs.Applied.{own_elems, slot_elems, own_datas, outside_number, texts_number, outside_at, merged_effects, whole_table, whole_memory, four_performed}

-- ---- lists

pub set_past : {A : Type 0} (xs ys : List A) (k : ℕ) (v : A) → slice_set (xs ++ ys) (length xs + k) v ≡ xs ++ slice_set ys k v
set_past [] ys k v = (let place : 0 + k ≡ k = omega arith in ap (λ i. slice_set ys i v) place)
set_past (x ∷ xs) ys k v =
    let place : suc (length xs) + k ≡ suc (length xs + k) = omega arith in
    ap (λ i. slice_set (x ∷ (xs ++ ys)) i v) place ∙ ap (λ l. x ∷ l) (set_past xs ys k v)

module _ (L : LinkedSet) (K : IsKnown L) (few : (linked_plan L).pages_max ≤ 16384) where
  abbrev pub N : Numbers
  N = n L K.set

  abbrev pub X : Starts
  X = x L K.set

  abbrev pub M : Module
  M = merged L K.set

  pub has_parts : HasParts L N M
  has_parts = joined_has_parts L N M (is_joined L K)

  pub named_target : (r : Ref) → IsNamed L r → module_target M (N.function r) ≡ Some (reference N r)
  named_target r named =
      ap (λ (o : Option Ref). module_target M (number_of (option_map (function_number L) o))) (sym named.2)
      ∙ has_parts.targets named.0 named.1 ∙ ap (option_map (reference N)) named.2

  -- ---- the entry

  entry_own : is_own M X.starting ≡ true
  entry_own =
      let typed = entry_typed L K.set in
      let many = host_many L N X in
      let t = went_on (slice_get (function_space M) X.starting) (slice_get M.types) nullary typed in
      let lt = slice_get_within (function_space M) X.starting t.0 t.1 in
      rw (le-ltb X.starting (imported_count M) (omega arith), lt-ltb X.starting (length (function_space M)) lt) refl

  pub entry_found : module_entry M ≡ Some X.starting
  entry_found = rw (entry_own, entry_typed L K.set) refl

  -- ---- the table

  pub host_target : (e : ℕ) → e < length (hosts_of L) → module_target M e ≡ Some (Host e)
  host_target e lt =
      let h = got (hosts_of L) e lt in
      let many = host_many L N X in
      ap (λ (o : Option FuncType). o >>= λ ty. Some (function_named M e)) (host_typed L K N X e h.0 h.1) ∙ ap Some (named_host M e (omega arith))

  -- a function outside the members that has a slot
  pub outside_target : (r : Ref) → IsOutsideSet L r → module_target M (N.function r) ≡ Some (reference N r)
  outside_target (Host e) lt = host_target e lt
  outside_target (Loader which) used = (call_there L K.set used which).target
  outside_target (Own m f) is = absurd is
  outside_target (Stub m f) is = absurd is

  outside_targets : (rs : List Ref) → All (IsOutsideSet L) rs → map (module_target M) (map N.function rs) ≡ map (entry N) (map Some rs)
  outside_targets [] all = refl
  outside_targets (r ∷ rs) all =
      ap₂ (λ a l. a ∷ l) (outside_target r (All-head (IsOutsideSet L) r rs all)) (outside_targets rs (All-tail (IsOutsideSet L) r rs all))

  outside_items : opened_items (segment_items M) (outside_elem L N) ≡ map (entry N) (map Some (outside_slots L))
  outside_items = outside_targets (outside_slots L) (slots_outside L)

  pub nulls_same : (k most : ℕ) → table_instance N (new_table k most) ≡ new_table k most
  unfolding nulls
  nulls_same k most = λ i. record { entries = map-replicate (entry N) k None i; max = most }

  nulls_many : (k : ℕ) → length (nulls k) ≡ k
  unfolding nulls
  nulls_many k = length-replicate k None

  table_there : opened_table (shared_table_type L) ≡ new_table (table_entries L) (table_most L)
  table_there =
      let most = most_within L K.links in
      let same : min most_entries (unwrap_or (Some (table_most L)) most_entries) ≡ table_most L = omega arith in
      ap (new_table (table_entries L)) same

  abbrev pub outside_entries : List (Option Ref)
  outside_entries = map Some (outside_slots L)

  -- the slots of functions outside the members, in the table of the set
  slots_written : entries_initialized (new_table (table_entries L) (table_most L)) (outside_at L N) outside_entries 0 (length outside_entries) ≡ Some (opening_table L)
  slots_written =
      let many = nulls_many (table_entries L) in
      let own = length-map (outside_slots L) Some in
      let both = length-append (fresh_functions L) (outside_slots L) in
      let fits : nat_le (outside_at L N + length outside_entries) (length (nulls (table_entries L))) ≡ true = le-leb (outside_at L N + length outside_entries) (length (nulls (table_entries L))) (omega arith) in
      whole_table (new_table (table_entries L) (table_most L)) (outside_at L N) outside_entries (length outside_entries) refl ∙ rw fits refl

  table_opened : entries_initialized (opened_table (shared_table_type L)) (outside_at L N) (map (entry N) outside_entries) 0 (length (map N.function (outside_slots L)))
      ≡ Some (table_instance N (opening_table L))
  table_opened =
      let one = length-map (outside_slots L) N.function in
      let two = length-map (outside_slots L) Some in
      let same : length (map N.function (outside_slots L)) ≡ length outside_entries = omega arith in
      ap (λ (t : TableInstance). entries_initialized t (outside_at L N) (map (entry N) outside_entries) 0 (length (map N.function (outside_slots L)))) (table_there ∙ sym (nulls_same (table_entries L) (table_most L)))
      ∙ ap (entries_initialized (table_instance N (new_table (table_entries L) (table_most L))) (outside_at L N) (map (entry N) outside_entries) 0) same
      ∙ initialized_same N (new_table (table_entries L) (table_most L)) (outside_at L N) outside_entries 0 (length outside_entries)
      ∙ ap (option_map (table_instance N)) slots_written

  -- ---- the memory

  zeros_many : (k : ℕ) → length (zeros k) ≡ k
  unfolding zeros
  zeros_many k = length-replicate k 0

  memory_opened : written (opened_memory M.memories) (linked_plan L).stack_top error_texts ≡ Some (opening_memory L)
  memory_opened =
      let many = zeros_many ((linked_plan L).pages * page_size) in
      let texts = texts_length in
      let room = texts_within L in
      let fits : nat_le ((linked_plan L).stack_top + length error_texts) (length (zeros ((linked_plan L).pages * page_size))) ≡ true =
      le-leb ((linked_plan L).stack_top + length error_texts) (length (zeros ((linked_plan L).pages * page_size))) (omega arith) in
      rw fits refl

  -- ---- the active segments

  abbrev pub us : ModuleParts
  us = opened_parts M

  abbrev pub items_of : Elem → List (Option Ref)
  items_of = opened_items (segment_items M)

  abbrev pub own : List Elem
  own = own_elems L N

  abbrev pub slots : List Elem
  slots = slot_elems L N

  pub elems_apart : us.elems ≡ map items_of own ++ (map items_of slots ++ items_of (outside_elem L N) ∷ [] ∷ [])
  elems_apart =
      map-append items_of own (slots ++ outside_elem L N ∷ declared_elem L N ∷ [])
      ∙ ap (λ l. map items_of own ++ l) (map-append items_of slots (outside_elem L N ∷ declared_elem L N ∷ []))

  pub number_is : outside_number L N ≡ length (map items_of own) + (length (map items_of slots) + 0)
  number_is = (let one = length-map own items_of in let two = length-map slots items_of in omega arith)

  items_there : slice_get us.elems (outside_number L N) ≡ Some (map (entry N) outside_entries)
  items_there =
      ap₂ slice_get elems_apart number_is
      ∙ past_front (map items_of own) (map items_of slots ++ items_of (outside_elem L N) ∷ [] ∷ []) (length (map items_of slots) + 0)
      ∙ past_front (map items_of slots) (items_of (outside_elem L N) ∷ [] ∷ []) 0 ∙ ap Some outside_items

  abbrev pub bytes_of : Data → List ℕ
  bytes_of d = d.bytes

  pub datas_apart : us.datas ≡ map bytes_of (own_datas L N) ++ error_texts ∷ []
  datas_apart = map-append bytes_of (own_datas L N) (texts_segment L ∷ [])

  pub texts_is : texts_number L N ≡ length (map bytes_of (own_datas L N)) + 0
  texts_is = (let one = length-map (own_datas L N) bytes_of in omega arith)

  bytes_there : slice_get us.datas (texts_number L N) ≡ Some error_texts
  bytes_there = ap₂ slice_get datas_apart texts_is ∙ past_front (map bytes_of (own_datas L N)) (error_texts ∷ []) 0

  -- what is left of the parts
  abbrev pub opened : ModuleParts
  opened = record {
    globals = us.globals;
    tables = slice_set us.tables 0 (table_instance N (opening_table L));
    elems = slice_set us.elems (outside_number L N) [];
    datas = slice_set us.datas (texts_number L N) [];
  }

  at_word : outside_at L N < 2 ^ 32
  at_word =
      let both = length-append (fresh_functions L) (outside_slots L) in
      let most = table_within L K.links in
      omega arith

  top_word : (linked_plan L).stack_top < 2 ^ 32
  top_word = (let stack = stack_within L K.links few in omega arith)

  pub segments_opened : segments_performed M ≡ Some (goes_on opened (opening_memory L))
  segments_opened =
      ap (λ l. all_performed (module_view M) 0 l us (opened_memory M.memories))
      (merged_effects (constant_offset M) L N M refl refl (number_offset M (outside_at L N) at_word) (number_offset M (linked_plan L).stack_top top_word))
      ∙ four_performed M us (opened_memory M.memories) (opening_memory L) (opened_table (shared_table_type L)) (table_instance N (opening_table L))
      (map (entry N) outside_entries) error_texts (outside_number L N) (outside_at L N) (length (map N.function (outside_slots L))) (texts_number L N)
      (linked_plan L).stack_top (length error_texts) refl items_there table_opened bytes_there (whole_memory (opened_memory M.memories) (linked_plan L).stack_top error_texts ∙ memory_opened)

  -- the module opens
  pub module_opens : module_opening M L.names ≡ Ok (opened_state M X.starting opened (opening_memory L))
  module_opens =
      rw (are_met L M (host_type_number L) 0 (hosts_of L) (host_types L K N X) (hosts_met L K.links), entry_found, segments_opened) refl
