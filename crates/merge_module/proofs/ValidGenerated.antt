-- The generated bodies are well typed in the merged module, and so all its bodies are.
use Rattle.std.proofs.Common.{◌≡◌, ◌≤◌, ◌<◌, ℕ, zero, suc, ◌+◌, ◌*◌, true, List, [], ◌∷◌, ◌++◌, length, map, slice_get, nat_lt, Option, Some, None, option_map, refl, sym, ap, ◌∙◌, subst, arith}
use Rattle.std.specs.Prelude.{is_some, take}
use Rattle.std.specs.List.{list_all}
use Rattle.std.proofs.lemmas.Bool.{and_parts, lt-ltb}
use Rattle.std.proofs.lemmas.List.{length-map}
use Rattle.std.proofs.lemmas.Option.{slice_get-map, slice_get_within}
use Rattle.spec_reading.specs.wasm_form.declared.types.ValType.TheVariants.{I32, FuncRef}
use Rattle.spec_reading.specs.wasm_form.declared.types.TableType.{TableType}
use Rattle.spec_reading.specs.wasm_form.declared.instr.Instr.{Instr}
use Rattle.spec_reading.specs.wasm_form.declared.module.ElemMode.{ElemMode}
use Rattle.spec_reading.specs.wasm_form.declared.module.ElemMode.TheVariants as elem_mode
use Rattle.spec_reading.specs.wasm_form.declared.module.ElemItems.{ElemItems}
use Rattle.spec_reading.specs.wasm_form.declared.module.ElemItems.TheVariants as elem_items
use Rattle.spec_reading.specs.wasm_form.declared.types.FuncType.{FuncType}
use Rattle.spec_reading.specs.wasm_form.declared.module.GlobalDef.{GlobalDef}
use Rattle.spec_reading.specs.wasm_form.declared.module.Elem.{Elem}
use Rattle.spec_reading.specs.wasm_form.declared.module.Code.{Code}
use Rattle.spec_reading.specs.wasm_form.declared.module.DataMode.{DataMode}
use Rattle.spec_reading.specs.wasm_form.declared.module.DataMode.TheVariants as data_mode
use Rattle.spec_reading.specs.wasm_form.declared.module.Data.{Data}
use Rattle.spec_reading.specs.wasm_form.declared.module.Module.{Module}
use Rattle.spec_reading.specs.wasm_form.declared.runtime.Ref.{Ref}
use Rattle.spec_reading.specs.wasm_form.declared.runtime.Ref.TheVariants.{Own}
use Rattle.spec_reading.specs.spec_binary.Options.{◌>>=◌}
use Rattle.spec_reading.specs.spec_binary.SameTypes.{same_type}
use Rattle.spec_reading.specs.spec_binary.Indices.{nullary, function_type}
use Rattle.spec_reading.specs.spec_binary.IndexSpaces.{global_space, table_space}
use Rattle.spec_loading.specs.spec_validation.Context.{Context}
use Rattle.spec_loading.specs.spec_validation.Typing.{height}
use Rattle.spec_loading.specs.spec_validation.Faults.{first_in, is_constant, has_functions, elem_of_table, type_of_elem, item_type, items_fit, elem_mode_fits, elem_fits, body_context, type_of_body}
use Rattle.spec_loading.proofs.of_spec_validation.Parts.{parts_fit}
use Rattle.spec_loading.specs.spec_execution.Activations.{Effect, TableInit, ElemDrop, MemoryInit, DataDrop}
use Rattle.spec_loading.specs.spec_execution.Segments.{items_count, effects_at, elem_effects, data_effects, all_effects, segment_effects}
use Rattle.spec_loading.specs.spec_linking.Sets.{Member}
use Rattle.spec_loading.specs.spec_linking.LinkedSets.{LinkedSet, wasm_of, function_ref}
use Rattle.spec_loading.specs.spec_linking.Slots.{linked_plan, member_number}
use Rattle.spec_loading.proofs.of_spec_safety.Lookups.{got}
use Rattle.spec_loading.specs.declared.task.Phase.{Phase}
use Rattle.spec_loading.specs.declared.task.Phase.TheVariants.{Place, Start, Relocate, Construct}
use Rattle.spec_loading.specs.declared.task.Task.{Task}
use Rattle.spec_loading.specs.Phases.{phase_function, startup_frame}
use Rattle.spec_loading.specs.Addresses.{globals_size}
use Rattle.spec_loading.specs.Members.{uses_loader, from_members}
use Rattle.merge_match.specs.Renumbering.{Numbers}
use Rattle.merge_match.specs.Parts.{number_of}
use Rattle.merge_start.specs.Words.{Starts, slots_effect, phase_code, entry_code}
use Rattle.dyl_addresses.specs.Sets.{AreOf}
use Rattle.merge_start.specs.Typed.{IsEffectTyped, AreEffectsTyped, IsPhaseTyped, AreTasksTyped, IsEntryTyped, GeneratedIsTyped}
use Rattle.dyl_addresses.proofs.Ranges.{of_startup}
use Rattle.merge_index.specs.Numbering.{stubs_of, function_number}
use Rattle.merge_module.specs.MergedModule.{with_loader, nullary_number, loader_funcs, loader_codes, number_global, member_globals, guard_globals, merged_globals, shared_table_type, passive_elem, slots_elem, outside_elem, declared_elem, stub_types, generated_types, stub_codes, phase_codes, plain_code, zero_globals, loader_globals}
use Rattle.merge_module.proofs.Known.{IsKnown}
use Rattle.merge_module.proofs.WithLoader.{with_used, with_many}
use Rattle.merge_module.proofs.SetMembers.{is_sound}
use Rattle.merge_module.proofs.StubLists.{lengths_same, member_at, one_there}
use Rattle.merge_index.proofs.Counted.{joined_length}
use Rattle.merge_module.proofs.MergedSpaces.{past_front, in_front, loader_size_is, own_funcs, own_codes, nullary_there, phases_many, loader_codes_many}
use Rattle.merge_module.proofs.OwnNumbers.{own_funcs_many, own_codes_many}
use Rattle.merge_module.proofs.Generated.{nullary_listed, last, entry_listed, phase_typed}
use Rattle.merge_module.proofs.Ready.{callable, entry_ready}
use Rattle.spec_reading.proofs.of_spec_binary.OneType.{one_type}
use Rattle.merge_module.proofs.Applied.{own_elems, slot_elems}
use Rattle.merge_module.proofs.Opens.{N, X, M}
use Rattle.merge_module.proofs.OpenedStore.{member_globals_fit}
use Rattle.merge_module.proofs.Carries.{ref_typed, global_at, table_at, table_carried, elem_carried, data_carried}
use Rattle.merge_module.proofs.ValidBodies.{memory_is, find, body_none, some_so}
use Rattle.merge_module.proofs.Faultless.{members_none}

typed_append : (c : Context) (n : Numbers) (m : ℕ) (xs ys : List Effect) → AreEffectsTyped c n m xs → AreEffectsTyped c n m ys → AreEffectsTyped c n m (xs ++ ys)
typed_append c n m [] ys a b = b
typed_append c n m (x ∷ xs) ys a b = (a.0, typed_append c n m xs ys a.1 b)

functions_only : (t : Option TableType) → has_functions t ≡ true → (t >>= elem_of_table) ≡ Some FuncRef
functions_only None e = absurd cc
functions_only (Some ty) e = ap Some (one_type ty.elem FuncRef e)

module _ (wasm : Module) where
  items_functions : (items : ElemItems) → items_fit wasm items ≡ true → item_type items ≡ FuncRef
  items_functions (elem_items.Funcs fs) e = refl
  items_functions (elem_items.Exprs t es) e = one_type t FuncRef (and_parts (same_type t FuncRef) (list_all (is_constant wasm FuncRef) es) e).0

module _ (L : LinkedSet) (K : IsKnown L) (few : (linked_plan L).pages_max ≤ 16384) (typing : GeneratedIsTyped) where
  abbrev n : Numbers
  n = N L K few

  abbrev x : Starts
  x = X L K few

  abbrev merged : Module
  merged = M L K few

  abbrev members : List Member
  members = L.set.members

  -- the context of a generated body
  abbrev plain : List Instr → Context
  plain is = body_context merged nullary (plain_code is)

  -- ---- what code names

  guards_at : (i : ℕ) (g : GlobalDef) → slice_get (guard_globals L) i ≡ Some g → slice_get (global_space merged) (x.guards + i) ≡ Some g.ty
  guards_at i g at =
      let many = joined_length (member_globals L n) globals_size (member_globals_fit L n) 0 members in
      let place : x.guards + i ≡ suc (length (from_members (member_globals L n) 0 members) + i) = omega arith in
      global_at L K few (x.guards + i) g
      (ap (slice_get (merged_globals L n)) place ∙ past_front (from_members (member_globals L n) 0 members) (guard_globals L) i ∙ at)

  pub guard_typed : (m : ℕ) → m < length members → slice_get (global_space merged) (x.guards + m) ≡ Some (record { value = I32; mutable = true })
  guard_typed m lt =
      let found = got members m lt in
      let there : slice_get (map (λ y. number_global true 0) members) m ≡ Some (number_global true 0) = slice_get-map (λ y. number_global true 0) members m ∙ ap (option_map (λ y. number_global true 0)) found.1 in
      guards_at m (number_global true 0) (in_front (zero_globals L) (with_loader L (loader_globals L)) m (number_global true 0) there)

  -- the globals of the loader are behind the guards
  loader_typed : uses_loader L ≡ true → (i : ℕ) → slice_get (loader_globals L) i ≡ Some (number_global true 0)
      → slice_get (global_space merged) (x.guards + (length members + i)) ≡ Some (record { value = I32; mutable = true })
  loader_typed used i there =
      let many = length-map members (λ (y : Member). number_global true 0) in
      let place : length members + i ≡ length (zero_globals L) + i = omega arith in
      guards_at (length members + i) (number_global true 0)
      (ap (slice_get (guard_globals L)) place ∙ past_front (zero_globals L) (with_loader L (loader_globals L)) i
      ∙ ap (λ (l : List GlobalDef). slice_get l i) (with_used L (loader_globals L) used) ∙ there)

  pub error_typed : uses_loader L ≡ true → slice_get (global_space merged) (x.guards + length members) ≡ Some (record { value = I32; mutable = true })
  error_typed used =
      let place : x.guards + (length members + 0) ≡ x.guards + length members = omega arith in
      subst (λ k. slice_get (global_space merged) k ≡ Some (record { value = I32; mutable = true })) place (loader_typed used 0 refl)

  promoted_there : (i : ℕ) → i ≤ length members → slice_get (loader_globals L) (1 + i) ≡ Some (number_global true 0)
  promoted_there zero le = refl
  promoted_there (suc i) le =
      let found = got members i (omega arith) in
      let place : 1 + suc i ≡ suc (suc i) = omega arith in
      ap (slice_get (loader_globals L)) place ∙ slice_get-map (λ y. number_global true 0) members i ∙ ap (option_map (λ y. number_global true 0)) found.1

  pub promoted_typed : uses_loader L ≡ true → (i : ℕ) → i ≤ length members
      → slice_get (global_space merged) (x.promoted + i) ≡ Some (record { value = I32; mutable = true })
  promoted_typed used i le =
      let place : x.guards + (length members + (1 + i)) ≡ x.promoted + i = omega arith in
      subst (λ k. slice_get (global_space merged) k ≡ Some (record { value = I32; mutable = true })) place (loader_typed used (1 + i) (promoted_there i le))

  -- ---- a member

  module _ (m : ℕ) (member : Member) (at : slice_get members m ≡ Some member) (code : List Instr) where
    abbrev c : Context
    c = plain code

    abbrev wasm : Module
    wasm = member.wasm

    lt_m : m < length members
    lt_m = slice_get_within members m member at

    elem_typed : (k : ℕ) (e : Elem) → slice_get wasm.elems k ≡ Some e → elem_fits wasm e ≡ true → AreEffectsTyped c n m (elem_effects (member_number L m) k e)
    elem_typed k e there fits = go e.mode refl
      where
        items : c.elems (n.elem m k) ≡ Some FuncRef
        items =
            let is = items_functions wasm e.items (and_parts (elem_mode_fits wasm e.mode) (items_fit wasm e.items) fits).1 in
            elem_carried L K few m member at k FuncRef (ap (λ (o : Option Elem). o >>= type_of_elem) there ∙ ap Some is)

        at_typed : (t : ℕ) (o : Option ℕ) → c.tables (n.table m t) ≡ Some FuncRef
            → AreEffectsTyped c n m (effects_at (λ at. TableInit k t at 0 (items_count e.items) ∷ ElemDrop k ∷ []) o)
        at_typed t None table = tt
        at_typed t (Some a) table = ((items, table), (items, tt))

        go : (mode : ElemMode) → e.mode ≡ mode → AreEffectsTyped c n m (elem_effects (member_number L m) k e)
        go (elem_mode.Active t offset) q =
            let mode : elem_mode_fits wasm (elem_mode.Active t offset) ≡ true = ap (elem_mode_fits wasm) (sym q) ∙ (and_parts (elem_mode_fits wasm e.mode) (items_fit wasm e.items) fits).0 in
            let table = functions_only (slice_get (table_space wasm) t) (and_parts (has_functions (slice_get (table_space wasm) t)) (is_constant wasm I32 offset) mode).0 in
            rw q (at_typed t (member_number L m offset) (table_carried L K few m member at t FuncRef table))
        go elem_mode.Passive q = rw q tt
        go elem_mode.Declarative q = rw q tt

    elems_typed : (k : ℕ) (es : List Elem) → ((i : ℕ) (e : Elem) → slice_get es i ≡ Some e → slice_get wasm.elems (k + i) ≡ Some e) → list_all (elem_fits wasm) es ≡ true
        → AreEffectsTyped c n m (all_effects (elem_effects (member_number L m)) k es)
    elems_typed k [] there fits = tt
    elems_typed k (e ∷ es) there fits =
        let both = and_parts (elem_fits wasm e) (list_all (elem_fits wasm) es) fits in
        let place : k + 0 ≡ k = omega arith in
        typed_append c n m (elem_effects (member_number L m) k e) (all_effects (elem_effects (member_number L m)) (k + 1) es)
        (elem_typed k e (subst (λ j. slice_get wasm.elems j ≡ Some e) place (there 0 e refl)) both.0)
        (elems_typed (k + 1) es (λ i y h. (let later : k + suc i ≡ k + 1 + i = omega arith in subst (λ j. slice_get wasm.elems j ≡ Some y) later (there (suc i) y h))) both.1)

    data_typed : (k : ℕ) (d : Data) → k < length wasm.datas → AreEffectsTyped c n m (data_effects (member_number L m) k d)
    data_typed k d lt = go d.mode refl
      where
        low : nat_lt (n.segment m k) c.datas ≡ true
        low = data_carried L K few m member at k (lt-ltb k (length wasm.datas) lt)

        memory : c.memory ≡ true
        memory = rw (memory_is L K few) refl

        at_typed : (o : Option ℕ) → AreEffectsTyped c n m (effects_at (λ at. MemoryInit k at 0 (length d.bytes) ∷ DataDrop k ∷ []) o)
        at_typed None = tt
        at_typed (Some a) = ((memory, low), (low, tt))

        go : (mode : DataMode) → d.mode ≡ mode → AreEffectsTyped c n m (data_effects (member_number L m) k d)
        go (data_mode.Active space offset) q = rw q (at_typed (member_number L m offset))
        go data_mode.Passive q = rw q tt

    datas_typed : (k : ℕ) (ds : List Data) → k + length ds ≤ length wasm.datas → AreEffectsTyped c n m (all_effects (data_effects (member_number L m)) k ds)
    datas_typed k [] le = tt
    datas_typed k (d ∷ ds) le =
        typed_append c n m (data_effects (member_number L m) k d) (all_effects (data_effects (member_number L m)) (k + 1) ds) (data_typed k d (omega arith)) (datas_typed (k + 1) ds (omega arith))

    effects_typed : AreEffectsTyped c n m (segment_effects (member_number L m) wasm)
    effects_typed =
        let here : wasm_of L m ≡ Some wasm = ap (λ (o : Option Member). o >>= λ y. Some y.wasm) at in
        let fits = parts_fit wasm (is_sound L m wasm K.set here).valid in
        typed_append c n m (all_effects (elem_effects (member_number L m)) 0 wasm.elems) (all_effects (data_effects (member_number L m)) 0 wasm.datas)
        (elems_typed 0 wasm.elems (λ i e h. (let place : i ≡ 0 + i = omega arith in subst (λ j. slice_get wasm.elems j ≡ Some e) place h)) fits.elems)
        (datas_typed 0 wasm.datas (omega arith))

    slots_typed : IsEffectTyped c (slots_effect L x m)
    slots_typed =
        let many = joined_length (λ k w. map (passive_elem n k) w.elems) (λ w. length w.elems) (λ k w. length-map w.elems (passive_elem n k)) 0 members in
        let place : x.slots m ≡ length (own_elems L n) + m = omega arith in
        let there : slice_get merged.elems (x.slots m) ≡ Some (slots_elem L n m) =
        ap (slice_get merged.elems) place ∙ past_front (own_elems L n) (slot_elems L n ++ outside_elem L n ∷ declared_elem L n ∷ []) m
        ∙ in_front (slot_elems L n) (outside_elem L n ∷ declared_elem L n ∷ []) m (slots_elem L n m) (one_there (λ k w. slots_elem L n k) 0 members m m member at (omega arith)) in
        (ap (λ (o : Option Elem). o >>= type_of_elem) there, ap (λ (o : Option TableType). o >>= elem_of_table) (table_at L K few m member at 0 (shared_table_type L) refl))

    called_typed : (p : Phase) (f : ℕ) → phase_function p m wasm ≡ Some f → c.functions (n.named m f) ≡ Some nullary
    called_typed p f e =
        let r = callable L K few m member at lt_m p f e in
        let is : function_ref L m f ≡ Some r.0 = r.1 in
        ap (λ (o : Option Ref). function_type merged (number_of (option_map (function_number L) o))) is ∙ ref_typed L K few r.0 nullary r.2

    is_phase_typed : IsPhaseTyped c L n x m wasm
    is_phase_typed = record { guard = guard_typed m lt_m; effects = effects_typed; slots = slots_typed; called = called_typed }

  phase_high : (m : ℕ) (member : Member) → slice_get members m ≡ Some member → (p : Phase)
      → is_some (height (plain (phase_code L n x m member.wasm p)) (phase_code L n x m member.wasm p)) ≡ true
  phase_high m member at p =
      let code = phase_code L n x m member.wasm p in
      let typed = (typing L n x (plain code)).phases refl m member.wasm (is_phase_typed m member at code) p in
      some_so (height (plain code) code) typed.0 typed.1

  -- ---- the entry function

  pub tasks_typed : (ty : FuncType) (code : Code) (tasks : List Task) → AreOf L tasks → AreTasksTyped (body_context merged ty code) x tasks
  tasks_typed ty code [] all = tt
  tasks_typed ty code (task ∷ tasks) all =
      let member = got members task.member all.0 in
      (phase_typed L K.set task.member member.0 member.1 all.0 task.phase, tasks_typed ty code tasks all.1)

  entry_called : (code : List Instr) → IsEntryTyped (plain code) L n
  entry_called code f e =
      let entry = entry_ready L K few in
      let same : entry.function ≡ f = (let q = sym entry.entry ∙ e in cc) in
      let typed : function_type merged (n.named 0 entry.function) ≡ Some nullary =
      ap (λ (o : Option Ref). function_type merged (number_of (option_map (function_number L) o))) entry.target ∙ ref_typed L K few (Own 0 entry.function) nullary entry.callable in
      subst (λ k. function_type merged (n.named 0 k) ≡ Some nullary) same typed

  entry_high : is_some (height (plain (entry_code L n x)) (entry_code L n x)) ≡ true
  entry_high =
      let code = entry_code L n x in
      let typed = (typing L n x (plain code)).entry refl (tasks_typed nullary (plain_code code) (startup_frame L.set).tasks (of_startup L K.set)) (entry_called code) in
      some_so (height (plain code) code) typed.0 typed.1

  -- ---- all bodies

  abbrev pub start : ℕ
  start = 0 + length (own_codes L n x) + length (from_members (stub_codes L) 0 members)

  -- the type of the q-th generated body
  pub generated_type : (q t : ℕ) (ty : FuncType) → slice_get (generated_types L) q ≡ Some t → slice_get merged.types t ≡ Some ty → type_of_body merged (start + q) ≡ Some ty
  generated_type q t ty listed there =
      let own = own_funcs_many L K.set in
      let codes = own_codes_many L K.set in
      let types = lengths_same (stub_types L n) (stubs_of L) (λ m w. length-map (stubs_of L m w) _) 0 members in
      let bodies = lengths_same (stub_codes L) (stubs_of L) (λ m w. length-map (stubs_of L m w) _) 0 members in
      let place : start + q ≡ length (own_funcs L n x) + (length (from_members (stub_types L n) 0 members) + q) = omega arith in
      let func : slice_get merged.funcs (start + q) ≡ Some t =
      ap (slice_get merged.funcs) place ∙ past_front (own_funcs L n x) (from_members (stub_types L n) 0 members ++ generated_types L) (length (from_members (stub_types L n) 0 members) + q)
      ∙ past_front (from_members (stub_types L n) 0 members) (generated_types L) q ∙ listed in
      ap (λ (o : Option ℕ). o >>= slice_get merged.types) func ∙ there

  nullary_typed : (q : ℕ) → q < 4 * length members → type_of_body merged (start + q) ≡ Some nullary
  nullary_typed q lt = generated_type q (nullary_number L) nullary (nullary_listed L K.set q lt) (nullary_there L n x)

  four_bodies : (m : ℕ) (member : Member) → slice_get members m ≡ Some member → (i : ℕ) (b : Code) → slice_get (phase_codes L n x m member.wasm) i ≡ Some b
      → is_some (height (body_context merged nullary b) b.body.list) ≡ true
  four_bodies m member at zero b e = (let same : plain_code (phase_code L n x m member.wasm Place) ≡ b = cc in subst (λ (d : Code). is_some (height (body_context merged nullary d) d.body.list) ≡ true) same (phase_high m member at Place))
  four_bodies m member at (suc zero) b e = (let same : plain_code (phase_code L n x m member.wasm Start) ≡ b = cc in subst (λ (d : Code). is_some (height (body_context merged nullary d) d.body.list) ≡ true) same (phase_high m member at Start))
  four_bodies m member at (suc (suc zero)) b e = (let same : plain_code (phase_code L n x m member.wasm Relocate) ≡ b = cc in subst (λ (d : Code). is_some (height (body_context merged nullary d) d.body.list) ≡ true) same (phase_high m member at Relocate))
  four_bodies m member at (suc (suc (suc zero))) b e = (let same : plain_code (phase_code L n x m member.wasm Construct) ≡ b = cc in subst (λ (d : Code). is_some (height (body_context merged nullary d) d.body.list) ≡ true) same (phase_high m member at Construct))
  four_bodies m member at (suc (suc (suc (suc i)))) b e = absurd cc

  pub phases_none : first_in (find L K few) start (from_members (phase_codes L n x) 0 members) ≡ None
  phases_none =
      members_none (find L K few) (phase_codes L n x) 0 members start (λ j y i b at there. (
      let zero_j : 0 + j ≡ j = omega arith in
      let mine : slice_get (phase_codes L n x j y.wasm) i ≡ Some b = subst (λ k. slice_get (phase_codes L n x k y.wasm) i ≡ Some b) zero_j there in
      let q = length (from_members (phase_codes L n x) 0 (take j members)) + i in
      let listed = member_at (phase_codes L n x) (phase_codes L n x) (λ m w. refl) 0 members j j y i at (omega arith) (slice_get_within (phase_codes L n x j y.wasm) i b mine) ∙ mine in
      let within = slice_get_within (from_members (phase_codes L n x) 0 members) q b listed in
      let many = phases_many L n x members 0 in
      body_none L K few (start + q) b nullary (nullary_typed q (omega arith)) (four_bodies j y at i b mine)))

  abbrev pub entry_place : ℕ
  entry_place = start + length (from_members (phase_codes L n x) 0 members) + length (with_loader L (loader_codes L n x))

  pub entry_none : find L K few entry_place (plain_code (entry_code L n x)) ≡ None
  entry_none =
      let many = phases_many L n x members 0 in
      let same = with_many L (loader_codes L n x) (loader_funcs L) (loader_codes_many L n x) in
      let size = loader_size_is L in
      let place : start + last L K.set ≡ entry_place = omega arith in
      let typed : type_of_body merged entry_place ≡ Some nullary =
      subst (λ k. type_of_body merged k ≡ Some nullary) place
      (generated_type (last L K.set) (nullary_number L) nullary (entry_listed L K.set) (nullary_there L n x)) in
      body_none L K few entry_place (plain_code (entry_code L n x)) nullary typed entry_high
