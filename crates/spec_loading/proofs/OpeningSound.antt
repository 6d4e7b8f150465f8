-- The store with which a linked set begins is sound.
use Rattle.std.proofs.Common.{◌≡◌, ℕ, List, length, slice_get, Option, Some, sym, ap, ◌∙◌, subst, arith}
use Rattle.spec_linking.specs.wasm_form.declared.types.TableType.{TableType}
use Rattle.spec_linking.specs.wasm_form.declared.module.GlobalDef.{GlobalDef}
use Rattle.spec_linking.specs.wasm_form.declared.module.Elem.{Elem}
use Rattle.spec_linking.specs.wasm_form.declared.module.Data.{Data}
use Rattle.spec_linking.specs.wasm_form.declared.module.Module.{Module}
use Rattle.spec_linking.specs.wasm_form.declared.runtime.Ref.{Ref}
use Rattle.spec_linking.specs.wasm_form.declared.runtime.Value.{Value}
use Rattle.spec_linking.specs.spec_binary.Options.{◌>>=◌}
use Rattle.spec_linking.specs.spec_runtime.Tables.{TableInstance}
use Rattle.spec_linking.specs.spec_validation.Faults.{table_bounded}
use Rattle.spec_linking.proofs.of_spec_validation.Parts.{parts_fit}
use Rattle.spec_linking.specs.spec_execution.Views.{View}
use Rattle.spec_linking.specs.spec_execution.Ranges.{AllExist}
use Rattle.spec_linking.specs.spec_execution.Segments.{opened_items}
use Rattle.spec_linking.specs.spec_execution.OneModule.{opened_table}
use Rattle.spec_linking.specs.Sets.{Member}
use Rattle.spec_linking.specs.Gathering.{IsSet}
use Rattle.spec_linking.specs.LinkedSets.{LinkedSet, wasm_of, definition}
use Rattle.spec_linking.specs.Slots.{linked_plan, memory_base, table_base, member_constant, member_items, cell_number}
use Rattle.spec_linking.specs.Links.{Links}
use Rattle.spec_safety.specs.ValueTypes.{HasType, AreBytes, IsTable}
use Rattle.spec_safety.specs.SoundModules.{HoldsBytes}
use Rattle.spec_safety.proofs.Lookups.{got, holds_at, passes_at}
use Rattle.spec_safety.proofs.ModuleOpenings.{table_opens}
use Rattle.spec_loading.specs.Addresses.{own_table_address, elem_address, data_address}
use Rattle.spec_loading.specs.Members.{Store, set_view, opening_table, opening_store}
use Rattle.spec_loading.specs.RunItems.{RunGlobal, SharedStackPointer, MemberMemoryBase, MemberTableBase, MemberCell, MemberGlobal, address_of_global, first_value, RunTable, SharedFunctionTable, MemberTable, address_of_table, run_global_type}
use Rattle.spec_loading.specs.SoundSets.{IsSoundStore, HoldBytes, HasFewPages}
use Rattle.spec_loading.proofs.LinkedMembers.{is_sound}
use Rattle.spec_loading.proofs.LinkedValues.{segment_exists}
use Rattle.spec_loading.proofs.LinkedOpening.{shared_exists}
use Rattle.spec_loading.proofs.DistinctAddresses.{item_is, of_member}
use Rattle.spec_loading.proofs.OpeningSizes.{opened_length}
use Rattle.spec_loading.proofs.OpeningValues.{globals_begin, globals_have_values, constant_of, own_tables_begin, elems_begin, datas_begin}
use Rattle.spec_loading.proofs.PlannedWords.{most_within, entries_within}
use Rattle.spec_loading.proofs.FirstNumbers.{stack_small, memory_base_small, table_base_small, number_small}
use Rattle.spec_loading.proofs.MemberGlobals.{own_global_type}
use Rattle.spec_loading.proofs.TypedConstants.{number_typed, own_typed}

module _ (L : LinkedSet) (set : IsSet L.set) (links : Links L) (few : HasFewPages L) where
  abbrev V : View Store
  V = set_view L

  abbrev us : Store
  us = opening_store L

  -- ---- globals

  own_first : (m k a : ℕ) (v : Value) → address_of_global L (MemberGlobal m k) ≡ Some a → first_value L (MemberGlobal m k) ≡ Some v
      → HasType V (run_global_type L (MemberGlobal m k)) v
  own_first m k a v at e = of_member L m a _ _ at (λ x found h.
      let within = item_is _ (length x.wasm.globals) k a h in
      let g = got x.wasm.globals k within.0 in
      let typed = own_typed L set links few m x found k g.0 g.1 in
      let is : (slice_get x.wasm.globals k >>= λ y. member_constant L m y.init) ≡ Some typed.0 =
      ap (λ (o : Option GlobalDef). o >>= λ y. member_constant L m y.init) g.1 ∙ typed.1 in
      let same : typed.0 ≡ v = (let w = sym is ∙ constant_of L m k v x found e in cc) in
      subst (λ w. HasType V (run_global_type L (MemberGlobal m k)) w) same
      (subst (λ t. HasType V t typed.0) (sym (own_global_type L m x found k g.0 g.1)) typed.2))

  first_typed : (x : RunGlobal) (a : ℕ) (v : Value) → address_of_global L x ≡ Some a → first_value L x ≡ Some v → HasType V (run_global_type L x) v
  first_typed SharedStackPointer a v at e =
      number_typed L (Some (linked_plan L).stack_top) v
      (λ n q. (let same : (linked_plan L).stack_top ≡ n = cc in let small = stack_small L links few in omega arith)) e
  first_typed (MemberMemoryBase m) a v at e = number_typed L (memory_base L m) v (memory_base_small L links few m) e
  first_typed (MemberTableBase m) a v at e = number_typed L (table_base L m) v (table_base_small L links m) e
  first_typed (MemberCell m c) a v at e =
      number_typed L (cell_number L c.1 (definition L m c.0 c.1)) v (number_small L links few c.1 (definition L m c.0 c.1)) e
  first_typed (MemberGlobal m k) a v at e = own_first m k a v at e

  globals_sound : (x : RunGlobal) (a : ℕ) → address_of_global L x ≡ Some a
      → (v : Value) × (slice_get us.globals a ≡ Some v) × HasType V (run_global_type L x) v
  globals_sound x a at =
      let v = globals_have_values L set links x a at in
      (v.0, globals_begin L x a v.0 at v.1, first_typed x a v.0 at v.1)

  -- ---- tables

  shared_is_table : IsTable V (opening_table L)
  shared_is_table =
      let many = opened_length L in
      let room = entries_within L links in
      let most = most_within L links in
      record { entries = shared_exists L set links; few = omega arith; most = omega arith }

  here : (m : ℕ) (x : Member) → slice_get L.set.members m ≡ Some x → wasm_of L m ≡ Some x.wasm
  here m x found = ap (λ (o : Option Member). o >>= λ y. Some y.wasm) found

  tables_sound : (x : RunTable) (a : ℕ) → address_of_table L x ≡ Some a → (t : TableInstance) × (slice_get us.tables a ≡ Some t) × IsTable V t
  tables_sound SharedFunctionTable a at =
      let same : 0 ≡ a = cc in
      (opening_table L, ap (slice_get us.tables) (sym same), shared_is_table)
  tables_sound (MemberTable m k) a at = of_member L m a _ _ at (λ x found h.
      let within = item_is _ (length x.wasm.tables) k a h in
      let t = got x.wasm.tables k within.0 in
      let bounded = passes_at table_bounded x.wasm.tables k t.0 (parts_fit x.wasm (is_sound L m x.wasm set (here m x found)).valid).tables t.1 in (
        opened_table t.0,
        sym (ap (λ (o : Option Module). o >>= λ w. own_table_address L m w k >>= slice_get us.tables) (here m x found)
            ∙ ap (λ (o : Option ℕ). o >>= slice_get us.tables) h)
            ∙ own_tables_begin L m k
            ∙ ap (λ (o : Option Module). o >>= λ w. slice_get w.tables k >>= λ y. Some (opened_table y)) (here m x found)
            ∙ ap (λ (o : Option TableType). o >>= λ y. Some (opened_table y)) t.1,
        table_opens V t.0 bounded,
      ))

  -- ---- segments

  elems_sound : (m e a : ℕ) → elem_address L m e ≡ Some a → (items : List (Option Ref)) × (slice_get us.elems a ≡ Some items) × AllExist V items
  elems_sound m e a at = of_member L m a _ _ at (λ x found h.
      let within = item_is _ (length x.wasm.elems) e a h in
      let s = got x.wasm.elems e within.0 in (
        opened_items (member_items L m) s.0,
        sym (ap (λ (o : Option ℕ). o >>= slice_get us.elems) at)
            ∙ elems_begin L m e
            ∙ ap (λ (o : Option Module). o >>= λ w. slice_get w.elems e >>= λ y. Some (opened_items (member_items L m) y)) (here m x found)
            ∙ ap (λ (o : Option Elem). o >>= λ y. Some (opened_items (member_items L m) y)) s.1,
        segment_exists L set links m s.0,
      ))

  datas_sound : HoldBytes L → (m d a : ℕ) → data_address L m d ≡ Some a → (bytes : List ℕ) × (slice_get us.datas a ≡ Some bytes) × AreBytes bytes
  datas_sound hold m d a at = of_member L m a _ _ at (λ x found h.
      let within = item_is _ (length x.wasm.datas) d a h in
      let s = got x.wasm.datas d within.0 in (
        s.0.bytes,
        sym (ap (λ (o : Option ℕ). o >>= slice_get us.datas) at)
            ∙ datas_begin L m d
            ∙ ap (λ (o : Option Module). o >>= λ w. slice_get w.datas d >>= λ y. Some y.bytes) (here m x found)
            ∙ ap (λ (o : Option Data). o >>= λ y. Some y.bytes) s.1,
        holds_at (λ (y : Data). AreBytes y.bytes) x.wasm.datas d s.0 (holds_at (λ (y : Member). HoldsBytes y.wasm) L.set.members m x hold found) s.1,
      ))

  pub opening_sound : HoldBytes L → IsSoundStore L us
  opening_sound hold = record { globals = globals_sound; tables = tables_sound; elems = elems_sound; datas = datas_sound hold }
