-- The effects of the active segments of a member name what the store has, and their numbers are words.
use Rattle.std.proofs.Common.{◌≡◌, ℕ, ◌+◌, ◌<◌, ◌≤◌, true, false, List, [], ◌∷◌, ◌++◌, length, Option, Some, None, refl, sym, ap, ◌∙◌, subst, arith, slice_get}
use Rattle.std.specs.Prelude.{is_some, nat_lt, IsTrue}
use Rattle.std.specs.List.{All, list_all}
use Rattle.std.proofs.lemmas.Bool.{and_parts}
use Rattle.std.proofs.lemmas.List.Elements.{All-head, All-tail}
use Rattle.std.proofs.lemmas.Option.{slice_get_within}
use Rattle.spec_reading.specs.wasm_form.declared.types.ValType.TheVariants.{I32}
use Rattle.spec_reading.specs.wasm_form.declared.types.TableType.{TableType}
use Rattle.spec_reading.specs.wasm_form.declared.instr.Expr.{Expr}
use Rattle.spec_reading.specs.wasm_form.declared.module.ElemMode.{ElemMode}
use Rattle.spec_reading.specs.wasm_form.declared.module.ElemMode.TheVariants as elem_mode
use Rattle.spec_reading.specs.wasm_form.declared.module.ElemItems.{ElemItems}
use Rattle.spec_reading.specs.wasm_form.declared.module.ElemItems.TheVariants as elem_items
use Rattle.spec_reading.specs.wasm_form.declared.module.Elem.{Elem}
use Rattle.spec_reading.specs.wasm_form.declared.module.DataMode.{DataMode}
use Rattle.spec_reading.specs.wasm_form.declared.module.DataMode.TheVariants as data_mode
use Rattle.spec_reading.specs.wasm_form.declared.module.Data.{Data}
use Rattle.spec_reading.specs.wasm_form.declared.module.Module.{Module}
use Rattle.spec_reading.specs.wasm_form.declared.runtime.Value.{Value}
use Rattle.spec_reading.specs.wasm_form.declared.runtime.Value.TheVariants.{Num, Func}
use Rattle.spec_reading.specs.spec_binary.Options.{◌>>=◌}
use Rattle.spec_reading.specs.spec_binary.IndexSpaces.{table_space, memory_space}
use Rattle.spec_reading.specs.spec_binary.WellFormed.{IsFormedItems, IsFormedElem, IsFormedData}
use Rattle.spec_loading.specs.spec_validation.Faults.{is_constant, has_functions, elem_mode_fits, items_fit, elem_fits, data_mode_fits, data_fits}
use Rattle.spec_loading.specs.spec_runtime.Constants.{constant_of, number_in}
use Rattle.spec_loading.specs.spec_execution.Activations.{Effect, TableInit, ElemDrop, MemoryInit, DataDrop}
use Rattle.spec_loading.specs.spec_execution.Segments.{items_count, effects_at, elem_effects, data_effects, all_effects, segment_effects}
use Rattle.spec_loading.specs.spec_linking.Sets.{Member}
use Rattle.spec_loading.specs.spec_linking.LinkedSets.{LinkedSet, function_ref}
use Rattle.spec_loading.specs.spec_linking.Slots.{linked_plan, imported_base, member_number}
use Rattle.spec_loading.proofs.of_spec_safety.Lookups.{went_on}
use Rattle.spec_loading.specs.Addresses.{table_address, elem_address, data_address}
use Rattle.spec_loading.specs.Members.{Store, counts_of, set_view, opening_store}
use Rattle.merge_start.specs.Started.{IsWord, HasAddress, AreEffectsReady}
use Rattle.merge_module.proofs.Known.{IsKnown}
use Rattle.merge_module.proofs.GlobalValues.{IsValue, constant_given}
use Rattle.merge_module.proofs.SpelledConstants.{Fit, ModeFits, DataModeFits, ConstantsFit}

append_ready : (L : LinkedSet) (m : ℕ) (xs ys : List Effect) → AreEffectsReady L m xs → AreEffectsReady L m ys → AreEffectsReady L m (xs ++ ys)
append_ready L m [] ys a b = b
append_ready L m (x ∷ xs) ys a b = (a.0, append_ready L m xs ys a.1 b)

some_address : {A : Type 0} (xs : List A) (o : Option ℕ) → IsTrue (is_some (o >>= slice_get xs)) → HasAddress o
some_address xs None h = absurd (let q : false ≡ true = h in cc)
some_address xs (Some a) h = (a, refl)

module _ (L : LinkedSet) (K : IsKnown L) (few : (linked_plan L).pages_max ≤ 16384) (m : ℕ) where
  -- ---- segments

  module _ (member : Member) (at : slice_get L.set.members m ≡ Some member) where
    abbrev wasm : Module
    wasm = member.wasm

    -- an offset is a word
    offset_word : (e : Expr) (k : ℕ) → Fit e.list → is_constant wasm I32 e ≡ true → (constant_of (function_ref L m) (imported_base L m) e >>= number_in) ≡ Some k → IsWord k
    offset_word e k fit typed h =
        let given = constant_given L K few m member at e I32 fit typed in
        go given.0 given.2 (sym (ap (λ (o : Option Value). o >>= number_in) given.1) ∙ h)
      where
        go : (v : Value) → IsValue L I32 v → number_in v ≡ Some k → IsWord k
        go (Num n) lt q = (let same : n ≡ k = cc in subst IsWord same lt)
        go (Func r) none q = absurd none

    abbrev number : Expr → Option ℕ
    number = member_number L m

    abbrev us : Store
    us = opening_store L

    counted : (set_view L).counts m ≡ counts_of (Some wasm)
    counted = ap (λ (o : Option Member). counts_of (o >>= λ y. Some y.wasm)) at

    table_address_there : (t : ℕ) → t < length (table_space wasm) → HasAddress (table_address L m t)
    table_address_there t lt =
        let held = K.holds.tables m t (subst (λ c. t < c.tables) (sym counted) lt) in
        let a = went_on (table_address L m t) (slice_get us.tables) held.0 held.1 in
        (a.0, a.1)

    elem_address_there : (e : ℕ) → e < length wasm.elems → HasAddress (elem_address L m e)
    elem_address_there e lt =
        let held = K.holds.elems m e (subst (λ c. e < c.elems) (sym counted) lt) in
        let a = went_on (elem_address L m e) (slice_get us.elems) held.0 held.1 in
        (a.0, a.1)

    data_address_there : (d : ℕ) → d < length wasm.datas → HasAddress (data_address L m d)
    data_address_there d lt =
        let held = K.holds.datas m d (subst (λ c. d < c.datas) (sym counted) lt) in
        some_address us.datas (data_address L m d) held

    table_numbered : (t : ℕ) → has_functions (slice_get (table_space wasm) t) ≡ true → t < length (table_space wasm)
    table_numbered t h = go (slice_get (table_space wasm) t) refl h
      where
        go : (o : Option TableType) → slice_get (table_space wasm) t ≡ o → has_functions o ≡ true → t < length (table_space wasm)
        go None e h = absurd cc
        go (Some ty) e h = slice_get_within (table_space wasm) t ty e

    count_word : (items : ElemItems) → IsFormedItems items → IsWord (items_count items)
    count_word (elem_items.Funcs ns) short = short
    count_word (elem_items.Exprs t es) short = short.1.0

    elem_ready : (n : ℕ) (e : Elem) → n < length wasm.elems → elem_fits wasm e ≡ true → IsFormedElem e → ModeFits e.mode → AreEffectsReady L m (elem_effects number n e)
    elem_ready n e lt fits formed fit = go e.mode refl
      where
        at_ready : (t : ℕ) (o : Option ℕ) → t < length (table_space wasm) → ((k : ℕ) → o ≡ Some k → IsWord k)
            → AreEffectsReady L m (effects_at (λ at. TableInit n t at 0 (items_count e.items) ∷ ElemDrop n ∷ []) o)
        at_ready t None there words = tt
        at_ready t (Some k) there words =
            let table = table_address_there t there in
            let segment = elem_address_there n lt in
            let zero_word : IsWord 0 = omega arith in
            ((words k refl, zero_word, count_word e.items formed.items, table, segment), (segment, tt))

        go : (mode : ElemMode) → e.mode ≡ mode → AreEffectsReady L m (elem_effects number n e)
        go (elem_mode.Active t offset) q =
            let mode_fits : elem_mode_fits wasm (elem_mode.Active t offset) ≡ true = ap (elem_mode_fits wasm) (sym q) ∙ (and_parts (elem_mode_fits wasm e.mode) (items_fit wasm e.items) fits).0 in
            let both = and_parts (has_functions (slice_get (table_space wasm) t)) (is_constant wasm I32 offset) mode_fits in
            rw q (at_ready t (number offset) (table_numbered t both.0) (λ k h. offset_word offset k (subst ModeFits q fit) both.1 h))
        go elem_mode.Passive q = rw q tt
        go elem_mode.Declarative q = rw q tt

    elems_ready : (n : ℕ) (es : List Elem) → n + length es ≤ length wasm.elems → list_all (elem_fits wasm) es ≡ true → All IsFormedElem es → All (λ (s : Elem). ModeFits s.mode) es
        → AreEffectsReady L m (all_effects (elem_effects number) n es)
    elems_ready n [] le fits formed fit = tt
    elems_ready n (e ∷ es) le fits formed fit =
        let both = and_parts (elem_fits wasm e) (list_all (elem_fits wasm) es) fits in
        append_ready L m (elem_effects number n e) (all_effects (elem_effects number) (n + 1) es)
        (elem_ready n e (omega arith) both.0 (All-head IsFormedElem e es formed) (All-head (λ (s : Elem). ModeFits s.mode) e es fit))
        (elems_ready (n + 1) es (omega arith) both.1 (All-tail IsFormedElem e es formed) (All-tail (λ (s : Elem). ModeFits s.mode) e es fit))

    data_ready : (n : ℕ) (d : Data) → n < length wasm.datas → data_fits wasm d ≡ true → IsFormedData d → DataModeFits d.mode → AreEffectsReady L m (data_effects number n d)
    data_ready n d lt fits formed fit = go d.mode refl
      where
        at_ready : (o : Option ℕ) → ((k : ℕ) → o ≡ Some k → IsWord k) → AreEffectsReady L m (effects_at (λ at. MemoryInit n at 0 (length d.bytes) ∷ DataDrop n ∷ []) o)
        at_ready None words = tt
        at_ready (Some k) words =
            let segment = data_address_there n lt in
            let zero_word : IsWord 0 = omega arith in
            ((words k refl, zero_word, formed.bytes, segment), (segment, tt))

        go : (mode : DataMode) → d.mode ≡ mode → AreEffectsReady L m (data_effects number n d)
        go (data_mode.Active memory offset) q =
            let mode_fits : data_mode_fits wasm (data_mode.Active memory offset) ≡ true = ap (data_mode_fits wasm) (sym q) ∙ fits in
            rw q (at_ready (number offset) (λ k h. offset_word offset k (subst DataModeFits q fit) (and_parts (nat_lt memory (length (memory_space wasm))) (is_constant wasm I32 offset) mode_fits).1 h))
        go data_mode.Passive q = rw q tt

    datas_ready : (n : ℕ) (ds : List Data) → n + length ds ≤ length wasm.datas → list_all (data_fits wasm) ds ≡ true → All IsFormedData ds → All (λ (s : Data). DataModeFits s.mode) ds
        → AreEffectsReady L m (all_effects (data_effects number) n ds)
    datas_ready n [] le fits formed fit = tt
    datas_ready n (d ∷ ds) le fits formed fit =
        let both = and_parts (data_fits wasm d) (list_all (data_fits wasm) ds) fits in
        append_ready L m (data_effects number n d) (all_effects (data_effects number) (n + 1) ds)
        (data_ready n d (omega arith) both.0 (All-head IsFormedData d ds formed) (All-head (λ (s : Data). DataModeFits s.mode) d ds fit))
        (datas_ready (n + 1) ds (omega arith) both.1 (All-tail IsFormedData d ds formed) (All-tail (λ (s : Data). DataModeFits s.mode) d ds fit))

    pub segments_ready : list_all (elem_fits wasm) wasm.elems ≡ true → list_all (data_fits wasm) wasm.datas ≡ true → All IsFormedElem wasm.elems → All IsFormedData wasm.datas → ConstantsFit wasm
        → AreEffectsReady L m (segment_effects number wasm)
    segments_ready elems datas formed_elems formed_datas fit =
        append_ready L m (all_effects (elem_effects number) 0 wasm.elems) (all_effects (data_effects number) 0 wasm.datas)
        (elems_ready 0 wasm.elems (omega arith) elems formed_elems fit.elems) (datas_ready 0 wasm.datas (omega arith) datas formed_datas fit.datas)
