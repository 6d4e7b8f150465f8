-- The active segments of the merged module are two: functions outside the members that have slots, and the error texts.
use Rattle.std.proofs.Common.{◌≡◌, ℕ, suc, ◌+◌, true, List, [], ◌∷◌, ◌++◌, length, map, slice_get, slice_set, nat_le, Option, Some, refl, sym, ap, ap₂, ◌∙◌, arith, append_assoc}
use Rattle.std.proofs.Math.Seq.{take-length}
use Rattle.std.proofs.lemmas.Bool.Decides.{nat_tests}
use Rattle.spec_reading.specs.wasm_form.declared.instr.Expr.{Expr}
use Rattle.spec_reading.specs.wasm_form.declared.module.ElemMode.{ElemMode}
use Rattle.spec_reading.specs.wasm_form.declared.module.ElemMode.TheVariants as elem_mode
use Rattle.spec_reading.specs.wasm_form.declared.module.Elem.{Elem}
use Rattle.spec_reading.specs.wasm_form.declared.module.Data.{Data}
use Rattle.spec_reading.specs.wasm_form.declared.module.Module.{Module}
use Rattle.spec_reading.specs.wasm_form.declared.runtime.Ref.{Ref}
use Rattle.spec_reading.specs.spec_binary.Options.{◌>>=◌}
use Rattle.spec_loading.specs.spec_runtime.Memories.{MemoryInstance, bytes_at, written, initialized}
use Rattle.spec_loading.specs.spec_runtime.Tables.{TableInstance, entries_at, entries_written, entries_initialized}
use Rattle.spec_loading.specs.spec_execution.Activations.{Effect, TableInit, ElemDrop, MemoryInit, DataDrop}
use Rattle.spec_loading.specs.spec_execution.Views.{View, Effected, Gives, table_done, memory_done, performed}
use Rattle.spec_loading.specs.spec_execution.Segments.{goes_on, followed_by, all_performed, elem_applied, data_applied, elem_effects, data_effects, all_effects, segment_effects}
use Rattle.spec_loading.specs.spec_execution.Instances.{ModuleParts, module_view}
use Rattle.spec_loading.specs.spec_linking.Sets.{Member}
use Rattle.spec_loading.specs.spec_linking.LinkedSets.{LinkedSet}
use Rattle.spec_loading.specs.spec_linking.Slots.{linked_plan, fresh_functions, outside_slots}
use Rattle.spec_loading.specs.Texts.{error_texts}
use Rattle.spec_loading.specs.Members.{from_members}
use Rattle.merge_match.specs.Renumbering.{Numbers}
use Rattle.merge_module.specs.MergedModule.{number_expr, passive_elem, slots_elem, outside_elem, declared_elem, merged_elems, passive_data, texts_segment, merged_datas}

-- ---- segments that aren't active have no effects

effects_append : {A : Type 0} (f : ℕ → A → List Effect) (k : ℕ) (xs ys : List A) → all_effects f k (xs ++ ys) ≡ all_effects f k xs ++ all_effects f (k + length xs) ys
effects_append f k [] ys = (let place : k ≡ k + 0 = omega arith in ap (λ i. all_effects f i ys) place)
effects_append f k (x ∷ xs) ys =
    let place : k + 1 + length xs ≡ k + suc (length xs) = omega arith in
    ap (λ l. f k x ++ l) (effects_append f (k + 1) xs ys ∙ ap (λ i. all_effects f (k + 1) xs ++ all_effects f i ys) place)
    ∙ sym (append_assoc (f k x) (all_effects f (k + 1) xs) (all_effects f (k + suc (length xs)) ys))

abbrev IsQuiet : {A : Type 0} → (ℕ → A → List Effect) → List A → Type 0
IsQuiet f xs = (k : ℕ) → all_effects f k xs ≡ []

quiet_append : {A : Type 0} (f : ℕ → A → List Effect) (xs ys : List A) → IsQuiet f xs → IsQuiet f ys → IsQuiet f (xs ++ ys)
quiet_append f xs ys a b k = effects_append f k xs ys ∙ rw (a k, b (k + length xs)) refl

quiet_members : {A : Type 0} (f : ℕ → A → List Effect) (of : ℕ → Module → List A) → ((m : ℕ) (w : Module) → IsQuiet f (of m w)) → (j : ℕ) (xs : List Member) → IsQuiet f (from_members of j xs)
quiet_members f of each j [] k = refl
quiet_members f of each j (x ∷ xs) k = quiet_append f (of j x.wasm) (from_members of (j + 1) xs) (each j x.wasm) (quiet_members f of each (j + 1) xs) k

-- what is behind quiet ones
behind : {A : Type 0} (f : ℕ → A → List Effect) (xs ys : List A) (k : ℕ) → IsQuiet f xs → all_effects f k (xs ++ ys) ≡ all_effects f (k + length xs) ys
behind f xs ys k quiet = effects_append f k xs ys ∙ rw (quiet k) refl

module _ (L : LinkedSet) (n : Numbers) where
  abbrev pub own_elems : List Elem
  own_elems = from_members (λ m wasm. map (passive_elem n m) wasm.elems) 0 L.set.members

  abbrev pub slot_elems : List Elem
  slot_elems = from_members (λ m wasm. slots_elem L n m ∷ []) 0 L.set.members

  abbrev pub own_datas : List Data
  own_datas = from_members (λ m wasm. map passive_data wasm.datas) 0 L.set.members

  -- the number of the one element segment, and of the data segment
  abbrev pub outside_number : ℕ
  outside_number = 0 + length own_elems + length slot_elems

  abbrev pub texts_number : ℕ
  texts_number = 0 + length own_datas

  abbrev pub outside_at : ℕ
  outside_at = (linked_plan L).table_end + length (fresh_functions L)

  abbrev pub four_effects : List Effect
  four_effects =
      TableInit outside_number 0 outside_at 0 (length (map n.function (outside_slots L))) ∷ ElemDrop outside_number
      ∷ MemoryInit texts_number (linked_plan L).stack_top 0 (length error_texts) ∷ DataDrop texts_number ∷ []

module _ (number : Expr → Option ℕ) where
  passive_quiet : (n : Numbers) (m k : ℕ) (e : Elem) → elem_effects number k (passive_elem n m e) ≡ []
  passive_quiet n m k e = go e.mode refl
    where
      go : (mode : ElemMode) → e.mode ≡ mode → elem_effects number k (passive_elem n m e) ≡ []
      go (elem_mode.Active t offset) q = rw q refl
      go elem_mode.Passive q = rw q refl
      go elem_mode.Declarative q = rw q refl

  elems_quiet : (n : Numbers) (m : ℕ) (es : List Elem) → IsQuiet (elem_effects number) (map (passive_elem n m) es)
  elems_quiet n m [] k = refl
  elems_quiet n m (e ∷ es) k = rw (passive_quiet n m k e, elems_quiet n m es (k + 1)) refl

  datas_quiet : (ds : List Data) → IsQuiet (data_effects number) (map passive_data ds)
  datas_quiet [] k = refl
  datas_quiet (d ∷ ds) k = rw (datas_quiet ds (k + 1)) refl

  module _ (L : LinkedSet) (n : Numbers) where
    elems_applied : number (number_expr (outside_at L n)) ≡ Some (outside_at L n)
        → all_effects (elem_effects number) 0 (merged_elems L n) ≡ elem_applied (outside_number L n) 0 (length (map n.function (outside_slots L))) (outside_at L n)
    elems_applied e =
        behind (elem_effects number) (own_elems L n) ((slot_elems L n) ++ outside_elem L n ∷ declared_elem L n ∷ []) 0
        (quiet_members (elem_effects number) (λ m wasm. map (passive_elem n m) wasm.elems) (λ m w. elems_quiet n m w.elems) 0 L.set.members)
        ∙ behind (elem_effects number) (slot_elems L n) (outside_elem L n ∷ declared_elem L n ∷ []) (0 + length (own_elems L n))
        (quiet_members (elem_effects number) (λ m wasm. slots_elem L n m ∷ []) (λ m w k. refl) 0 L.set.members)
        ∙ rw e refl

    datas_applied : number (number_expr (linked_plan L).stack_top) ≡ Some (linked_plan L).stack_top
        → all_effects (data_effects number) 0 (merged_datas L) ≡ data_applied (texts_number L n) (length error_texts) (linked_plan L).stack_top
    datas_applied e =
        behind (data_effects number) (own_datas L n) (texts_segment L ∷ []) 0
        (quiet_members (data_effects number) (λ m wasm. map passive_data wasm.datas) (λ m w. datas_quiet w.datas) 0 L.set.members)
        ∙ rw e refl

    pub merged_effects : (wasm : Module) → wasm.elems ≡ merged_elems L n → wasm.datas ≡ merged_datas L
        → number (number_expr (outside_at L n)) ≡ Some (outside_at L n) → number (number_expr (linked_plan L).stack_top) ≡ Some (linked_plan L).stack_top
        → segment_effects number wasm ≡ (four_effects L n)
    merged_effects wasm elems datas one two =
        ap₂ (λ es ds. all_effects (elem_effects number) 0 es ++ all_effects (data_effects number) 0 ds) elems datas
        ∙ ap₂ (λ a b. a ++ b) (elems_applied one) (datas_applied two)

-- ---- what they come to

entries_whole : (items : List (Option Ref)) → entries_at items 0 (length items) ≡ Some items
entries_whole items = (let fits : nat_le (0 + length items) (length items) ≡ true = grind (arith, nat_tests) in rw (fits, take-length items) refl)

bytes_whole : (bytes : List ℕ) → bytes_at bytes 0 (length bytes) ≡ Some bytes
bytes_whole bytes = (let fits : nat_le (0 + length bytes) (length bytes) ≡ true = grind (arith, nat_tests) in rw (fits, take-length bytes) refl)

pub whole_table : (table : TableInstance) (to : ℕ) (items : List (Option Ref)) (count : ℕ) → length items ≡ count → entries_initialized table to items 0 count ≡ entries_written table to items
whole_table table to items count e = rw (sym e) (ap (λ (o : Option (List (Option Ref))). o >>= entries_written table to) (entries_whole items))

pub whole_memory : (memory : MemoryInstance) (to : ℕ) (bytes : List ℕ) → initialized memory to bytes 0 (length bytes) ≡ written memory to bytes
whole_memory memory to bytes = ap (λ (o : Option (List ℕ)). o >>= written memory to) (bytes_whole bytes)

pub four_performed : (m : Module) (us : ModuleParts) (memory new_memory : MemoryInstance) (table new_table : TableInstance) (items : List (Option Ref)) (bytes : List ℕ)
    (e at c d top k : ℕ) → slice_get us.tables 0 ≡ Some table → slice_get us.elems e ≡ Some items → entries_initialized table at items 0 c ≡ Some new_table
    → slice_get us.datas d ≡ Some bytes → initialized memory top bytes 0 k ≡ Some new_memory
    → all_performed (module_view m) 0 (TableInit e 0 at 0 c ∷ ElemDrop e ∷ MemoryInit d top 0 k ∷ DataDrop d ∷ []) us memory
    ≡ Some (goes_on (record { globals = us.globals; tables = slice_set us.tables 0 new_table; elems = slice_set us.elems e []; datas = slice_set us.datas d [] }) new_memory)
four_performed m us memory new_memory table new_table items bytes e at c d top k one two three four five =
    let V : View ModuleParts = module_view m in
    let us1 : ModuleParts = record us { tables = slice_set us.tables 0 new_table } in
    let us2 : ModuleParts = record us1 { elems = slice_set us.elems e [] } in
    let init : performed V us memory 0 (TableInit e 0 at 0 c) ≡ Some (Gives [] us1 memory) =
    ap (λ (o : Option TableInstance). o >>= λ t. slice_get us.elems e >>= λ i. Some (table_done V us memory 0 0 (entries_initialized t at i 0 c))) one
    ∙ ap (λ (o : Option (List (Option Ref))). o >>= λ i. Some (table_done V us memory 0 0 (entries_initialized table at i 0 c))) two
    ∙ ap (λ (o : Option TableInstance). Some (table_done V us memory 0 0 o)) three in
    let dropped : performed V us1 memory 0 (ElemDrop e) ≡ Some (Gives [] us2 memory) =
    ap (λ (o : Option (List (Option Ref))). o >>= λ i. Some (Gives [] us2 memory)) two in
    let filled : performed V us2 memory 0 (MemoryInit d top 0 k) ≡ Some (Gives [] us2 new_memory) =
    ap (λ (o : Option (List ℕ)). o >>= λ b. Some (memory_done us2 (initialized memory top b 0 k))) four ∙ ap (λ (o : Option MemoryInstance). Some (memory_done us2 o)) five in
    let last : performed V us2 new_memory 0 (DataDrop d) ≡ Some (Gives [] (record us2 { datas = slice_set us.datas d [] }) new_memory) =
    ap (λ (o : Option (List ℕ)). o >>= λ b. Some (Gives [] (record us2 { datas = slice_set us.datas d [] }) new_memory)) four in
    ap (λ (o : Option (Effected ModuleParts)). o >>= followed_by (all_performed V 0 (ElemDrop e ∷ MemoryInit d top 0 k ∷ DataDrop d ∷ [])) us memory) init
    ∙ ap (λ (o : Option (Effected ModuleParts)). o >>= followed_by (all_performed V 0 (MemoryInit d top 0 k ∷ DataDrop d ∷ [])) us1 memory) dropped
    ∙ ap (λ (o : Option (Effected ModuleParts)). o >>= followed_by (all_performed V 0 (DataDrop d ∷ [])) us2 memory) filled
    ∙ ap (λ (o : Option (Effected ModuleParts)). o >>= followed_by (all_performed V 0 []) us2 new_memory) last
