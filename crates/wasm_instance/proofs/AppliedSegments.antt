-- Active segments are applied one after the other.
use Rattle.std.proofs.Common.{◌≡◌, ℕ, zero, suc, ◌+◌, ◌<◌, ◌≤◌, true, List, [], ◌∷◌, ◌++◌, length, get_or, map, drop, refl, sym, ap, ◌∙◌, subst, arith}
use Rattle.std.specs.Prelude.{None, Some, Option, MatchOption, nat_lt, slice_get, slice_set, Result, Ok, Err, IsErrAnd}
use Rattle.std.proofs.lemmas.Bool.{and_parts}
use Rattle.std.proofs.Math.ListN.{drop_of_length-le}
use Rattle.std.specs.Option.{option_map}
use Rattle.std.proofs.lemmas.List.{map-set}
use Rattle.std.proofs.lemmas.Option.{slice_get_within, slice_get-get_or, slice_get-map}
use Rattle.wasm_form.specs.declared.types.ValType.TheVariants.{I32}
use Rattle.wasm_form.specs.declared.types.TableType.{TableType}
use Rattle.wasm_form.specs.declared.instr.Expr.{Expr}
use Rattle.wasm_form.specs.declared.module.ElemMode.TheVariants as elem_mode
use Rattle.wasm_form.specs.declared.module.Elem.{Elem}
use Rattle.wasm_form.specs.declared.module.DataMode.TheVariants as data_mode
use Rattle.wasm_form.specs.declared.module.Data.{Data}
use Rattle.wasm_form.specs.declared.module.Module.{Module}
use Rattle.wasm_form.specs.declared.runtime.Ref.{Ref}
use Rattle.wasm_form.specs.declared.runtime.Trap.TheVariants as trap
use Rattle.spec_safety.specs.spec_binary.IndexSpaces.{table_space, memory_space}
use Rattle.spec_safety.specs.spec_validation.Faults.{is_constant, elem_fits, elem_mode_fits, items_fit, has_functions, data_mode_fits, data_fits}
use Rattle.spec_safety.specs.spec_runtime.Memories.{MemoryInstance, initialized}
use Rattle.spec_safety.specs.spec_runtime.Tables.{TableInstance, entries_initialized}
use Rattle.spec_safety.specs.spec_execution.Activations.{Effect}
use Rattle.spec_safety.specs.spec_execution.Instances.{ModuleParts, module_view, constant_offset}
use Rattle.spec_safety.specs.spec_execution.Segments.{Performed, all_performed, items_count, elem_applied, data_applied, elem_effects, data_effects, all_effects}
use Rattle.spec_safety.specs.spec_execution.declared.fault.SingleFault.{SingleFault}
use Rattle.spec_safety.specs.spec_execution.declared.fault.SingleFault.TheVariants.{SegmentTrap, Memory}
use Rattle.spec_safety.proofs.of_spec_execution.Segments.{performed_rest, performed_trapped}
use Rattle.spec_safety.specs.Laws.{imports_functions}
use Rattle.wasm_instance.specs.Opening.{Applies, ElementsApply, BytesApply, Moves}
use Rattle.wasm_instance.proofs.Alone.{no_tables}

-- ---- what an active segment names

within : (types : List TableType) (t : ℕ) (found : Option TableType) → slice_get types t ≡ found → has_functions found ≡ true → t < length types
within types t (Some ty) is e = slice_get_within types t ty is
within types t None is e = absurd cc

-- its table is there, and its offset is a number
module _ (m : Module) (s : Elem) (t : ℕ) (offset : Expr) (active : s.mode ≡ elem_mode.Active t offset) (fits : elem_fits m s ≡ true) where
  parts : (has_functions (slice_get (table_space m) t) ≡ true) × (is_constant m I32 offset ≡ true)
  parts =
      let mode : elem_mode_fits m (elem_mode.Active t offset) ≡ true = ap (elem_mode_fits m) (sym active) ∙ (and_parts (elem_mode_fits m s.mode) (items_fit m s.items) fits).0 in
      and_parts (has_functions (slice_get (table_space m) t)) (is_constant m I32 offset) mode

  pub offset_is_number : is_constant m I32 offset ≡ true
  offset_is_number = parts.1

  pub table_is_there : imports_functions m ≡ true → t < length m.tables
  table_is_there alone =
      let space : table_space m ≡ m.tables = ap (λ (ts : List TableType). ts ++ m.tables) (no_tables m alone) in
      within m.tables t (slice_get (table_space m) t) (ap (λ (ts : List TableType). slice_get ts t) (sym space)) parts.0

-- so is that of a data segment
pub data_offset_is_number : (m : Module) (s : Data) (memory : ℕ) (offset : Expr) → s.mode ≡ data_mode.Active memory offset → data_fits m s ≡ true → is_constant m I32 offset ≡ true
data_offset_is_number m s memory offset active fits = (and_parts (nat_lt memory (length (memory_space m))) (is_constant m I32 offset) (ap (data_mode_fits m) (sym active) ∙ fits)).1

-- ---- one segment

set_same : {A : Type 0} (xs : List A) (i : ℕ) (x : A) → slice_get xs i ≡ Some x → slice_set xs i x ≡ xs
set_same [] i x e = absurd cc
set_same (y ∷ ys) zero x e = let same : y ≡ x = cc in ap (λ z. z ∷ ys) (sym same)
set_same (y ∷ ys) (suc i) x e = ap (λ l. y ∷ l) (set_same ys i x e)

module _ (m : Module) (r : Result (Unit {0}) SingleFault) where
  -- entries that are moved to their table
  pub elements_moved : (e t n at : ℕ) (tables : List TableInstance) (elems : List (List (Option Ref))) (x new : TableInstance) (items left : List (Option Ref))
      → slice_get tables t ≡ Some x → slice_get elems e ≡ Some items → Moves (entries_initialized x at items 0 n) (x, items) r (new, left)
      → ElementsApply m (elem_applied e t n at) tables elems r (slice_set tables t new) (slice_set elems e left)
  elements_moved e t n at tables elems x new items left found held moved globals datas memory = go (entries_initialized x at items 0 n) refl moved
    where
      go : (o : Option TableInstance) → entries_initialized x at items 0 n ≡ o → MatchOption o ((r ≡ Err SegmentTrap) × (new ≡ x) × (left ≡ items)) (λ y. (r ≡ Ok tt) × (new ≡ y) × (left ≡ []))
          → Applies (all_performed (module_view m) 0 (elem_applied e t n at) (record { globals = globals; tables = tables; elems = elems; datas = datas }) memory) r
          (record { globals = globals; tables = slice_set tables t new; elems = slice_set elems e left; datas = datas }) memory
      go None q h = rw (h.0, h.1, h.2, set_same tables t x found, set_same elems e items held, found, held, q) (trap.TableBounds, refl)
      go (Some y) q h = rw (h.0, h.1, h.2, found, held, q, held) refl

  -- bytes that are moved to the memory
  pub bytes_moved : (d n at : ℕ) (datas : List (List ℕ)) (old new : MemoryInstance) (bytes left : List ℕ)
      → slice_get datas d ≡ Some bytes → Moves (initialized old at bytes 0 n) (old, bytes) r (new, left)
      → BytesApply m (data_applied d n at) old datas r new (slice_set datas d left)
  bytes_moved d n at datas old new bytes left held moved globals tables elems = go (initialized old at bytes 0 n) refl moved
    where
      go : (o : Option MemoryInstance) → initialized old at bytes 0 n ≡ o → MatchOption o ((r ≡ Err SegmentTrap) × (new ≡ old) × (left ≡ bytes)) (λ y. (r ≡ Ok tt) × (new ≡ y) × (left ≡ []))
          → Applies (all_performed (module_view m) 0 (data_applied d n at) (record { globals = globals; tables = tables; elems = elems; datas = datas }) old) r
          (record { globals = globals; tables = tables; elems = elems; datas = slice_set datas d left }) new
      go None q h = rw (h.0, h.1, h.2, set_same datas d bytes held, held, q) (trap.MemoryBounds, refl)
      go (Some y) q h = rw (h.0, h.1, h.2, held, q, held) refl

  -- an element segment, by a list v that is seen as items
  pub elem_done : {A : Type 0} (seen : A → List (Option Ref)) (lists : List A) (e t n at : ℕ) (s : Elem) (offset : Expr) (tables : List TableInstance) (x new : TableInstance) (v w : A)
      → e < length lists → t < length tables → n ≡ items_count s.items → s.mode ≡ elem_mode.Active t offset → constant_offset m offset ≡ Some at
      → Moves (entries_initialized (get_or tables t x) at (seen (get_or lists e v)) 0 n) (get_or tables t x, seen (get_or lists e v)) r (new, seen w)
      → ElementsApply m (elem_effects (constant_offset m) e s) tables (map seen lists) r (slice_set tables t new) (map seen (slice_set lists e w))
  elem_done seen lists e t n at s offset tables x new v w here there count mode number moved =
      let two : slice_get (map seen lists) e ≡ Some (seen (get_or lists e v)) = slice_get-map seen lists e ∙ ap (option_map seen) (slice_get-get_or lists e v here) in
      let all = elements_moved e t n at tables (map seen lists) (get_or tables t x) new (seen (get_or lists e v)) (seen w) (slice_get-get_or tables t x there) two moved in
      rw (mode, number, ← count, map-set seen lists e w) all

  -- a data segment, by a list v that is seen as bytes
  pub data_done : {A : Type 0} (seen : A → List ℕ) (lists : List A) (d n at memory : ℕ) (s : Data) (offset : Expr) (old new : MemoryInstance) (v w : A)
      → d < length lists → n ≡ length s.bytes → s.mode ≡ data_mode.Active memory offset → constant_offset m offset ≡ Some at
      → Moves (initialized old at (seen (get_or lists d v)) 0 n) (old, seen (get_or lists d v)) r (new, seen w)
      → BytesApply m (data_effects (constant_offset m) d s) old (map seen lists) r new (map seen (slice_set lists d w))
  data_done seen lists d n at memory s offset old new v w here count mode number moved =
      let one : slice_get (map seen lists) d ≡ Some (seen (get_or lists d v)) = slice_get-map seen lists d ∙ ap (option_map seen) (slice_get-get_or lists d v here) in
      let all = bytes_moved d n at (map seen lists) old new (seen (get_or lists d v)) (seen w) one moved in
      rw (mode, number, ← count, map-set seen lists d w) all

-- ---- one segment after the other

drop_at : {A : Type 0} (xs : List A) (i : ℕ) (x : A) → slice_get xs i ≡ Some x → drop i xs ≡ x ∷ drop (i + 1) xs
drop_at [] i x e = absurd cc
drop_at (y ∷ ys) zero x e = let same : y ≡ x = cc in ap (λ z. z ∷ ys) same
drop_at (y ∷ ys) (suc i) x e = let next : suc i + 1 ≡ suc (i + 1) = omega arith in drop_at ys i x e ∙ rw next refl

effects_next : {A : Type 0} (of_segment : ℕ → A → List Effect) (xs : List A) (i : ℕ) (x : A) → slice_get xs i ≡ Some x
    → all_effects of_segment i (drop i xs) ≡ of_segment i x ++ all_effects of_segment (i + 1) (drop (i + 1) xs)
effects_next of_segment xs i x e = rw (drop_at xs i x e) refl

abbrev run : Module → List Effect → ModuleParts → MemoryInstance → Option (Performed ModuleParts)
run m effects us memory = all_performed (module_view m) 0 effects us memory

module _ {A : Type 0} (m : Module) (of_segment : ℕ → A → List Effect) (xs : List A) (us : ModuleParts) (memory : MemoryInstance) where
  -- the effects of all segments come to what those of the last ones come to, from the parts and the memory that were reached
  abbrev pub AreLeft : ℕ → ModuleParts → MemoryInstance → Type 0
  AreLeft i us' memory' = run m (all_effects of_segment 0 xs) us memory ≡ run m (all_effects of_segment i (drop i xs)) us' memory'

  module _ (i : ℕ) (x : A) (us' us'' : ModuleParts) (memory' memory'' : MemoryInstance) (left : AreLeft i us' memory') (here : slice_get xs i ≡ Some x) where
    -- the effects of one more went on
    pub left_next : Applies (run m (of_segment i x) us' memory') (Ok tt) us'' memory'' → AreLeft (i + 1) us'' memory''
    left_next done =
        left ∙ ap (λ l. run m l us' memory') (effects_next of_segment xs i x here)
        ∙ performed_rest (module_view m) 0 (of_segment i x) (all_effects of_segment (i + 1) (drop (i + 1) xs)) us' us'' memory' memory'' done

    -- or they didn't
    failed : (why : SingleFault) → Applies (run m (of_segment i x) us' memory') (Err why) us'' memory'' → Applies (run m (all_effects of_segment 0 xs) us memory) (Err why) us'' memory''
    failed SegmentTrap done = (
      done.0,
      left ∙ ap (λ l. run m l us' memory') (effects_next of_segment xs i x here)
          ∙ performed_trapped (module_view m) 0 (of_segment i x) (all_effects of_segment (i + 1) (drop (i + 1) xs)) us' us'' memory' memory'' done.0 done.1,
    )
    failed Memory done = tt
    failed _ done = done

    pub left_failed : (r : Result (Unit {0}) SingleFault) (why : SingleFault) → IsErrAnd r (λ e. e ≡ why) → Applies (run m (of_segment i x) us' memory') (Err why) us'' memory''
        → Applies (run m (all_effects of_segment 0 xs) us memory) r us'' memory''
    left_failed (Ok u) why told done = absurd told
    left_failed (Err e) why told done =
        let P : SingleFault → Type 0 = λ y. Applies (run m (all_effects of_segment 0 xs) us memory) (Err y) us'' memory'' in
        subst P (sym told) (failed why done)

  -- nothing is left
  pub none_left : (i : ℕ) (us' : ModuleParts) (memory' : MemoryInstance) → length xs ≤ i → AreLeft i us' memory' → Applies (run m (all_effects of_segment 0 xs) us memory) (Ok tt) us' memory'
  none_left i us' memory' past left = left ∙ ap (λ l. run m (all_effects of_segment i l) us' memory') (drop_of_length-le xs past)
