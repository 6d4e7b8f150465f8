-- Segments in order: what is written of the memory and of tables.
use Rattle.std.proofs.Common.{◌≡◌, ℕ, suc, ◌+◌, ◌≤◌, ◌^◌, ◌<◌, true, List, [], ◌∷◌, ◌++◌, length, map, slice_get, slice_set, nat_le, Option, Some, refl, sym, ap, ap₂, ◌∙◌, arith, append_assoc, length-append}
use Rattle.std.specs.List.{All}
use Rattle.std.proofs.lemmas.Bool.{le-leb}
use Rattle.std.proofs.lemmas.Bool.Decides.{nat_tests}
use Rattle.std.proofs.lemmas.List.{length-map}
use Rattle.std.proofs.lemmas.List.Elements.{All-head, All-tail}
use Rattle.std.proofs.Math.Seq.{take-length}
use Rattle.spec_loading.specs.wasm_form.declared.instr.Expr.{Expr}
use Rattle.spec_loading.specs.wasm_form.declared.module.Elem.{Elem}
use Rattle.spec_loading.specs.wasm_form.declared.module.Module.{Module}
use Rattle.spec_loading.specs.wasm_form.declared.runtime.Ref.{Ref}
use Rattle.spec_loading.specs.spec_binary.Options.{◌>>=◌}
use Rattle.spec_loading.specs.spec_runtime.Memories.{MemoryInstance, overwritten, bytes_at, written, initialized}
use Rattle.spec_loading.specs.spec_runtime.Tables.{TableInstance, entries_overwritten, entries_at, entries_written, entries_initialized}
use Rattle.spec_loading.specs.spec_execution.Activations.{Effect, TableInit, ElemDrop, MemoryInit, DataDrop}
use Rattle.spec_loading.specs.spec_execution.Views.{View, Effected, Gives, table_done, memory_done, performed}
use Rattle.spec_loading.specs.spec_execution.Segments.{Performed, goes_on, followed_by, all_performed, elem_effects, data_effects, all_effects}
use Rattle.spec_loading.specs.spec_execution.Instances.{ModuleParts, module_view, constant_offset}
use Rattle.snap_module.specs.Held.{Stretch, put, all_put, IsWithin, held_elem, held_elems, passive_data, entry_expr, table_elem, memory_data}
use Rattle.snap_module.proofs.Lists.{at_end_of, set_end_of, one_more, put_length, items, emptied}
use Rattle.snap_module.proofs.Constants.{offset_value}

-- ---- one stretch is written

bytes_whole : (bytes : List ℕ) → bytes_at bytes 0 (length bytes) ≡ Some bytes
bytes_whole bytes =
    let fits : nat_le (0 + length bytes) (length bytes) ≡ true = grind (arith, nat_tests) in
    rw (fits, take-length bytes) refl

entries_whole : (entries : List (Option Ref)) → entries_at entries 0 (length entries) ≡ Some entries
entries_whole entries =
    let fits : nat_le (0 + length entries) (length entries) ≡ true = grind (arith, nat_tests) in
    rw (fits, take-length entries) refl

abbrev pub with_bytes : MemoryInstance → List ℕ → MemoryInstance
with_bytes memory bytes = record memory { bytes = bytes }

abbrev pub with_entries : TableInstance → List (Option Ref) → TableInstance
with_entries table entries = record table { entries = entries }

bytes_put : (memory : MemoryInstance) (s : Stretch ℕ) → s.at + length s.items ≤ length memory.bytes
    → initialized memory s.at s.items 0 (length s.items) ≡ Some (with_bytes memory (put memory.bytes s))
unfolding overwritten
bytes_put memory s fits =
    let inside : nat_le (s.at + length s.items) (length memory.bytes) ≡ true = le-leb (s.at + length s.items) (length memory.bytes) fits in
    ap (λ (o : Option (List ℕ)). o >>= written memory s.at) (bytes_whole s.items) ∙ rw inside refl

entries_put : (table : TableInstance) (s : Stretch (Option Ref)) → s.at + length s.items ≤ length table.entries
    → entries_initialized table s.at s.items 0 (length s.items) ≡ Some (with_entries table (put table.entries s))
unfolding entries_overwritten
entries_put table s fits =
    let inside : nat_le (s.at + length s.items) (length table.entries) ≡ true = le-leb (s.at + length s.items) (length table.entries) fits in
    ap (λ (o : Option (List (Option Ref))). o >>= entries_written table s.at) (entries_whole s.items) ∙ rw inside refl

low : {A : Type 0} (len : ℕ) → len ≤ 2 ^ 32 → (s : Stretch A) → IsWithin len s → s.at < 2 ^ 32
low len few s is =
    let some = is.some in
    let ends = is.ends in
    omega arith

-- ---- effects

module _ (m : Module) where
  abbrev V : View ModuleParts
  V = module_view m

  abbrev number : Expr → Option ℕ
  number = constant_offset m

  abbrev pub elems_effects : ℕ → List Elem → List Effect
  elems_effects = all_effects (elem_effects number)

  pub effects_append : {A : Type 0} (f : ℕ → A → List Effect) (k : ℕ) (xs ys : List A)
      → all_effects f k (xs ++ ys) ≡ all_effects f k xs ++ all_effects f (k + length xs) ys
  effects_append f k [] ys = (let place : k ≡ k + 0 = omega arith in ap (λ i. all_effects f i ys) place)
  effects_append f k (x ∷ xs) ys =
      let place : k + 1 + length xs ≡ k + suc (length xs) = omega arith in
      ap (λ l. f k x ++ l) (effects_append f (k + 1) xs ys ∙ ap (λ i. all_effects f (k + 1) xs ++ all_effects f i ys) place)
      ∙ sym (append_assoc (f k x) (all_effects f (k + 1) xs) (all_effects f (k + suc (length xs)) ys))

  -- passive segments have none
  quiet_held : (k : ℕ) (e : Elem) (x : List (Option Ref)) → elem_effects number k (held_elem e x) ≡ []
  quiet_held k e [] = refl
  quiet_held k e (r ∷ rs) = refl

  pub quiet_elems : (k : ℕ) (es : List Elem) (xs : List (List (Option Ref))) → elems_effects k (held_elems es xs) ≡ []
  quiet_elems k [] xs = refl
  quiet_elems k (e ∷ es) [] = refl
  quiet_elems k (e ∷ es) (x ∷ xs) = rw (quiet_held k e x, quiet_elems (k + 1) es xs) refl

  pub quiet_datas : (k : ℕ) (ds : List (List ℕ)) → all_effects (data_effects number) k (map passive_data ds) ≡ []
  quiet_datas k [] = refl
  quiet_datas k (d ∷ ds) = quiet_datas (k + 1) ds

  -- ---- the memory

  data_effect : (k : ℕ) (s : Stretch ℕ) → s.at < 2 ^ 32
      → data_effects number k (memory_data s) ≡ MemoryInit k s.at 0 (length s.items) ∷ DataDrop k ∷ []
  data_effect k s lt = rw (offset_value m s.at lt) refl

  -- the bytes of one segment are written, and it is dropped
  one_data : (us : ModuleParts) (memory first : MemoryInstance) (d : ℕ) (s : Stretch ℕ) (datas : List (List ℕ)) (more : List Effect)
      → slice_get us.datas d ≡ Some s.items → initialized memory s.at s.items 0 (length s.items) ≡ Some first → slice_set us.datas d [] ≡ datas
      → all_performed V 0 (MemoryInit d s.at 0 (length s.items) ∷ DataDrop d ∷ more) us memory ≡ all_performed V 0 more (record us { datas = datas }) first
  one_data us memory first d s datas more one two three =
      let init : performed V us memory 0 (MemoryInit d s.at 0 (length s.items)) ≡ Some (Gives [] us first) =
      ap (λ (o : Option (List ℕ)). o >>= λ b. Some (memory_done us (initialized memory s.at b 0 (length s.items)))) one
      ∙ ap (λ (o : Option MemoryInstance). Some (memory_done us o)) two in
      let dropped : performed V us first 0 (DataDrop d) ≡ Some (Gives [] (record us { datas = slice_set us.datas d [] }) first) =
      ap (λ (o : Option (List ℕ)). o >>= λ b. Some (Gives [] (record us { datas = slice_set us.datas d [] }) first)) one in
      ap (λ (o : Option (Effected ModuleParts)). o >>= followed_by (all_performed V 0 (DataDrop d ∷ more)) us memory) init
      ∙ ap (λ (o : Option (Effected ModuleParts)). o >>= followed_by (all_performed V 0 more) us first) dropped
      ∙ ap (λ (ds : List (List ℕ)). all_performed V 0 more (record us { datas = ds }) first) three

  abbrev memory_effects : ℕ → List (Stretch ℕ) → List Effect
  memory_effects k ss = all_effects (data_effects number) k (map memory_data ss)

  pub memory_written : (len : ℕ) → len ≤ 2 ^ 32 → (us : ModuleParts) (front : List (List ℕ)) (ss : List (Stretch ℕ)) (memory : MemoryInstance)
      → length memory.bytes ≡ len → All (IsWithin len) ss
      → all_performed V 0 (all_effects (data_effects number) (length front) (map memory_data ss)) (record us { datas = front ++ map items ss }) memory
      ≡ Some (goes_on (record us { datas = front ++ map emptied ss }) (with_bytes memory (all_put memory.bytes ss)))
  memory_written len few us front [] memory same all = refl
  memory_written len few us front (s ∷ ss) memory same all =
      let within = All-head (IsWithin len) s ss all in
      let ends = within.ends in
      let fits : s.at + length s.items ≤ length memory.bytes = omega (arith, same, ends) in
      let first : MemoryInstance = with_bytes memory (put memory.bytes s) in
      let now : ModuleParts = record us { datas = front ++ s.items ∷ map items ss } in
      let fronts : length (front ++ [] ∷ []) ≡ length front + 1 = length-append front ([] ∷ []) in
      ap (λ l. all_performed V 0 (l ++ memory_effects (length front + 1) ss) now memory) (data_effect (length front) s (low len few s within))
      ∙ one_data now memory first (length front) s (front ++ [] ∷ map items ss) (memory_effects (length front + 1) ss)
      (at_end_of front s.items (map items ss)) (bytes_put memory s fits) (set_end_of front s.items (map items ss) [])
      ∙ ap (λ k. all_performed V 0 (memory_effects k ss) (record us { datas = front ++ [] ∷ map items ss }) first) (sym fronts)
      ∙ ap (λ (ds : List (List ℕ)). all_performed V 0 (memory_effects (length (front ++ [] ∷ [])) ss) (record us { datas = ds }) first)
      (sym (one_more front [] (map items ss)))
      ∙ memory_written len few us (front ++ [] ∷ []) ss first (put_length memory.bytes s fits ∙ same) (All-tail (IsWithin len) s ss all)
      ∙ ap (λ (ds : List (List ℕ)). let p : ModuleParts = record us { datas = ds } in Some (goes_on p (with_bytes first (all_put first.bytes ss))))
      (one_more front [] (map emptied ss))

  -- ---- a table

  elem_effect : (k t : ℕ) (s : Stretch (Option Ref)) → s.at < 2 ^ 32
      → elem_effects number k (table_elem t s) ≡ TableInit k t s.at 0 (length s.items) ∷ ElemDrop k ∷ []
  elem_effect k t s lt = rw (offset_value m s.at lt, length-map s.items entry_expr) refl

  one_elem : (us : ModuleParts) (memory : MemoryInstance) (e t : ℕ) (s : Stretch (Option Ref)) (table x : TableInstance) (tables : List TableInstance)
      (elems : List (List (Option Ref))) (more : List Effect) → slice_get us.tables t ≡ Some table → slice_get us.elems e ≡ Some s.items
      → entries_initialized table s.at s.items 0 (length s.items) ≡ Some x → slice_set us.tables t x ≡ tables → slice_set us.elems e [] ≡ elems
      → all_performed V 0 (TableInit e t s.at 0 (length s.items) ∷ ElemDrop e ∷ more) us memory
      ≡ all_performed V 0 more (record us { tables = tables; elems = elems }) memory
  one_elem us memory e t s table x tables elems more one two three four five =
      let us1 : ModuleParts = record us { tables = slice_set us.tables t x } in
      let init : performed V us memory 0 (TableInit e t s.at 0 (length s.items)) ≡ Some (Gives [] us1 memory) =
      ap (λ (o : Option TableInstance). o >>= λ y. slice_get us.elems e >>= λ i. Some (table_done V us memory 0 t (entries_initialized y s.at i 0 (length s.items)))) one
      ∙ ap (λ (o : Option (List (Option Ref))). o >>= λ i. Some (table_done V us memory 0 t (entries_initialized table s.at i 0 (length s.items)))) two
      ∙ ap (λ (o : Option TableInstance). Some (table_done V us memory 0 t o)) three in
      let dropped : performed V us1 memory 0 (ElemDrop e) ≡ Some (Gives [] (record us1 { elems = slice_set us.elems e [] }) memory) =
      ap (λ (o : Option (List (Option Ref))). o >>= λ i. Some (Gives [] (record us1 { elems = slice_set us.elems e [] }) memory)) two in
      ap (λ (o : Option (Effected ModuleParts)). o >>= followed_by (all_performed V 0 (ElemDrop e ∷ more)) us memory) init
      ∙ ap (λ (o : Option (Effected ModuleParts)). o >>= followed_by (all_performed V 0 more) us1 memory) dropped
      ∙ ap₂ (λ (ts : List TableInstance) (es : List (List (Option Ref))). all_performed V 0 more (record us { tables = ts; elems = es }) memory) four five

  module _ (us : ModuleParts) (memory : MemoryInstance) where
    -- these effects, over these tables and segments
    abbrev pub from_here : List Effect → List TableInstance → List (List (Option Ref)) → Option (Performed ModuleParts)
    from_here xs tables elems = all_performed V 0 xs (record us { tables = tables; elems = elems }) memory

    pub table_written : (len : ℕ) → len ≤ 2 ^ 32 → (done tables : List TableInstance) (front last : List (List (Option Ref))) (more : List Effect)
        (ss : List (Stretch (Option Ref))) (table : TableInstance) → length table.entries ≡ len → All (IsWithin len) ss
        → from_here (elems_effects (length front) (map (table_elem (length done)) ss) ++ more) (done ++ table ∷ tables) (front ++ (map items ss ++ last))
        ≡ from_here more (done ++ with_entries table (all_put table.entries ss) ∷ tables) (front ++ (map emptied ss ++ last))
    table_written len few done tables front last more [] table same all = refl
    table_written len few done tables front last more (s ∷ ss) table same all =
        let within = All-head (IsWithin len) s ss all in
        let ends = within.ends in
        let fits : s.at + length s.items ≤ length table.entries = omega (arith, same, ends) in
        let first : TableInstance = with_entries table (put table.entries s) in
        let others : List (List (Option Ref)) = map items ss ++ last in
        let now : ModuleParts = record us { tables = done ++ table ∷ tables; elems = front ++ s.items ∷ others } in
        let later : List Elem = map (table_elem (length done)) ss in
        let fronts : length (front ++ [] ∷ []) ≡ length front + 1 = length-append front ([] ∷ []) in
        ap (λ l. all_performed V 0 ((l ++ elems_effects (length front + 1) later) ++ more) now memory)
        (elem_effect (length front) (length done) s (low len few s within))
        ∙ one_elem now memory (length front) (length done) s table first (done ++ first ∷ tables) (front ++ [] ∷ others)
        (elems_effects (length front + 1) later ++ more) (at_end_of done table tables) (at_end_of front s.items others) (entries_put table s fits)
        (set_end_of done table tables first) (set_end_of front s.items others [])
        ∙ ap₂ (λ k (es : List (List (Option Ref))). from_here (elems_effects k later ++ more) (done ++ first ∷ tables) es) (sym fronts) (sym (one_more front [] others))
        ∙ table_written len few done tables (front ++ [] ∷ []) last more ss first (put_length table.entries s fits ∙ same) (All-tail (IsWithin len) s ss all)
        ∙ ap (λ (es : List (List (Option Ref))). from_here more (done ++ with_entries first (all_put first.entries ss) ∷ tables) es)
        (one_more front [] (map emptied ss ++ last))
