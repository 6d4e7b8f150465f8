-- The module opens with what it holds.
use Rattle.std.proofs.Common.{◌≡◌, ℕ, ◌+◌, ◌*◌, ◌≤◌, ◌^◌, List, [], ◌∷◌, ◌++◌, length, map, Option, Some, None, refl, sym, ap, ap₂, ◌∙◌, arith, append_assoc, append-nil, length-append}
use Rattle.std.specs.Prelude.{unwrap_or}
use Rattle.std.proofs.lemmas.List.{length-map, map-append, length-replicate}
use Rattle.spec_loading.specs.wasm_form.declared.types.TableType.{TableType}
use Rattle.spec_loading.specs.wasm_form.declared.types.Limits.{Limits}
use Rattle.spec_loading.specs.wasm_form.declared.module.Elem.{Elem}
use Rattle.spec_loading.specs.wasm_form.declared.module.Data.{Data}
use Rattle.spec_loading.specs.wasm_form.declared.module.Module.{Module}
use Rattle.spec_loading.specs.wasm_form.declared.runtime.Ref.{Ref}
use Rattle.spec_loading.specs.spec_binary.Options.{◌>>=◌}
use Rattle.spec_loading.specs.spec_validation.Faults.{most_pages}
use Rattle.spec_loading.specs.spec_runtime.Memories.{MemoryInstance, page_size, zeros, new_memory, pages}
use Rattle.spec_loading.specs.spec_runtime.Tables.{TableInstance, nulls}
use Rattle.spec_loading.specs.spec_execution.Activations.{Effect, GlobalGet, GlobalSet, TableGet, TableSet, TableSize, TableGrow, TableFill, TableCopy, TableInit, ElemDrop, Load, Store, MemorySize, MemoryGrow, MemoryCopy, MemoryFill, MemoryInit, DataDrop}
use Rattle.spec_loading.specs.spec_execution.Views.{Effected, performed}
use Rattle.spec_loading.specs.spec_execution.Views as effects
use Rattle.spec_loading.specs.spec_execution.Segments.{Performed, goes_on, followed_by, all_performed, elem_effects, data_effects, all_effects, segment_effects}
use Rattle.spec_loading.specs.spec_execution.Instances.{ModuleParts, module_view, constant_offset}
use Rattle.spec_loading.specs.spec_execution.OneModule.{opened_table, opened_parts, opened_memory, segments_performed}
use Rattle.snap_module.specs.Held.{Stretch, all_put, Make, Contents, held_table, held_tables, held_memories, held_elems, passive_data, table_elem, table_elems, declared_elem, memory_data, held_datas, held, held_parts, IsTable, AreTables, IsMemoryOf, CanBeHeld}
use Rattle.snap_module.proofs.Lists.{one_more, items, emptied}
use Rattle.snap_module.proofs.Constants.{globals_opened}
use Rattle.snap_module.proofs.Segments.{table_items, no_items, items_of, elems_held, elems_many, tables_opened, bytes_held, bytes_opened, emptied_elems}
use Rattle.snap_module.proofs.Applied.{with_bytes, with_entries, elems_effects, effects_append, quiet_elems, quiet_datas, memory_written, from_here, table_written}

-- ---- what stretches make

nulls_many : (k : ℕ) → length (nulls k) ≡ k
unfolding nulls
nulls_many k = length-replicate k None

zeros_many : (k : ℕ) → length (zeros k) ≡ k
unfolding zeros
zeros_many k = length-replicate k 0

entries_made : (ss : List (Stretch (Option Ref))) (entries : List (Option Ref)) → Make None ss entries → all_put (nulls (length entries)) ss ≡ entries
unfolding nulls
entries_made ss entries made = made.give

bytes_made : (ss : List (Stretch ℕ)) (bytes : List ℕ) → Make 0 ss bytes → all_put (zeros (length bytes)) ss ≡ bytes
unfolding zeros
bytes_made ss bytes made = made.give

table_made : (m : Module) (t : TableType) (x : TableInstance) (ss : List (Stretch (Option Ref))) → IsTable m t x ss
    → with_entries (opened_table (held_table t x)) (all_put (nulls (length x.entries)) ss) ≡ x
table_made m t x ss is =
    ap₂ (λ (es : List (Option Ref)) (most : ℕ). let table : TableInstance = record { entries = es; max = most } in table)
    (entries_made ss x.entries is.made) (sym is.most)

table_few : (m : Module) (t : TableType) (x : TableInstance) (ss : List (Stretch (Option Ref))) → IsTable m t x ss → length x.entries ≤ 2 ^ 32
table_few m t x ss is =
    let most = is.most in
    let few = is.few in
    omega arith

memory_few : (m : Module) (memory : MemoryInstance) (ss : List (Stretch ℕ)) → IsMemoryOf m memory ss → length memory.bytes ≤ 2 ^ 32
memory_few m memory ss is =
    let whole = is.is.whole in
    let few = is.is.few in
    let most = is.is.most in
    omega arith

-- ---- tables, one after the other

module _ (m : Module) (us : ModuleParts) (memory : MemoryInstance) where
  abbrev at : List Effect → List TableInstance → List (List (Option Ref)) → Option (Performed ModuleParts)
  at = from_here m us memory

  tables_written : (last : List (List (Option Ref))) (more : List Effect) (done : List TableInstance) (front : List (List (Option Ref)))
      (ts : List TableType) (xs : List TableInstance) (sss : List (List (Stretch (Option Ref)))) → AreTables m ts xs sss
      → at (elems_effects m (length front) (table_elems (length done) sss) ++ more) (done ++ map opened_table (held_tables ts xs)) (front ++ (table_items sss ++ last))
      ≡ at more (done ++ xs) (front ++ (map no_items (table_elems (length done) sss) ++ last))
  tables_written last more done front [] [] [] are = refl
  tables_written last more done front (t ∷ ts) (x ∷ xs) (ss ∷ sss) are =
      let fresh : TableInstance = opened_table (held_table t x) in
      let tables : List TableInstance = map opened_table (held_tables ts xs) in
      let here : List Elem = map (table_elem (length done)) ss in
      let rest : List Elem = table_elems (length done + 1) sss in
      let next : List (List (Option Ref)) = front ++ map emptied ss in
      let others : List (List (Option Ref)) = table_items sss ++ last in
      let after : List Effect = elems_effects m (length front + length here) rest ++ more in
      let made = are.0.made in
      let nexts : length front + length here ≡ length next =
      (let a = length-map ss (table_elem (length done)) in let b = length-append front (map emptied ss) in let c = length-map ss emptied in omega arith) in
      let dones : length done + 1 ≡ length (done ++ x ∷ []) = sym (length-append done (x ∷ [])) in
      ap₂ (λ (l : List Effect) (es : List (List (Option Ref))). at l (done ++ fresh ∷ tables) (front ++ es))
      (ap (λ l. l ++ more) (effects_append m (elem_effects (constant_offset m)) (length front) here rest)
      ∙ append_assoc (elems_effects m (length front) here) (elems_effects m (length front + length here) rest) more)
      (append_assoc (map items ss) (table_items sss) last)
      ∙ table_written m us memory (length x.entries) (table_few m t x ss are.0) done tables front others after ss fresh (nulls_many (length x.entries)) made.within
      ∙ ap₂ (λ (y : TableInstance) (es : List (List (Option Ref))). at after (done ++ y ∷ tables) es) (table_made m t x ss are.0)
      (sym (append_assoc front (map emptied ss) others))
      ∙ ap₂ (λ k (ys : List TableInstance). at (elems_effects m k rest ++ more) ys (next ++ others)) nexts (sym (one_more done x tables))
      ∙ ap (λ d. at (elems_effects m (length next) (table_elems d sss) ++ more) ((done ++ x ∷ []) ++ tables) (next ++ others)) dones
      ∙ tables_written last more (done ++ x ∷ []) next ts xs sss are.1
      ∙ ap₂ (λ (ys : List TableInstance) (es : List (List (Option Ref))). at more ys es) (one_more done x xs)
      (ap (λ d. next ++ (map no_items (table_elems d sss) ++ last)) (sym dones)
      ∙ append_assoc front (map emptied ss) (map no_items rest ++ last)
      ∙ ap (λ l. front ++ l)
      (sym (append_assoc (map emptied ss) (map no_items rest) last)
      ∙ ap (λ l. l ++ last) (ap (λ l. l ++ map no_items rest) (sym (emptied_elems (length done) ss)) ∙ sym (map-append no_items here rest))))
  tables_written last more done front _ _ _ are = absurd are

-- ---- the whole

module _ (m : Module) (entry : ℕ) (p : ModuleParts) (memory : MemoryInstance) (c : Contents) where
  abbrev N : Module
  N = held m entry p memory c

  -- effects are those of the module
  performed_same : (us : ModuleParts) (mem : MemoryInstance) (x : Effect) → performed (module_view N) us mem 0 x ≡ performed (module_view m) us mem 0 x
  performed_same us mem (GlobalGet g) = refl
  performed_same us mem (GlobalSet g v) = refl
  performed_same us mem (TableGet t i) = refl
  performed_same us mem (TableSet t i r) = refl
  performed_same us mem (TableSize t) = refl
  performed_same us mem (TableGrow t r n) = refl
  performed_same us mem (TableFill t i r n) = refl
  performed_same us mem (TableCopy t u to from n) = refl
  performed_same us mem (TableInit e t to from n) = refl
  performed_same us mem (ElemDrop e) = refl
  performed_same us mem (Load op a offset at) = refl
  performed_same us mem (Store a offset at v) = refl
  performed_same us mem MemorySize = refl
  performed_same us mem (MemoryGrow n) = refl
  performed_same us mem (MemoryCopy to from n) = refl
  performed_same us mem (MemoryFill to byte n) = refl
  performed_same us mem (MemoryInit d to from n) = refl
  performed_same us mem (DataDrop d) = refl

  followed_same : (f g : ModuleParts → MemoryInstance → Option (Performed ModuleParts)) (us : ModuleParts) (mem : MemoryInstance) (o : Option (Effected ModuleParts))
      → ((a : ModuleParts) (b : MemoryInstance) → f a b ≡ g a b) → (o >>= followed_by f us mem) ≡ (o >>= followed_by g us mem)
  followed_same f g us mem None same = refl
  followed_same f g us mem (Some (effects.Gives vs a b)) same = same a b
  followed_same f g us mem (Some (effects.Traps why)) same = refl

  all_same : (xs : List Effect) (us : ModuleParts) (mem : MemoryInstance) → all_performed (module_view N) 0 xs us mem ≡ all_performed (module_view m) 0 xs us mem
  all_same [] us mem = refl
  all_same (x ∷ xs) us mem =
      ap (λ (o : Option (Effected ModuleParts)). o >>= followed_by (all_performed (module_view N) 0 xs) us mem) (performed_same us mem x)
      ∙ followed_same (all_performed (module_view N) 0 xs) (all_performed (module_view m) 0 xs) us mem (performed (module_view m) us mem 0 x) (all_same xs)

  module _ (can : CanBeHeld m p memory c) where
    abbrev last : List Effect
    last = all_effects (data_effects (constant_offset m)) (length p.datas) (map memory_data c.memory)

    -- the effects of its active segments
    effects_are : segment_effects (constant_offset N) N ≡ elems_effects m (length p.elems) (table_elems 0 c.tables) ++ last
    effects_are =
        let elems : List Elem = table_elems 0 c.tables in
        let count : 0 + length (held_elems m.elems p.elems) ≡ length p.elems = (let e = elems_many m m.elems p.elems can.elems in omega arith) in
        let datas : 0 + length (map passive_data p.datas) ≡ length p.datas = (let e = length-map p.datas passive_data in omega arith) in
        ap₂ (λ a b. a ++ b)
        (effects_append m (elem_effects (constant_offset m)) 0 (held_elems m.elems p.elems) (elems ++ declared_elem m ∷ [])
        ∙ ap₂ (λ a k. a ++ elems_effects m k (elems ++ declared_elem m ∷ [])) (quiet_elems m 0 m.elems p.elems) count
        ∙ effects_append m (elem_effects (constant_offset m)) (length p.elems) elems (declared_elem m ∷ []) ∙ append-nil (elems_effects m (length p.elems) elems))
        (effects_append m (data_effects (constant_offset m)) 0 (map passive_data p.datas) (map memory_data c.memory)
        ∙ ap₂ (λ a k. a ++ all_effects (data_effects (constant_offset m)) k (map memory_data c.memory)) (quiet_datas m 0 p.datas) datas)

    -- what it has before they are applied
    parts_are : opened_parts N ≡ (record {
      globals = p.globals;
      tables = [] ++ map opened_table (held_tables m.tables p.tables);
      elems = p.elems ++ (table_items c.tables ++ [] ∷ []);
      datas = p.datas ++ map items c.memory;
    })
    parts_are =
        let elems : map (items_of m) (held_elems m.elems p.elems ++ (table_elems 0 c.tables ++ declared_elem m ∷ [])) ≡ p.elems ++ (table_items c.tables ++ [] ∷ []) =
        map-append (items_of m) (held_elems m.elems p.elems) (table_elems 0 c.tables ++ declared_elem m ∷ [])
        ∙ ap₂ (λ a b. a ++ b) (elems_held m m.elems p.elems can.elems)
        (map-append (items_of m) (table_elems 0 c.tables) (declared_elem m ∷ [])
        ∙ ap (λ l. l ++ [] ∷ []) (tables_opened m 0 m.tables p.tables c.tables can.tables)) in
        let datas : map (λ (d : Data). d.bytes) (held_datas p.datas c.memory) ≡ p.datas ++ map items c.memory =
        map-append (λ (d : Data). d.bytes) (map passive_data p.datas) (map memory_data c.memory)
        ∙ ap₂ (λ a b. a ++ b) (bytes_held m p.datas) (bytes_opened m c.memory) in
        let globals = globals_opened m m.globals p.globals can.globals in
        λ i. record { globals = globals i; tables = map opened_table (held_tables m.tables p.tables); elems = elems i; datas = datas i }

    -- the memory with which it begins, and with the stretches
    abbrev fresh : MemoryInstance
    fresh = new_memory (pages memory) (unwrap_or can.memory_is.limits.max most_pages)

    fresh_is : opened_memory (held_memories m.memories memory) ≡ fresh
    fresh_is = ap (λ (ls : List Limits). opened_memory (held_memories ls memory)) can.memory_is.only

    fresh_many : length (zeros (pages memory * page_size)) ≡ length memory.bytes
    fresh_many = zeros_many (pages memory * page_size) ∙ sym can.memory_is.is.whole

    memory_made : with_bytes fresh (all_put (zeros (pages memory * page_size)) c.memory) ≡ memory
    memory_made =
        ap₂ (λ (bs : List ℕ) (most : ℕ). let x : MemoryInstance = record { bytes = bs; max = most } in x)
        (ap (λ n. all_put (zeros n) c.memory) (sym can.memory_is.is.whole) ∙ bytes_made c.memory memory.bytes can.memory_is.made) (sym can.memory_is.most)

    pub held_opens : segments_performed N ≡ Some (goes_on (held_parts p c) memory)
    held_opens =
        let made = can.memory_is.made in
        let emptied_tables : List (List (Option Ref)) = p.elems ++ (map no_items (table_elems 0 c.tables) ++ [] ∷ []) in
        let us : ModuleParts = record p { datas = p.datas ++ map items c.memory } in
        let written : ModuleParts = record p { elems = emptied_tables } in
        let ended : ModuleParts = record written { datas = p.datas ++ map emptied c.memory } in
        all_same (segment_effects (constant_offset N) N) (opened_parts N) (opened_memory (held_memories m.memories memory))
        ∙ ap₂ (λ xs (parts : ModuleParts). all_performed (module_view m) 0 xs parts (opened_memory (held_memories m.memories memory))) effects_are parts_are
        ∙ ap (λ (mem : MemoryInstance). from_here m us mem (elems_effects m (length p.elems) (table_elems 0 c.tables) ++ last) (map opened_table (held_tables m.tables p.tables)) (p.elems ++ (table_items c.tables ++ [] ∷ []))) fresh_is
        ∙ tables_written m us fresh ([] ∷ []) last [] p.elems m.tables p.tables c.tables can.tables
        ∙ memory_written m (length memory.bytes) (memory_few m memory c.memory can.memory_is) written p.datas c.memory fresh fresh_many made.within
        ∙ ap (λ (mem : MemoryInstance). Some (goes_on ended mem)) memory_made
