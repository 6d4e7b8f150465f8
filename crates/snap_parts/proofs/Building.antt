-- The module that is made, part after part, holds the store and the memory.
use Rattle.std.proofs.Common.{◌≡◌, ℕ, ◌≤◌, ◌^◌, List, [], ◌∷◌, ◌++◌, length, map, Option, Some, None, refl, sym, ap, ap₂, subst, ◌∙◌, arith, append_assoc, length-append}
use Rattle.std.proofs.lemmas.List.{length-map, map-append, append-nil}
use Rattle.spec_loading.specs.wasm_form.declared.types.TableType.{TableType}
use Rattle.spec_loading.specs.wasm_form.declared.module.GlobalDef.{GlobalDef}
use Rattle.spec_loading.specs.wasm_form.declared.module.Elem.{Elem}
use Rattle.spec_loading.specs.wasm_form.declared.module.Data.{Data}
use Rattle.spec_loading.specs.wasm_form.declared.module.Module.{Module}
use Rattle.spec_loading.specs.wasm_form.declared.runtime.Ref.{Ref}
use Rattle.spec_loading.specs.wasm_form.declared.runtime.Value.TheVariants.{Num}
use Rattle.spec_loading.specs.spec_runtime.Memories.{MemoryInstance}
use Rattle.spec_loading.specs.spec_execution.Instances.{ModuleParts}
use Rattle.merge_match.specs.Renumbering.{Numbers, entry, value, table_instance}
use Rattle.merge_match.specs.Parts.{nowhere, extended}
use Rattle.snap_module.specs.Held.{Stretch, Contents, held, held_globals, held_tables, held_memories, held_elems, held_datas, entry_exports, passive_data, memory_data, table_elems, declared_elem}
use Rattle.snap_parts.specs.declared.given.Added.{Added}
use Rattle.snap_parts.specs.Zips.{zip_by, elem_by, is_left}
use Rattle.snap_parts.specs.Sections.{ElemsHeld, DatasHeld}
use Rattle.snap_parts.specs.Built.{AreAdded, IsBuilt}
use Rattle.snap_parts.specs.Made.{WithGlobals, WithTables, WithMemory, WithExports, WithElems, WithDatas}
use Rattle.snap_parts.proofs.Zips.{elems_zipped}

left_mapped : (f : Option Ref → Option Ref) (xs : List (List (Option Ref))) → map is_left (map (map f) xs) ≡ map is_left xs
left_mapped f [] = refl
left_mapped f ([] ∷ xs) = ap (λ l. is_left {A = Option Ref} [] ∷ l) (left_mapped f xs)
left_mapped f ((r ∷ rs) ∷ xs) = ap (λ l. is_left (r ∷ rs) ∷ l) (left_mapped f xs)

-- of each segment whether it is left
all_left : (n : Numbers) (us more : ModuleParts) (a : Added) → AreAdded a more
    → map is_left us.elems ++ a.left.now ≡ map is_left (map (map (entry n)) us.elems ++ more.elems)
all_left n us more a is =
    ap₂ (λ x y. x ++ y) (sym (left_mapped (entry n) us.elems)) (sym is.left)
    ∙ sym (map-append is_left (map (map (entry n)) us.elems) more.elems)

-- ---- the segments

elems_are : (n : Numbers) (us more : ModuleParts) (a : Added) → AreAdded a more → (m : Module) (elems : List Elem)
    → (e : ElemsHeld m (map is_left us.elems ++ a.left.now) (map (table_instance n) us.tables) elems)
    → elems ≡ held_elems m.elems (map (map (entry n)) us.elems ++ more.elems) ++ (table_elems 0 e.stretches ++ declared_elem m ∷ [])
elems_are n us more a is m elems e =
    e.held ∙ ap (λ l. l ++ (table_elems 0 e.stretches ++ declared_elem m ∷ []))
    (ap (λ l. zip_by elem_by m.elems l) (all_left n us more a is) ∙ elems_zipped m.elems (map (map (entry n)) us.elems ++ more.elems))

datas_are : (us more : ModuleParts) (a : Added) → AreAdded a more → (memory : MemoryInstance) (datas : List Data) → (d : DatasHeld us.datas memory datas)
    → datas ≡ held_datas (us.datas ++ more.datas) d.stretches
datas_are us more a is memory datas d =
    d.held ∙ sym (append_assoc (map passive_data us.datas) (passive_data [] ∷ []) (map memory_data d.stretches))
    ∙ ap (λ l. l ++ map memory_data d.stretches) (sym (map-append passive_data us.datas ([] ∷ [])) ∙ ap (λ l. map passive_data (us.datas ++ l)) (sym is.datas))

-- ---- how many there are

few_globals : (n : Numbers) (us more : ModuleParts) (a : Added) → AreAdded a more → length us.globals ≤ 2 ^ 30 → length a.globals.now ≤ 2 ^ 30
    → length (map (value n) us.globals ++ more.globals) ≤ nowhere
few_globals n us more a is one two =
    let same : length more.globals ≡ length a.globals.now = ap length is.globals ∙ length-map a.globals.now Num in
    omega (arith, length-append (map (value n) us.globals) more.globals, length-map us.globals (value n), same, one, two)

few_tables : (n : Numbers) (us more : ModuleParts) (a : Added) → AreAdded a more → length (map (table_instance n) us.tables) ≤ 2 ^ 30
    → length (map (table_instance n) us.tables ++ more.tables) ≤ nowhere
few_tables n us more a is one =
    let none : length more.tables ≡ 0 = ap length is.tables in
    omega (arith, length-append (map (table_instance n) us.tables) more.tables, none, one)

few_elems : (n : Numbers) (us more : ModuleParts) (a : Added) → AreAdded a more → length (map is_left us.elems ++ a.left.now) ≤ 2 ^ 30
    → (applied : List Elem) → length applied ≤ 2 ^ 30
    → length ((map (map (entry n)) us.elems ++ more.elems) ++ (map (λ (e : Elem). []) applied ++ [] ∷ [])) ≤ nowhere
few_elems n us more a is one applied two =
    let own : List (List (Option Ref)) = map (map (entry n)) us.elems ++ more.elems in
    let behind : List (List (Option Ref)) = map (λ (e : Elem). []) applied in
    let same : length own ≡ length (map is_left us.elems ++ a.left.now) =
    sym (length-map own is_left) ∙ ap length (sym (all_left n us more a is)) in
    let many : length behind ≡ length applied = length-map applied (λ (e : Elem). []) in
    omega (arith, length-append own (behind ++ [] ∷ []), length-append behind ([] ∷ []), same, many, one, two)

few_datas : (us more : ModuleParts) (a : Added) → AreAdded a more → length us.datas ≤ 2 ^ 30 → (ss : List (Stretch ℕ)) → length ss ≤ 65536
    → length ((us.datas ++ more.datas) ++ map (λ (s : Stretch ℕ). []) ss) ≤ nowhere
few_datas us more a is one ss two =
    let behind : List (List ℕ) = map (λ (s : Stretch ℕ). []) ss in
    let same : length more.datas ≡ 1 = ap length is.datas in
    let many : length behind ≡ length ss = length-map ss (λ (s : Stretch ℕ). []) in
    omega (arith, length-append (us.datas ++ more.datas) behind, length-append us.datas more.datas, same, many, one, two)

-- ---- the whole

module _ (n : Numbers) (us : ModuleParts) (a : Added) (memory : MemoryInstance) (start : ℕ) (m one two three four five six : Module)
    (g : WithGlobals n us a m one) (t : WithTables us one two) (s : WithMemory memory two three) (x : WithExports start three four)
    (e : WithElems n us a four five) (d : WithDatas us memory five six) where
  abbrev begun : Module
  begun = record m {
    globals = held_globals m.globals (map (value n) us.globals ++ map Num a.globals.now);
    tables = held_tables m.tables (map (table_instance n) us.tables);
    memories = held_memories m.memories memory;
    exports = entry_exports start;
    start = None;
  }

  is_begun : four ≡ begun
  is_begun =
      x.is ∙ ap (λ (w : Module). record w { exports = entry_exports start; start = None })
      (s.is ∙ ap (λ (w : Module). record w { memories = held_memories w.memories memory })
      (t.is n ∙ ap (λ (w : Module). record w { tables = held_tables w.tables (map (table_instance n) us.tables) }) g.is))

  elems : ElemsHeld begun (map is_left us.elems ++ a.left.now) (map (table_instance n) us.tables) five.elems
  elems = subst (λ (w : Module). ElemsHeld w (map is_left us.elems ++ a.left.now) (map (table_instance n) us.tables) five.elems) is_begun e.elems

  abbrev contents : Contents
  contents = record { memory = d.datas.stretches; tables = elems.stretches }

  abbrev datas_with : ModuleParts → List Data
  datas_with more = held_datas (us.datas ++ more.datas) d.datas.stretches

  abbrev elems_with : ModuleParts → List Elem
  elems_with more = held_elems m.elems (map (map (entry n)) us.elems ++ more.elems) ++ (table_elems 0 elems.stretches ++ declared_elem m ∷ [])

  is_held : (more : ModuleParts) → AreAdded a more → six ≡ held m start (extended n us more) memory contents
  is_held more is =
      d.is ∙ ap (λ (w : Module). record w { datas = six.datas; data_count = Some (length six.datas) })
      (e.is ∙ ap (λ (w : Module). record w { elems = five.elems }) is_begun)
      ∙ ap (λ (l : List Data). record begun { elems = five.elems; datas = l; data_count = Some (length l) })
      (datas_are us more a is memory six.datas d.datas)
      ∙ ap (λ (l : List Elem). record begun { elems = l; datas = datas_with more; data_count = Some (length (datas_with more)) }) (elems_are n us more a is begun five.elems elems)
      ∙ ap₂ (λ (gs : List GlobalDef) (ts : List TableType). record begun { globals = gs; tables = ts; elems = elems_with more; datas = datas_with more; data_count = Some (length (datas_with more)) })
      (ap (λ l. held_globals m.globals (map (value n) us.globals ++ l)) (sym is.globals))
      (ap (held_tables m.tables) (sym (append-nil (map (table_instance n) us.tables)) ∙ ap (λ l. map (table_instance n) us.tables ++ l) (sym is.tables)))

  pub built : IsBuilt m start n us a memory six
  built = record {
    contents = contents;
    written = record { memory_is = d.datas.sparse; tables_are = elems.sparse };
    few = λ more is. record {
      globals = few_globals n us more a is g.few g.few_more;
      tables = few_tables n us more a is elems.few_tables;
      elems = few_elems n us more a is elems.few (table_elems 0 elems.stretches) elems.few_applied;
      datas = few_datas us more a is d.datas.few d.datas.stretches d.datas.few_written;
    };
    functions = elems.few_functions;
    held = is_held;
  }
