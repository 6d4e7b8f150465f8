-- The merged module with other contents is a snapshot.
use Rattle.std.proofs.Common.{◌≡◌, ◌≤◌, ℕ, zero, suc, slice_get, Bool, List, [], ◌∷◌, ◌++◌, length, map, arith, Option, Some, option_map, refl, sym, ap, ◌∙◌, append_assoc}
use Rattle.std.specs.List.{count_by}
use Rattle.std.proofs.lemmas.List.{length-map}
use Rattle.std.proofs.lemmas.List.Sums.{count_by-le-length}
use Rattle.spec_loading.specs.wasm_form.declared.types.Limits.{Limits}
use Rattle.spec_loading.specs.wasm_form.declared.types.TableType.{TableType}
use Rattle.spec_loading.specs.wasm_form.declared.module.GlobalDef.{GlobalDef}
use Rattle.spec_loading.specs.wasm_form.declared.module.Elem.{Elem}
use Rattle.spec_loading.specs.wasm_form.declared.module.Data.{Data}
use Rattle.spec_loading.specs.wasm_form.declared.module.Module.{Module}
use Rattle.spec_loading.specs.wasm_form.declared.runtime.Ref.{Ref}
use Rattle.spec_loading.specs.wasm_form.declared.runtime.Ref.TheVariants.{Own}
use Rattle.spec_loading.specs.wasm_form.declared.runtime.Value.{Value}
use Rattle.spec_loading.specs.spec_runs.Agreement.{Agree}
use Rattle.spec_loading.specs.spec_runs.Costs.{AgreeWithin}
use Rattle.spec_loading.proofs.of_spec_runs.Costs.{agree_within, agree_within_after}
use Rattle.spec_loading.specs.spec_binary.Indices.{Function, function_at}
use Rattle.spec_loading.specs.spec_binary.IndexSpaces.{type_of_global}
use Rattle.spec_loading.specs.spec_runtime.Memories.{MemoryInstance, pages}
use Rattle.spec_loading.specs.spec_runtime.Tables.{TableInstance}
use Rattle.spec_loading.specs.spec_execution.Instances.{ModuleParts}
use Rattle.spec_loading.specs.spec_execution.OneModule.{ModuleState, module_system, module_step, opened_state}
use Rattle.spec_loading.specs.spec_linking.LinkedSets.{LinkedSet}
use Rattle.spec_loading.specs.Loading.{LoaderState}
use Rattle.spec_loading.specs.Members.{Store}
use Rattle.spec_loading.specs.LoadedSet.{SetState, set_system, set_opening}
use Rattle.spec_loading.specs.SetCosts.{step_cost, set_room, module_depth}
use Rattle.spec_snapshots.specs.Stretches.{entries, IsWritten}
use Rattle.spec_snapshots.specs.Snapshots.{writes_memory, least_pages, HasSnapshotForm}
use Rattle.spec_snapshots.proofs.Few.{memory_is_few}
use Rattle.merge_match.specs.Renumbering.{Numbers, function, entry}
use Rattle.merge_match.specs.Parts.{AreFew}
use Rattle.merge_match.proofs.Ways.{low_one}
use Rattle.merge_start.specs.Words.{Starts}
use Rattle.merge_start.specs.Started.{Same}
use Rattle.merge_start.specs.Points.{places}
use Rattle.merge_start.specs.Laws.{MatchedWithin}
use Rattle.merge_start.proofs.Startup.{sets_step_as_merged, sets_step_within}
use Rattle.snap_module.specs.Held.{Stretch, Contents, held_globals, held_tables, held_memories, held_elems, table_elems, passive_data, memory_data, held, held_parts, AreGlobals, AreTables, AreElems, CanBeHeld}
use Rattle.snap_module.specs.Laws.{IsStart, entered_state}
use Rattle.snap_module.proofs.Begins.{entry_found, opens, enters}
use Rattle.snap_module.proofs.Valid.{held_valid}
use Rattle.snap_set.specs.Snapshots.{entries_of, least_entries_of, most_entries_of, most_pages_of, HasItems, KeepElems, IsSnapshot}
use Rattle.snap_set.specs.Laws.{IsJustStarted, IsMergedAs, HeldIsSnapshot}
use Rattle.snap_set.proofs.Agreement.{begun_agrees, agree_both}
use Rattle.snap_set.proofs.Matched.{entered_matches}
use Rattle.snap_set.proofs.References.{own_target}

still : {A : Type 0} (xs ys : List A) (m : ℕ) (v : A) → slice_get xs m ≡ Some v → slice_get (xs ++ ys) m ≡ Some v
still [] ys m v e = absurd cc
still (x ∷ xs) ys zero v e = e
still (x ∷ xs) ys (suc m) v e = still xs ys m v e

-- ---- segments behind those of the set don't matter

module _ (L : LinkedSet) (n : Numbers) (x : Starts) (loader : LoaderState) (us : Store) (p : ModuleParts) (c : Contents) where
  same_held : Same L n x loader us p → AreFew (held_parts p c) → Same L n x loader us (held_parts p c)
  same_held same few =
      let was = same.store in
      let more : ModuleParts = was.more in
      let tail : List (List (Option Ref)) = map (λ (e : Elem). []) (table_elems 0 c.tables) ++ [] ∷ [] in
      let last : List (List ℕ) = map (λ (s : Stretch ℕ). []) c.memory in
      let now : ModuleParts = record more { elems = more.elems ++ tail; datas = more.datas ++ last } in
      let elems : p.elems ++ tail ≡ map (map (entry n)) us.elems ++ (more.elems ++ tail) =
      ap (λ (q : ModuleParts). q.elems ++ tail) was.whole ∙ append_assoc (map (map (entry n)) us.elems) more.elems tail in
      let datas : p.datas ++ last ≡ us.datas ++ (more.datas ++ last) = ap (λ (q : ModuleParts). q.datas ++ last) was.whole ∙ append_assoc us.datas more.datas last in
      let globals = ap (λ (q : ModuleParts). q.globals) was.whole in
      let tables = ap (λ (q : ModuleParts). q.tables) was.whole in
      let kept = was.kept in
      record {
        store = record {
          more = now;
          whole = λ i. record { globals = globals i; tables = tables i; elems = elems i; datas = datas i };
          kept = record {
            sized = kept.sized;
            low = kept.low;
            others = kept.others;
            guards = kept.guards;
            error = kept.error;
            few = kept.few;
            count = kept.count;
            places = kept.places;
            later = kept.later;
            apart = kept.apart;
            slots = λ m lt. still more.elems tail m _ (kept.slots m lt);
          };
          inside = was.inside;
          few = few;
        };
        sized = same.sized;
      }

-- ---- its items are those of the module

globals_same : (m : Module) (gs : List GlobalDef) (vs : List Value) → AreGlobals m gs vs → map type_of_global (held_globals gs vs) ≡ map type_of_global gs
globals_same m [] vs are = refl
globals_same m (g ∷ gs) [] are = absurd are
globals_same m (g ∷ gs) (v ∷ vs) are = ap (λ l. g.ty ∷ l) (globals_same m gs vs are.1)

tables_same : (m : Module) (ts : List TableType) (xs : List TableInstance) (more : List (List (Stretch (Option Ref)))) → AreTables m ts xs more
    → map entries_of (held_tables ts xs) ≡ map entries_of ts
tables_same m [] [] [] are = refl
tables_same m (t ∷ ts) (x ∷ xs) (ss ∷ more) are = ap (λ l. t.elem ∷ l) (tables_same m ts xs more are.1)
tables_same m _ _ _ are = absurd are

most_same : (m : Module) (ts : List TableType) (xs : List TableInstance) (more : List (List (Stretch (Option Ref)))) → AreTables m ts xs more
    → map most_entries_of (held_tables ts xs) ≡ map most_entries_of ts
most_same m [] [] [] are = refl
most_same m (t ∷ ts) (x ∷ xs) (ss ∷ more) are = ap (λ l. t.limits.max ∷ l) (most_same m ts xs more are.1)
most_same m _ _ _ are = absurd are

memory_same : (ls : List Limits) (l : Limits) (memory : MemoryInstance) → ls ≡ l ∷ [] → map most_pages_of (held_memories ls memory) ≡ map most_pages_of ls
memory_same ls l memory e = ap (λ (k : List Limits). map most_pages_of (held_memories k memory)) e ∙ ap (λ (k : List Limits). map most_pages_of k) (sym e)

items_held : (m : Module) (begins : ℕ) (p : ModuleParts) (memory : MemoryInstance) (c : Contents) → CanBeHeld m p memory c → HasItems m (held m begins p memory c)
items_held m begins p memory c can = record {
  code = record { types = refl; imports = refl; funcs = refl; codes = refl };
  globals = globals_same m m.globals p.globals can.globals;
  tables = tables_same m m.tables p.tables c.tables can.tables;
  most_entries = most_same m m.tables p.tables c.tables can.tables;
  most_pages = memory_same m.memories can.memory_is.limits memory can.memory_is.only;
}

-- ---- its segments

keep_all : (m : Module) (es : List Elem) (xs : List (List (Option Ref))) → AreElems m es xs → KeepElems es xs (held_elems es xs)
keep_all m [] [] are = tt
keep_all m [] (x ∷ xs) are = absurd are
keep_all m (e ∷ es) [] are = absurd are
keep_all m (e ∷ es) ([] ∷ xs) are =
    (record { passive = refl; dropped = λ none. refl; kept = λ some. absurd (some refl) }, keep_all m es xs are.1)
keep_all m (e ∷ es) ((r ∷ rs) ∷ xs) are =
    (record { passive = refl; dropped = λ none. absurd cc; kept = λ some. refl }, keep_all m es xs are.1)

sizes_held : (m : Module) (ts : List TableType) (xs : List TableInstance) (more : List (List (Stretch (Option Ref)))) → AreTables m ts xs more
    → map least_entries_of (held_tables ts xs) ≡ map entries xs
sizes_held m [] [] [] are = refl
sizes_held m (t ∷ ts) (x ∷ xs) (ss ∷ more) are = ap (λ l. length x.entries ∷ l) (sizes_held m ts xs more are.1)
sizes_held m _ _ _ are = absurd are

pages_held : (ls : List Limits) (l : Limits) (memory : MemoryInstance) → ls ≡ l ∷ [] → map least_pages (held_memories ls memory) ≡ pages memory ∷ []
pages_held ls l memory e = ap (λ (k : List Limits). map least_pages (held_memories k memory)) e

abbrev writes : Data → Bool
writes d = writes_memory d.mode

none_write : (bs : List (List ℕ)) (ds : List Data) → count_by writes (map passive_data bs ++ ds) ≡ count_by writes ds
none_write [] ds = refl
none_write (b ∷ bs) ds = none_write bs ds

few_write : (bs : List (List ℕ)) (ss : List (Stretch ℕ)) → length ss ≤ 65536 → count_by writes (map passive_data bs ++ map memory_data ss) ≤ 65536
few_write bs ss few =
    let none = none_write bs (map memory_data ss) in
    let most = count_by-le-length writes (map memory_data ss) in
    let many = length-map ss memory_data in
    omega arith

-- ---- the whole

module _ (L : LinkedSet) (n : Numbers) (x : Starts) (merged : Module) (is : IsMergedAs L n x merged) (s : SetState) (f : ℕ) (code : Function)
    (started : IsJustStarted L s f code) (p : ModuleParts) (c : Contents) (same : Same L n x s.loader s.run.units p) (few : AreFew (held_parts p c))
    (can : CanBeHeld merged p s.run.memory c) (written : IsWritten s.run.memory p.tables c) (start : IsStart merged (n.function (Own 0 f))) where
  abbrev begins : ℕ
  begins = n.function (Own 0 f)

  abbrev N : Module
  N = held merged begins p s.run.memory c

  abbrev opening : ModuleState
  opening = opened_state N begins (held_parts p c) s.run.memory

  abbrev begun : ModuleState
  begun = entered_state begins (function n 0 code) (held_parts p c) s.run.memory

  code_there : function_at merged begins ≡ Some (function n 0 code)
  code_there = is.parts.functions 0 f ∙ ap (option_map (function n 0)) started.found

  first_step : module_step N opening ≡ Some begun
  first_step = enters merged begins p s.run.memory c (function n 0 code) (own_target merged begins (function n 0 code) code_there) code_there started.ty

  first_matches : MatchedWithin L n x s begun
  first_matches = (
    entered_matches n (places L n x) (Same L n x) (λ r. tt) s f code (held_parts p c) started.moving started.stack
        (same_held L n x s.loader s.run.units p c same few),
    started.bounded,
  )

  run_agrees : Agree (set_system L) (module_system N) (set_opening L) opening
  run_agrees =
      begun_agrees (set_system L) (module_system N) (MatchedWithin L n x) (sets_step_as_merged L n x merged is.parts is.ready is.calls)
      (set_opening L) s started.steps started.silent started.moving opening begun refl first_step first_matches

  form : HasSnapshotForm s.run.memory N
  form = record {
    imports = is.alone;
    entry = begins;
    exports = refl;
    start = refl;
    customs = is.plain;
    size = pages_held merged.memories can.memory_is.limits s.run.memory can.memory_is.only;
    few = few_write p.datas c.memory (memory_is_few s.run.memory c.memory written.memory_is);
  }

  run_within : AgreeWithin (set_system L) (module_system N) (step_cost L) set_room module_depth 1 s opening
  run_within =
      agree_within_after (set_system L) (module_system merged) (step_cost L) set_room module_depth s opening begun 1 started.moving
      (begun, refl, first_step, refl) (low_one (module_system merged) (λ v. module_depth v ≤ set_room s) opening (omega arith))
      (agree_within (set_system L) (module_system merged) (MatchedWithin L n x) (step_cost L) set_room module_depth
      (sets_step_within L n x merged is.parts is.ready is.calls) s begun first_matches)

  snapshot : IsSnapshot L n x merged begins s N
  snapshot = record {
    stands = record {
      valid = held_valid merged begins p s.run.memory c is.valid is.alone can start.nullary;
      opening = opening;
      opens = opens merged begins p s.run.memory c L.names can start is.imports;
      agrees = run_agrees;
      memory = refl;
      form = form;
    };
    items = items_held merged begins p s.run.memory c can;
    segments = record {
      parts = p;
      same = same;
      kept = held_elems merged.elems p.elems;
      keep = keep_all merged merged.elems p.elems can.elems;
      contents = c;
      written = written;
      elems = refl;
      datas = refl;
      sizes = sizes_held merged merged.tables p.tables c.tables can.tables;
    };
    entered = entry_found merged begins p s.run.memory c start;
    begun = begun;
    first = first_step;
    matched = first_matches;
    opening = is.opening;
    opens = is.opens;
    agrees = agree_both (set_system L) (module_system N) (module_system merged) (set_opening L) opening is.opening run_agrees is.agrees;
    within = run_within;
  }

pub held_is_snapshot : HeldIsSnapshot
held_is_snapshot L n x merged is s f code started p c same few can written start =
    snapshot L n x merged is s f code started p c same few can written start
