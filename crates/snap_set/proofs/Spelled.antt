-- Bytes that spell the module which holds the first started state are a snapshot of the set.
use Rattle.std.proofs.Common.{◌≡◌, ℕ, ◌-◌, Bool, true, false, List, [], ◌∷◌, length, map, slice_get, nat_lt, Option, Some, None, refl, sym, ap, ◌∙◌, subst, option_map}
use Rattle.std.specs.Prelude.{Result, Ok, Err, unwrap_or}
use Rattle.std.specs.List.{list_all}
use Rattle.std.proofs.lemmas.Bool.{and_from, lt-ltb}
use Rattle.std.proofs.lemmas.List.{append-nil}
use Rattle.std.proofs.lemmas.Option.{slice_get_within}
use Rattle.spec_loading.specs.wasm_form.declared.module.ImportDesc.{ImportDesc}
use Rattle.spec_loading.specs.wasm_form.declared.module.ImportDesc.TheVariants as imported
use Rattle.spec_loading.specs.wasm_form.declared.module.Import.{Import}
use Rattle.spec_loading.specs.wasm_form.declared.module.Module.{Module}
use Rattle.spec_loading.specs.wasm_form.declared.runtime.Ref.TheVariants.{Own}
use Rattle.spec_loading.specs.spec_runtime.Names.{HostName}
use Rattle.spec_loading.specs.spec_binary.Options.{◌>>=◌}
use Rattle.spec_loading.specs.spec_binary.IndexSpaces.{function_space, imported_count}
use Rattle.spec_loading.specs.spec_binary.Indices.{Function, function_type, function_at, function_with, nullary}
use Rattle.spec_loading.specs.spec_runtime.Tables.{TableInstance}
use Rattle.spec_loading.specs.spec_execution.declared.fault.SingleFault.{SingleFault}
use Rattle.spec_loading.specs.spec_execution.OneModule.{ModuleState, imports_met, opened_after}
use Rattle.spec_loading.specs.spec_safety.Laws.{is_function_import}
use Rattle.spec_loading.proofs.of_spec_safety.Lookups.{went_on}
use Rattle.spec_loading.proofs.of_spec_safety.KnownStacks.{some_same}
use Rattle.spec_loading.specs.spec_linking.LinkedSets.{LinkedSet, hosts_of}
use Rattle.spec_snapshots.specs.Stretches.{IsWritten}
use Rattle.merge_match.specs.Renumbering.{function, table_instance}
use Rattle.merge_index.specs.Numbering.{numbers_of, starts_of, function_number}
use Rattle.merge_module.specs.Shape.{asked_host}
use Rattle.merge_module.specs.Laws.{IsMergeable, MergedIsReady, MergedStands, MergedHasShape}
use Rattle.merge_module.specs.MergedModule.{merged_module}
use Rattle.snap_module.specs.Held.{held}
use Rattle.snap_module.specs.Laws.{IsStart}
use Rattle.spec_snapshots.specs.Causes.{state_after}
use Rattle.snap_set.specs.Snapshots.{IsSnapshot}
use Rattle.snap_set.specs.Parts.{snapshot_parts, start_number, snapshot_module}
use Rattle.snap_set.specs.Laws.{IsMergedAs, FirstIsJustStarted, PartsCanBeHeld, SpelledSnapshot}
use Rattle.snap_set.proofs.Snapped.{held_is_snapshot}

-- a function of its own that takes and gives nothing
start_of : (m : Module) (k : ℕ) (x : Function) → function_at m k ≡ Some x → x.ty ≡ nullary → IsStart m k
start_of m k x e ty = go (nat_lt k (imported_count m)) refl
  where
    go : (b : Bool) → nat_lt k (imported_count m) ≡ b → IsStart m k
    go true q = absurd (let bad : None ≡ Some x = rw q at e in cc)
    go false q =
        let there : (slice_get m.codes (k - imported_count m) >>= λ c. function_type m k >>= λ t. Some (function_with t c)) ≡ Some x = rw q at e in
        let c = went_on (slice_get m.codes (k - imported_count m)) (λ c. function_type m k >>= λ t. Some (function_with t c)) x there in
        let t = went_on (function_type m k) (λ t. Some (function_with t c.0)) x c.2 in
        let same : t.0 ≡ nullary = ap (λ (y : Function). y.ty) (some_same t.2) ∙ ty in
        let index = went_on (slice_get (function_space m) k) (slice_get m.types) t.0 t.1 in
        let within = lt-ltb k (length (function_space m)) (slice_get_within (function_space m) k index.0 index.1) in
        record { own = rw (q, within) refl; nullary = rw (t.1, same) refl }

-- a module that opens has its imports met
met_of : (m : Module) (s : ModuleState) (met : Result (Unit {0}) SingleFault) → opened_after m met ≡ Ok s → met ≡ Ok tt
met_of m s (Err why) e = absurd cc
met_of m s (Ok u) e = refl

one_function : (m : Module) (i : Import) (h : HostName) → asked_host m i ≡ Some h → is_function_import i ≡ true
one_function m i h asks = go i.desc refl
  where
    go : (d : ImportDesc) → i.desc ≡ d → is_function_import i ≡ true
    go (imported.Func t) q = rw q refl
    go (imported.Table ty) q = absurd (let none : None ≡ Some h = rw q at asks in cc)
    go (imported.Space limits) q = absurd (let none : None ≡ Some h = rw q at asks in cc)
    go (imported.Global ty) q = absurd (let none : None ≡ Some h = rw q at asks in cc)

functions_alone : (m : Module) (is : List Import) (hs : List HostName) → map (asked_host m) is ≡ map Some hs → list_all is_function_import is ≡ true
functions_alone m [] hs asks = refl
functions_alone m (i ∷ is) [] asks = absurd cc
functions_alone m (i ∷ is) (h ∷ hs) asks =
    let first : asked_host m i ≡ Some h = cc in
    let later : map (asked_host m) is ≡ map Some hs = cc in
    and_from (is_function_import i) (list_all is_function_import is) (one_function m i h first) (functions_alone m is hs later)

-- what the merged module of a set is
merged_as : MergedIsReady → MergedStands → MergedHasShape → (L : LinkedSet) → IsMergeable L
    → IsMergedAs L (numbers_of L) (starts_of L) (merged_module L)
merged_as ready stands shape L mergeable =
    let premises = ready L mergeable.shape mergeable.links mergeable.pages in
    let standing = stands L mergeable in
    record {
      parts = premises.parts;
      ready = premises.ready;
      calls = premises.calls;
      valid = standing.valid;
      alone = functions_alone (merged_module L) (merged_module L).imports (hosts_of L) (shape L mergeable).imports;
      imports = met_of (merged_module L) standing.opening (imports_met (merged_module L) L.names (merged_module L).imports) standing.opens;
      plain = (shape L mergeable).customs;
      opening = standing.opening;
      opens = standing.opens;
      agrees = standing.agrees;
    }

pub spelled_snapshot : MergedIsReady → MergedStands → MergedHasShape → FirstIsJustStarted → PartsCanBeHeld → SpelledSnapshot
spelled_snapshot ready stands shape first holds L mergeable bytes most n is c w bs spells =
    let s = state_after L n in
    let just = first L mergeable bytes most n is in
    let as_merged = merged_as ready stands shape L mergeable in
    let found = as_merged.parts.functions 0 just.0 ∙ ap (option_map (function (numbers_of L) 0)) just.3.found in
    let start = start_of (merged_module L) ((numbers_of L).function (Own 0 just.0)) (function (numbers_of L) 0 just.1) found just.3.ty in
    let held_here = holds L mergeable bytes n c w.make in
    let written : IsWritten s.run.memory (snapshot_parts L s).tables c =
    subst (λ (ts : List TableInstance). IsWritten s.run.memory ts c) (sym (append-nil (map (table_instance (numbers_of L)) s.run.units.tables))) w.written in
    let here = held_is_snapshot L (numbers_of L) (starts_of L) (merged_module L) as_merged s just.0 just.1 just.3 (snapshot_parts L s) c
    held_here.same w.make.few held_here.can written start in
    let number : (numbers_of L).function (Own 0 just.0) ≡ start_number L = ap (λ (o : Option ℕ). function_number L (Own 0 (unwrap_or o 0))) (sym just.2) in
    record {
      wasm = snapshot_module L s c;
      spelled = spells;
      is = subst (λ k. IsSnapshot L (numbers_of L) (starts_of L) (merged_module L) k s (held (merged_module L) k (snapshot_parts L s) s.run.memory c)) number here;
    }
