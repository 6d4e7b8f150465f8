-- What is made of the state of a start-up holds it, and can be written.
use Rattle.std.proofs.Common.{◌≡◌, ◌⊎◌, inl, inr, ℕ, ◌+◌, ◌<◌, ◌≤◌, ◌^◌, List, [], ◌∷◌, ◌++◌, length, map, drop, Option, None, option_map, refl, sym, ap, ◌∙◌, subst, arith}
use Rattle.std.specs.Prelude.{unwrap_or}
use Rattle.std.specs.List.{All}
use Rattle.std.proofs.lemmas.List.{append-nil}
use Rattle.std.proofs.lemmas.List.Elements.{All-nil, All-cons, All-head, All-tail, All-append, All-take, All-drop, All-weaker}
use Rattle.spec_loading.specs.wasm_form.declared.types.TableType.{TableType}
use Rattle.spec_loading.specs.wasm_form.declared.module.Data.{Data}
use Rattle.spec_loading.specs.wasm_form.declared.module.Module.{Module}
use Rattle.spec_loading.specs.wasm_form.declared.runtime.Answer.{Answer}
use Rattle.spec_loading.specs.wasm_form.declared.runtime.Ref.{Ref}
use Rattle.spec_loading.specs.wasm_form.declared.runtime.Ref.TheVariants.{Own}
use Rattle.spec_loading.specs.wasm_form.declared.runtime.Value.TheVariants.{Num}
use Rattle.spec_loading.specs.spec_runs.Systems.{run}
use Rattle.spec_reading.specs.spec_binary.WellFormed.{IsShort, IsFormedType, IsFormedData, IsWellFormed}
use Rattle.spec_loading.specs.spec_runtime.Memories.{MemoryInstance}
use Rattle.spec_loading.specs.spec_runtime.Tables.{TableInstance}
use Rattle.spec_loading.specs.spec_runtime.Recorded.{Recorded}
use Rattle.spec_loading.specs.spec_runtime.Courses.{state_at}
use Rattle.spec_loading.specs.spec_execution.Instances.{ModuleParts}
use Rattle.spec_loading.specs.spec_linking.Sets.{Member}
use Rattle.spec_loading.specs.spec_linking.Gathering.{IsSet}
use Rattle.spec_loading.specs.spec_linking.LinkedSets.{LinkedSet}
use Rattle.spec_loading.specs.spec_linking.Links.{Links}
use Rattle.spec_loading.specs.spec_linking.Slots.{linked_plan}
use Rattle.spec_loading.specs.Members.{from_members, opening_store}
use Rattle.spec_loading.specs.LoadedSet.{SetState, set_system, set_opening}
use Rattle.spec_loading.specs.SoundSets.{HoldBytes}
use Rattle.spec_keeping.specs.Keeping.{AreLeft, SetRunKeeps}
use Rattle.dyl_store.specs.Stores.{set_course}
use Rattle.merge_match.specs.Renumbering.{Numbers, table_instance}
use Rattle.merge_index.specs.Numbering.{numbers_of, function_number}
use Rattle.merge_match.specs.Parts.{number_of}
use Rattle.merge_module.specs.Laws.{IsMergeable, MergedIsReady, MergedIsFormed}
use Rattle.merge_module.specs.MergedModule.{merged_module}
use Rattle.merge_module.specs.MergedModule as merged
use Rattle.merge_whole.specs.declared.made.Parts.{Parts}
use Rattle.merge_whole.specs.Parts.{ArePartsOf}
use Rattle.merge_whole.proofs.Little.{formed}
use Rattle.snap_module.specs.Held.{Stretch, IsWithin, Contents, IsReference, AreTables, CanBeHeld}
use Rattle.snap_parts.specs.declared.given.Added.{Added}
use Rattle.spec_snapshots.specs.Stretches.{IsPart, AreSparse}
use Rattle.snap_parts.specs.declared.given.Flat as declared
use Rattle.snap_parts.specs.Built.{AreAdded, IsBuilt, store_in}
use Rattle.spec_snapshots.specs.Causes.{state_after}
use Rattle.snap_set.specs.Parts.{more_of, snapshot_parts, start_number, MakeTables, MakeContents}
use Rattle.snap_set.specs.Laws.{PartsCanBeHeld, TablesRefer}
use Rattle.snap_merge.specs.declared.added.Behind.{Behind}
use Rattle.snap_merge.specs.Added.{IsBehind}
use Rattle.snap_merge.specs.Written.{IsTaken, IsMade, IsHolding}
use Rattle.snap_merge.proofs.Formed.{AreBrief, AreAllBrief, IsBrief, held_formed}

-- ---- what is made

pub entry_is : MergedIsReady → (L : LinkedSet) → IsSet L.set → Links L → (linked_plan L).pages_max ≤ 16384 → (p : Parts) → ArePartsOf L p → p.entry ≡ start_number L
entry_is ready L shape links pages p are =
    let r = (ready L shape links pages).ready.entry in
    are.entry r.function r.entry
    ∙ ap (λ (o : Option Ref). number_of (option_map (function_number L) o)) r.target
    ∙ sym (ap (λ (o : Option ℕ). function_number L (Own 0 (unwrap_or o 0))) r.entry)

-- what is read of a store is what the members have
pub units_are : (f : declared.Flat) (us : ModuleParts) → f.globals.now ≡ us.globals → f.tables.now ≡ us.tables → map (λ v. v.items) f.elems.now ≡ us.elems → map (λ d. d.now) f.datas.now ≡ us.datas
    → store_in f ≡ us
units_are f us globals tables elems datas = λ i. record { globals = globals i; tables = tables i; elems = elems i; datas = datas i }

module _ (L : LinkedSet) (s : SetState) (p : Parts) (are : ArePartsOf L p) (starts : p.entry ≡ start_number L) (b : Behind) (behind : IsBehind L s.loader b) (a : Added)
    (globals : a.globals.now ≡ b.globals.items) (left : a.left.now ≡ b.left.items) where
  added_so : AreAdded a (more_of L s.loader)
  added_so = record {
    globals = behind.globals ∙ ap (λ (ns : List ℕ). map Num ns) (sym globals);
    tables = refl;
    left = behind.left ∙ sym left;
    datas = refl;
  }

  pub made_of : (us : ModuleParts) (memory : MemoryInstance) (n : Numbers) (m : Module) → us ≡ s.run.units → memory ≡ s.run.memory → n ≡ numbers_of L
      → All IsFormedType p.module.types → IsBuilt p.module p.entry n us a memory m → IsMade L s m
  made_of us memory n m units space numbers types built =
      let one : IsBuilt p.module p.entry (numbers_of L) s.run.units a s.run.memory m =
      subst (λ (k : Numbers). IsBuilt p.module p.entry k s.run.units a s.run.memory m) numbers
      (subst (λ (x : MemoryInstance). IsBuilt p.module p.entry n s.run.units a x m) space (subst (λ (x : ModuleParts). IsBuilt p.module p.entry n x a memory m) units built)) in
      let all : IsBuilt (merged_module L) (start_number L) (numbers_of L) s.run.units a s.run.memory m =
      subst (λ (q : Module). IsBuilt q (start_number L) (numbers_of L) s.run.units a s.run.memory m) are.merged
      (subst (λ (k : ℕ). IsBuilt p.module k (numbers_of L) s.run.units a s.run.memory m) starts one) in
      record {
        contents = all.contents;
        is = all.held (more_of L s.loader) added_so;
        written = all.written;
        few = all.few (more_of L s.loader) added_so;
        functions = all.functions;
        types = subst (λ (q : Module). All IsFormedType q.types) are.merged types;
      }

-- ---- what is written of tables

part_refers : (m : Module) (gap : ℕ) (xs : List (Option Ref)) → All (IsReference m) xs → (s : Stretch (Option Ref)) → IsPart None gap xs s → All (IsReference m) s.items
part_refers m gap xs all s is =
    subst (All (IsReference m)) (sym is.items) (All-take (IsReference m) (length s.items) (drop s.at xs) (All-drop (IsReference m) s.at xs all))

abbrev Refers : Module → TableInstance → Type 0
Refers m x = All (IsReference m) x.entries

make_tables : (m : Module) (gap : ℕ) (xs : List TableInstance) (more : List (List (Stretch (Option Ref)))) → AreSparse gap xs more → All (Refers m) xs → MakeTables m xs more
make_tables m gap [] [] are all = tt
make_tables m gap (x ∷ xs) (ss ∷ more) are all = (
  are.0.made,
  All-weaker (IsPart None gap x.entries) (λ (s : Stretch (Option Ref)). All (IsReference m) s.items) (part_refers m gap x.entries (All-head (Refers m) x xs all)) ss are.0.parts,
  make_tables m gap xs more are.1 (All-tail (Refers m) x xs all),
)
make_tables m gap [] (ss ∷ more) are all = absurd are
make_tables m gap (x ∷ xs) [] are all = absurd are

-- ---- what is written is short

within_brief : {A : Type 0} (len : ℕ) → len < 2 ^ 32 → (ss : List (Stretch A)) → All (IsWithin len) ss → AreBrief ss
within_brief len few ss all = All-weaker (IsWithin len) (λ s. IsShort s.items) (λ s is. (let ends = is.ends in omega arith)) ss all

tables_brief : (m : Module) (ts : List TableType) (xs : List TableInstance) (more : List (List (Stretch (Option Ref)))) → AreTables m ts xs more → AreAllBrief more
tables_brief m [] [] [] are = tt
tables_brief m (t ∷ ts) (x ∷ xs) (ss ∷ more) are =
    let few = are.0.few in
    let most = are.0.most in
    (within_brief (length x.entries) (omega arith) ss are.0.made.within, tables_brief m ts xs more are.1)
tables_brief m _ _ _ are = absurd are

all_first : {A : Type 0} (P : A → Type 0) (xs ys : List A) → All P (xs ++ ys) → All P xs
all_first P [] ys all = All-nil P
all_first P (x ∷ xs) ys all = All-cons P x xs (All-head P x (xs ++ ys) all) (all_first P xs ys (All-tail P x (xs ++ ys) all))

all_behind : {A : Type 0} (P : A → Type 0) (xs ys : List A) → All P (xs ++ ys) → All P ys
all_behind P [] ys all = all
all_behind P (x ∷ xs) ys all = all_behind P xs ys (All-tail P x (xs ++ ys) all)

bytes_short : (ds : List Data) → All IsFormedData (map merged.passive_data ds) → All IsShort (map (λ (d : Data). d.bytes) ds)
bytes_short [] all = All-nil IsShort
bytes_short (d ∷ ds) all =
    All-cons IsShort d.bytes (map (λ (x : Data). x.bytes) ds) (All-head IsFormedData (merged.passive_data d) (map merged.passive_data ds) all).bytes
    (bytes_short ds (All-tail IsFormedData (merged.passive_data d) (map merged.passive_data ds) all))

members_short : (k : ℕ) (ms : List Member) → All IsFormedData (from_members (λ m wasm. map merged.passive_data wasm.datas) k ms)
    → All IsShort (from_members (λ m wasm. map (λ (d : Data). d.bytes) wasm.datas) k ms)
members_short k [] all = All-nil IsShort
members_short k (x ∷ xs) all =
    let rest = from_members (λ m wasm. map merged.passive_data wasm.datas) (k + 1) xs in
    All-append IsShort (map (λ (d : Data). d.bytes) x.wasm.datas) (from_members (λ m wasm. map (λ (d : Data). d.bytes) wasm.datas) (k + 1) xs)
    (bytes_short x.wasm.datas (all_first IsFormedData (map merged.passive_data x.wasm.datas) rest all))
    (members_short (k + 1) xs (all_behind IsFormedData (map merged.passive_data x.wasm.datas) rest all))

left_short : (xs ys : List (List ℕ)) → AreLeft xs ys → All IsShort xs → All IsShort ys
left_short [] [] are all = All-nil IsShort
left_short (x ∷ xs) (y ∷ ys) are all = All-cons IsShort y ys (one are.0) (left_short xs ys are.1 (All-tail IsShort x xs all))
  where
    one : (y ≡ []) ⊎ (y ≡ x) → IsShort y
    one (inl none) = subst IsShort (sym none) (omega arith)
    one (inr same) = subst IsShort (sym same) (All-head IsShort x xs all)
left_short [] (y ∷ ys) are all = absurd are
left_short (x ∷ xs) [] are all = absurd are

-- ---- it holds the state

module _ (keeps : SetRunKeeps) (forms : MergedIsFormed) (holds : PartsCanBeHeld) (refers : TablesRefer) (L : LinkedSet) (able : IsMergeable L) (bytes : HoldBytes L) where
  module _ (n : ℕ) (m : Module) (made : IsMade L (state_after L n) m) where
    abbrev t : SetState
    t = state_after L n

    abbrev c : Contents
    c = made.contents

    abbrev xs : List TableInstance
    xs = map (table_instance (numbers_of L)) t.run.units.tables

    make : MakeContents (merged_module L) (snapshot_parts L t) t.run.memory c
    make = record {
      memory_made = made.written.memory_is.made;
      tables = subst (λ (ts : List TableInstance). MakeTables (merged_module L) ts c.tables) (sym (append-nil xs))
          (make_tables (merged_module L) _ xs c.tables made.written.tables_are (subst (All (Refers (merged_module L))) (append-nil xs) (refers L able bytes n)));
      few = made.few;
    }

    can : CanBeHeld (merged_module L) (snapshot_parts L t) t.run.memory c
    can = (holds L able bytes n c make).can

    whole : IsWellFormed (merged_module L)
    whole = formed L able forms (merged_module L) refl made.types

    brief : IsBrief (snapshot_parts L t) c
    brief = record {
      datas =
          let all = all_first IsFormedData (from_members (λ m wasm. map merged.passive_data wasm.datas) 0 L.set.members) (merged.texts_segment L ∷ []) whole.datas.1 in
          let opened = members_short 0 L.set.members all in
          All-append IsShort t.run.units.datas ([] ∷ []) (left_short (opening_store L).datas t.run.units.datas (keeps L [] n).store.datas opened)
          (All-cons IsShort [] [] (omega arith) (All-nil IsShort));
      memory =
          let most = (keeps L [] n).memory in
          let small = able.pages in
          let is = can.memory_is.is in
          let all = is.whole in
          let few = is.few in
          within_brief (length t.run.memory.bytes) (omega arith) c.memory can.memory_is.made.within;
      tables = tables_brief (merged_module L) (merged_module L).tables (snapshot_parts L t).tables c.tables can.tables;
    }

    held_so : IsHolding L t m
    held_so = record {
      contents = c;
      held = record { make = make; written = made.written };
      is = made.is;
      formed = subst IsWellFormed (sym made.is) (held_formed (merged_module L) (start_number L) (snapshot_parts L t) t.run.memory c whole refl made.functions made.few brief);
    }

  pub holding_of : (x : Recorded) → IsTaken L x → (m : Module) → IsMade L (state_at (set_course L) x) m → IsHolding L (state_at (set_course L) x) m
  holding_of x taken m made =
      let here : state_at (set_course L) x ≡ state_after L x.steps = ap (λ (given : List Answer). (run (set_system L) x.steps (set_opening L) given).state) taken.none in
      subst (λ (u : SetState). IsHolding L u m) (sym here) (held_so x.steps m (subst (λ (u : SetState). IsMade L u m) here made))
