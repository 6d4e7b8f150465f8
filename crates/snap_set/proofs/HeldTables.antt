-- The tables of the merged module are of the types of those of the set's store, which refer to functions of the module.
use Rattle.std.proofs.Common.{◌≡◌, ◌≤◌, ◌<◌, ℕ, zero, suc, ◌+◌, Bool, true, List, [], ◌∷◌, ◌++◌, length, map, min, slice_get, Option, Some, None, if◌then◌else◌, refl, sym, ap, ◌∙◌, subst, arith, append-nil}
use Rattle.std.specs.Prelude.{unwrap_or}
use Rattle.std.specs.List.{All}
use Rattle.std.proofs.lemmas.Bool.{lt-ltb}
use Rattle.std.proofs.lemmas.List.{length-map}
use Rattle.std.proofs.lemmas.List.Elements.{All-nil, All-cons, All-map, All-weaker}
use Rattle.std.proofs.lemmas.Option.{slice_get_within}
use Rattle.spec_loading.specs.wasm_form.declared.types.ValType.{ValType}
use Rattle.spec_loading.specs.wasm_form.declared.types.ValType.TheVariants.{I32, I64, F32, F64, FuncRef, ExternRef}
use Rattle.spec_loading.specs.wasm_form.declared.types.TableType.{TableType}
use Rattle.spec_loading.specs.wasm_form.declared.module.Module.{Module}
use Rattle.spec_loading.specs.wasm_form.declared.runtime.Ref.{Ref}
use Rattle.spec_loading.specs.spec_binary.Options.{◌>>=◌}
use Rattle.spec_loading.specs.spec_binary.WellFormed.{is_reference_type}
use Rattle.spec_loading.specs.spec_validation.Faults.{most_entries, is_supported}
use Rattle.spec_loading.specs.spec_runtime.Tables.{TableInstance}
use Rattle.spec_loading.specs.spec_execution.Ranges.{Exists, ReferenceExists, AllExist}
use Rattle.spec_loading.specs.spec_execution.OneModule.{opened_table}
use Rattle.spec_loading.specs.spec_safety.ValueTypes.{IsTable as IsSoundTable}
use Rattle.spec_loading.proofs.of_spec_safety.Lookups.{got, holds_at, mapped_at}
use Rattle.spec_loading.proofs.of_spec_safety.KnownStacks.{some_same}
use Rattle.spec_loading.specs.spec_linking.Sets.{Member}
use Rattle.spec_loading.specs.spec_linking.Gathering.{IsSet}
use Rattle.spec_loading.specs.spec_linking.LinkedSets.{LinkedSet, wasm_of}
use Rattle.spec_loading.specs.spec_linking.Links.{Links}
use Rattle.spec_loading.specs.Addresses.{sum_before, own_table_address}
use Rattle.spec_loading.specs.RunItems.{RunTable, SharedFunctionTable, MemberTable, address_of_table}
use Rattle.spec_loading.specs.Members.{Store, set_view, opening_table, opening_store}
use Rattle.spec_loading.specs.SoundSets.{IsSoundStore}
use Rattle.spec_loading.proofs.MemberItems.{item_at, item_of}
use Rattle.spec_loading.proofs.PlannedWords.{most_within}
use Rattle.spec_keeping.specs.Keeping.{most_of}
use Rattle.merge_match.specs.Renumbering.{Numbers, reference, entry, table_instance}
use Rattle.merge_index.proofs.Counted.{joined_length}
use Rattle.merge_module.specs.Shape.{shared_table_type}
use Rattle.merge_module.specs.MergedModule.{merged_tables}
use Rattle.merge_module.proofs.Faultless.{valid_supported}
use Rattle.merge_module.proofs.SetMembers.{is_sound}
use Rattle.snap_module.specs.Held.{Stretch, IsReference, AreTables}
use Rattle.snap_set.specs.Parts.{MakeTables}
use Rattle.snap_set.proofs.HeldGlobals.{from_map}

-- ---- lists

each_element : {A : Type 0} (P : A → Type 0) (xs : List A) → ((i : ℕ) (x : A) → slice_get xs i ≡ Some x → P x) → All P xs
each_element P [] each = All-nil P
each_element P (x ∷ xs) each = All-cons P x xs (each 0 x refl) (each_element P xs (λ i y at. each (suc i) y at))

-- the type of a table, with what it has at most
pub record Fits (t : TableType) (x : TableInstance) : Type 0 where
  pub functions : t.elem ≡ FuncRef
  pub most : x.max ≡ min most_entries (unwrap_or t.limits.max most_entries)
  pub few : length x.entries ≤ x.max

tables_fit : (m : Module) (ts : List TableType) (xs : List TableInstance) (ss : List (List (Stretch (Option Ref)))) → MakeTables m xs ss
    → length ts ≡ length xs → ((i : ℕ) (t : TableType) (x : TableInstance) → slice_get ts i ≡ Some t → slice_get xs i ≡ Some x → Fits t x)
    → AreTables m ts xs ss
tables_fit m [] [] [] make many fits = tt
tables_fit m [] [] (s ∷ ss) make many fits = absurd make
tables_fit m [] (x ∷ xs) ss make many fits = absurd (omega arith)
tables_fit m (t ∷ ts) [] ss make many fits = absurd (omega arith)
tables_fit m (t ∷ ts) (x ∷ xs) [] make many fits = absurd make
tables_fit m (t ∷ ts) (x ∷ xs) (s ∷ ss) make many fits =
    let here = fits 0 t x refl refl in (
      record { functions = here.functions; most = here.most; few = here.few; made = make.0; references = make.1 },
      tables_fit m ts xs ss make.2 (omega arith) (λ i u y a b. fits (suc i) u y a b),
    )

function_type : (t : ValType) → is_reference_type t ≡ true → is_supported t ≡ true → t ≡ FuncRef
function_type I32 formed fits = absurd cc
function_type I64 formed fits = absurd cc
function_type F32 formed fits = absurd cc
function_type F64 formed fits = absurd cc
function_type FuncRef formed fits = refl
function_type ExternRef formed fits = absurd cc

-- ---- each table of the run

-- its type in the merged module, and what it is at first
pub record TableAt (L : LinkedSet) (i : ℕ) : Type 0 where
  pub ty : TableType
  pub at : slice_get (merged_tables L) i ≡ Some ty
  pub functions : ty.elem ≡ FuncRef
  pub first : TableInstance
  pub begins : slice_get (opening_store L).tables i ≡ Some first
  pub most : first.max ≡ min most_entries (unwrap_or ty.limits.max most_entries)
  pub table : RunTable
  pub address : address_of_table L table ≡ Some i

module _ (L : LinkedSet) (set : IsSet L.set) (links : Links L) where
  own_table : (m place : ℕ) (x : Member) → slice_get L.set.members m ≡ Some x → place < length x.wasm.tables
      → TableAt L (suc (sum_before (λ w. length w.tables) L.set.members m + place))
  own_table m place x found within =
      let here : wasm_of L m ≡ Some x.wasm = ap (λ (o : Option Member). o >>= λ y. Some y.wasm) found in
      let sound = is_sound L m x.wasm set here in
      let t = got x.wasm.tables place within in
      let formed = holds_at (λ (ty : TableType). is_reference_type ty.elem ≡ true) x.wasm.tables place t.0 sound.formed.tables.1 t.1 in
      let fits = holds_at (λ (ty : TableType). is_supported ty.elem ≡ true) x.wasm.tables place t.0 (valid_supported x.wasm sound.valid).tables t.1 in
      let start = 1 + sum_before (λ w. length w.tables) L.set.members m in
      record {
        ty = t.0;
        at = item_at (λ k w. w.tables) (λ w. length w.tables) (λ k w. refl) L.set.members m place x found within ∙ t.1;
        functions = function_type t.0.elem formed fits;
        first = opened_table t.0;
        begins =
            item_at (λ k w. map opened_table w.tables) (λ w. length w.tables) (λ k w. length-map w.tables opened_table) L.set.members m place x found within
            ∙ mapped_at opened_table x.wasm.tables place t.0 t.1;
        most = refl;
        table = MemberTable m place;
        address =
            ap (λ (o : Option Module). o >>= λ w. own_table_address L m w place) here
            ∙ ap (λ (b : Bool). if b then Some (start + place) else None) (lt-ltb place (length x.wasm.tables) within) ∙ ap Some (omega arith);
      }

  table_at : (i : ℕ) → i < length (opening_store L).tables → TableAt L i
  table_at zero lt = record {
    ty = shared_table_type L;
    at = refl;
    functions = refl;
    first = opening_table L;
    begins = refl;
    most = (let most = most_within L links in omega arith);
    table = SharedFunctionTable;
    address = refl;
  }
  table_at (suc j) lt =
      let item = item_of (λ k w. map opened_table w.tables) (λ w. length w.tables) (λ k w. length-map w.tables opened_table) 0 L.set.members j (omega arith) in
      let is = item.is in
      let place : suc (sum_before (λ w. length w.tables) L.set.members item.m + item.place) ≡ suc j = omega arith in
      subst (TableAt L) place (own_table item.m item.place item.member item.found item.within)

  module _ (n : Numbers) (merged : Module) (us : Store) (sound : IsSoundStore L us) (kept : map most_of us.tables ≡ map most_of (opening_store L).tables) where
    many : length us.tables ≡ length (opening_store L).tables
    many =
        let one = length-map us.tables most_of in
        let two = length-map (opening_store L).tables most_of in
        let same = ap length kept in
        omega arith

    most_kept : (i : ℕ) (x first : TableInstance) → slice_get us.tables i ≡ Some x → slice_get (opening_store L).tables i ≡ Some first → x.max ≡ first.max
    most_kept i x first at begins =
        some_same (sym (mapped_at most_of us.tables i x at) ∙ ap (λ l. slice_get l i) kept ∙ mapped_at most_of (opening_store L).tables i first begins)

    -- a table of the store is sound
    sound_table : (i : ℕ) (x : TableInstance) → slice_get us.tables i ≡ Some x → IsSoundTable (set_view L) x
    sound_table i x at =
        let lt = slice_get_within us.tables i x at in
        let same = many in
        let k = table_at i (omega arith) in
        let held = sound.tables k.table i k.address in
        subst (IsSoundTable (set_view L)) (some_same (sym held.1 ∙ at)) held.2

    each_fits : (i : ℕ) (t : TableType) (x : TableInstance) → slice_get (merged_tables L) i ≡ Some t → slice_get (map (table_instance n) us.tables) i ≡ Some x → Fits t x
    each_fits i t x at held =
        let y = from_map (table_instance n) us.tables i x held in
        let lt = slice_get_within us.tables i y.0 y.1 in
        let same = many in
        let k = table_at i (omega arith) in
        let ty : k.ty ≡ t = some_same (sym k.at ∙ at) in
        let is = sound_table i y.0 y.1 in
        let entries = length-map y.0.entries (entry n) in
        let few = is.few in
        let fits : Fits k.ty (table_instance n y.0) = record {
          functions = k.functions;
          most = most_kept i y.0 k.first y.1 k.begins ∙ k.most;
          few = omega arith;
        } in
        subst (λ u. Fits u x) ty (subst (Fits k.ty) y.2 fits)

    tables_many : length (merged_tables L) ≡ length (opening_store L).tables
    tables_many =
        let one = joined_length (λ k w. w.tables) (λ w. length w.tables) (λ k w. refl) 0 L.set.members in
        let two = joined_length (λ k w. map opened_table w.tables) (λ w. length w.tables) (λ k w. length-map w.tables opened_table) 0 L.set.members in
        omega arith

    pub tables_can : (ss : List (List (Stretch (Option Ref)))) → MakeTables merged (map (table_instance n) us.tables ++ []) ss
        → AreTables merged (merged_tables L) (map (table_instance n) us.tables ++ []) ss
    tables_can ss make =
        let bare = append-nil (map (table_instance n) us.tables) in
        let front = length-map us.tables (table_instance n) in
        let one = many in
        let two = tables_many in
        subst (λ xs. AreTables merged (merged_tables L) xs ss) (sym bare)
        (tables_fit merged (merged_tables L) (map (table_instance n) us.tables) ss (subst (λ xs. MakeTables merged xs ss) bare make) (omega arith) each_fits)

    -- ---- references

    module _ (references : (r : Ref) → Exists (set_view L) r → IsReference merged (Some (reference n r))) where
      entry_is : (o : Option Ref) → ReferenceExists (set_view L) o → IsReference merged (entry n o)
      entry_is None there = tt
      entry_is (Some r) there = references r there

      entries_are : (rs : List (Option Ref)) → AllExist (set_view L) rs → All (IsReference merged) (map (entry n) rs)
      entries_are rs all = All-map (IsReference merged) (entry n) rs (All-weaker (ReferenceExists (set_view L)) (λ o. IsReference merged (entry n o)) entry_is rs all)

      pub tables_refer : All (λ (x : TableInstance). All (IsReference merged) x.entries) (map (table_instance n) us.tables ++ [])
      tables_refer =
          subst (All (λ (x : TableInstance). All (IsReference merged) x.entries)) (sym (append-nil (map (table_instance n) us.tables)))
          (All-map (λ (x : TableInstance). All (IsReference merged) x.entries) (table_instance n) us.tables
          (each_element (λ (x : TableInstance). All (IsReference merged) (map (entry n) x.entries)) us.tables (λ i x at. entries_are x.entries (sound_table i x at).entries)))
