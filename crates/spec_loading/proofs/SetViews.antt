-- The members of a linked set are typed units: the numbers of each lead to what has the types that it gives them, and each change of what is
-- named keeps the store sound.
use Rattle.std.proofs.Common.{◌≡◌, ℕ, ◌<◌, true, false, List, [], Option, Some, None, refl, sym, ap, ◌∙◌, subst, arith, slice_get}
use Rattle.std.specs.Prelude.{unwrap_or}
use Rattle.std.proofs.lemmas.List.Elements.{All-nil}
use Rattle.std.proofs.lemmas.Option.{slice_get_within}
use Rattle.spec_linking.specs.wasm_form.declared.types.ValType.{ValType}
use Rattle.spec_linking.specs.wasm_form.declared.types.FuncType.{FuncType}
use Rattle.spec_linking.specs.wasm_form.declared.types.GlobalType.{GlobalType}
use Rattle.spec_linking.specs.wasm_form.declared.module.Module.{Module}
use Rattle.spec_linking.specs.wasm_form.declared.runtime.Ref.{Ref}
use Rattle.spec_linking.specs.wasm_form.declared.runtime.Value.{Value}
use Rattle.spec_linking.specs.spec_binary.Options.{◌>>=◌}
use Rattle.spec_linking.specs.spec_binary.WellFormed.{IsFormedTable}
use Rattle.spec_linking.specs.spec_binary.Indices.{Function, function_at}
use Rattle.spec_linking.specs.spec_binary.IndexSpaces.{table_space, global_space}
use Rattle.spec_linking.specs.spec_runtime.Tables.{TableInstance}
use Rattle.spec_linking.specs.spec_validation.Context.{Context}
use Rattle.spec_linking.specs.spec_validation.Faults.{elem_of_table, type_of_elem}
use Rattle.spec_linking.specs.spec_execution.Values.{is_number}
use Rattle.spec_linking.specs.spec_execution.Views.{View, type_of}
use Rattle.spec_linking.specs.spec_execution.Ranges.{ReferenceExists, AllExist}
use Rattle.spec_linking.specs.spec_execution.Instances.{set_at, module_height, module_context}
use Rattle.spec_linking.specs.Sets.{Member}
use Rattle.spec_linking.specs.Gathering.{IsMember, IsSet}
use Rattle.spec_linking.specs.LinkedSets.{LinkedSet, wasm_of}
use Rattle.spec_linking.specs.Links.{Links}
use Rattle.spec_safety.specs.ValueTypes.{HasType, AreBytes, IsTable}
use Rattle.spec_safety.specs.TypedViews.{HasBody, HoldTypes, IsTypedView}
use Rattle.spec_safety.proofs.Lookups.{went_on, holds_at}
use Rattle.spec_safety.proofs.SoundStores.{still_at}
use Rattle.spec_safety.proofs.ValidCode.{no_number, refers_typed, body_typed}
use Rattle.spec_loading.specs.Addresses.{global_address, table_address, elem_address, data_address}
use Rattle.spec_loading.specs.Members.{Store, set_view}
use Rattle.spec_loading.specs.RunItems.{RunGlobal, run_global, address_of_global, RunTable, run_table, address_of_table, run_global_type}
use Rattle.spec_loading.specs.SetNames.{empty_context, names_of, set_names}
use Rattle.spec_loading.specs.SoundSets.{IsSoundStore}
use Rattle.spec_loading.proofs.LinkedMembers.{is_sound, member_numbers}
use Rattle.spec_loading.proofs.LinkedTypes.{function_typed}
use Rattle.spec_loading.proofs.LinkedStore.{global_there, table_there, elem_there, data_there}
use Rattle.spec_loading.proofs.DistinctAddresses.{globals_are_numbered, tables_are_numbered, globals_are_distinct}
use Rattle.spec_loading.proofs.MemberTables.{tables_formed}
use Rattle.spec_loading.proofs.MemberGlobals.{global_type}

none_is : {A : Type 0} (a : A) → None ≡ Some a → ⊥
none_is a e = cc

module _ (L : LinkedSet) where
  abbrev V : View Store
  V = set_view L

  abbrev N : ℕ → Context
  N = set_names L

  -- what a unit names, a member does
  of_unit : (m : ℕ) (Names : Context → Type 0) (P : Type 0) → (Names empty_context → ⊥) → Names (N m)
      → ((x : Member) → slice_get L.set.members m ≡ Some x → Names (module_context x.wasm) → P) → P
  of_unit m Names P none e make = go (slice_get L.set.members m) refl e
    where
      go : (o : Option Member) → slice_get L.set.members m ≡ o → Names (names_of (o >>= λ x. Some x.wasm)) → P
      go None q h = absurd (none h)
      go (Some x) q h = make x q h

  types_same : (m : ℕ) → (N m).types ≡ V.declared m
  types_same m = go (wasm_of L m)
    where
      go : (o : Option Module) → (names_of o).types ≡ (λ t. o >>= λ wasm. slice_get wasm.types t)
      go None = refl
      go (Some wasm) = refl

  member_is : IsSet L.set → (m : ℕ) (x : Member) → slice_get L.set.members m ≡ Some x → IsMember x
  member_is set m x at = holds_at IsMember L.set.members m x set.members at

  here : (m : ℕ) (x : Member) → slice_get L.set.members m ≡ Some x → wasm_of L m ≡ Some x.wasm
  here m x at = ap (λ (o : Option Member). o >>= λ y. Some y.wasm) at

  -- ---- what is named has an address

  -- the global of the run that a named global is
  record NamedGlobal (m g : ℕ) (ty : GlobalType) : Type 0 where
    run : RunGlobal
    a : ℕ
    numbered : global_address L m g ≡ Some a
    address : address_of_global L run ≡ Some a
    typed : run_global_type L run ≡ ty.value

  named_global : Links L → (m g : ℕ) (ty : GlobalType) → (N m).globals g ≡ Some ty → NamedGlobal m g ty
  named_global links m g ty e = of_unit m (λ c. c.globals g ≡ Some ty) (NamedGlobal m g ty) (none_is ty) e (λ x at h.
      let lt = slice_get_within (global_space x.wasm) g ty h in
      let a = global_there L m x at links g lt in
      let r = went_on (run_global L m g) (address_of_global L) a.0 (sym (globals_are_numbered L m g) ∙ a.1) in
      record { run = r.0; a = a.0; numbered = a.1; address = r.2; typed = global_type L m x at links g ty r.0 h r.1 })

  -- globals at one address are of one type
  pub globals_alike : Links L → (m g n k : ℕ) (ty ty' : GlobalType) → (N m).globals g ≡ Some ty → (N n).globals k ≡ Some ty'
      → global_address L m g ≡ global_address L n k → ty.value ≡ ty'.value
  globals_alike links m g n k ty ty' e f shared =
      let x = named_global links m g ty e in
      let y = named_global links n k ty' f in
      let one : Some x.a ≡ Some y.a = sym x.numbered ∙ shared ∙ y.numbered in
      let same = globals_are_distinct L x.run y.run x.a x.address (y.address ∙ sym one) in
      sym x.typed ∙ ap (run_global_type L) same ∙ y.typed

  record NamedTable (m t : ℕ) : Type 0 where
    run : RunTable
    a : ℕ
    numbered : table_address L m t ≡ Some a
    address : address_of_table L run ≡ Some a

  named_table : (m t : ℕ) (ty : ValType) → (N m).tables t ≡ Some ty → NamedTable m t
  named_table m t ty e = of_unit m (λ c. c.tables t ≡ Some ty) (NamedTable m t) (none_is ty) e (λ x at h.
      let found = went_on (slice_get (table_space x.wasm) t) elem_of_table ty h in
      let a = table_there L m x at t (slice_get_within (table_space x.wasm) t found.0 found.1) in
      let r = went_on (run_table L m t) (address_of_table L) a.0 (sym (tables_are_numbered L m t) ∙ a.1) in
      record { run = r.0; a = a.0; numbered = a.1; address = r.2 })

  named_elem : (m e : ℕ) (ty : ValType) → (N m).elems e ≡ Some ty → (a : ℕ) × (elem_address L m e ≡ Some a)
  named_elem m e ty h = of_unit m (λ c. c.elems e ≡ Some ty) _ (none_is ty) h (λ x at k.
      let found = went_on (slice_get x.wasm.elems e) type_of_elem ty k in
      let a = elem_there L m x at e (slice_get_within x.wasm.elems e found.0 found.1) in
      (a.0, a.1))

  named_data : (m d : ℕ) → d < (N m).datas → (a : ℕ) × (data_address L m d ≡ Some a)
  named_data m d lt = of_unit m (λ c. d < c.datas) _ (λ h. omega arith) lt (λ x at k. let a = data_there L m x at d k in (a.0, a.1))

  -- ---- code

  module _ (set : IsSet L.set) where
    refers_there : (m f : ℕ) → (N m).refers f ≡ true → (ty : FuncType) × ((N m).functions f ≡ Some ty)
    refers_there m f e = of_unit m (λ c. c.refers f ≡ true) _ (λ h. cc) e (λ x at h.
        let ty = refers_typed x.wasm (is_sound L m x.wasm set (here m x at)).valid f h in
        (ty.0, subst (λ (o : Option Module). (names_of o).functions f ≡ Some ty.0) (sym (here m x at)) ty.1))

    tables_typed : (m t : ℕ) (ty : ValType) → (N m).tables t ≡ Some ty → is_number ty ≡ false
    tables_typed m t ty e = of_unit m (λ c. c.tables t ≡ Some ty) _ (none_is ty) e (λ x at h.
        let found = went_on (slice_get (table_space x.wasm) t) elem_of_table ty h in
        let formed = holds_at IsFormedTable (table_space x.wasm) t found.0 (tables_formed x (member_is set m x at)) found.1 in
        let same : found.0.elem ≡ ty = (let w = found.2 in cc) in
        subst (λ u. is_number u ≡ false) same (no_number found.0.elem formed))

    code_typed : (m f : ℕ) (x : Function) → V.code m f ≡ Some x → HasBody (N m) (V.height m f) x
    code_typed m f x e = go (slice_get L.set.members m) refl e
      where
        go : (o : Option Member) → slice_get L.set.members m ≡ o → ((o >>= λ y. Some y.wasm) >>= λ wasm. function_at wasm f) ≡ Some x
            → HasBody (names_of (o >>= λ y. Some y.wasm)) (unwrap_or ((o >>= λ y. Some y.wasm) >>= λ wasm. Some (module_height wasm f)) 0) x
        go None q h = absurd cc
        go (Some y) q h =
            let sound = is_sound L m y.wasm set (here m y q) in
            body_typed y.wasm sound.valid sound.limits (member_numbers y (member_is set m y q)) f x h

    functions_typed : Links L → (m f : ℕ) (ty : FuncType) → (N m).functions f ≡ Some ty
        → (r : Ref) × (V.target m f ≡ Some r) × (type_of V r ≡ Some ty)
    functions_typed links m f ty e = of_unit m (λ c. c.functions f ≡ Some ty) _ (none_is ty) e (λ x at h. function_typed L set links m f x at ty h)

  -- ---- a sound store holds the types of what is named

  module _ (us : Store) (sound : IsSoundStore L us) where
    global_held : Links L → (m g : ℕ) (ty : GlobalType) → (N m).globals g ≡ Some ty → (v : Value) × (V.global us m g ≡ Some v) × HasType V ty.value v
    global_held links m g ty e =
        let named = named_global links m g ty e in
        let v = sound.globals named.run named.a named.address in (
          v.0,
          ap (λ (o : Option ℕ). o >>= slice_get us.globals) named.numbered ∙ v.1,
          subst (λ t. HasType V t v.0) named.typed v.2,
        )

    table_held : (m t : ℕ) (ty : ValType) → (N m).tables t ≡ Some ty → (x : TableInstance) × (V.table us m t ≡ Some x) × IsTable V x
    table_held m t ty e =
        let named = named_table m t ty e in
        let x = sound.tables named.run named.a named.address in
        (x.0, ap (λ (o : Option ℕ). o >>= slice_get us.tables) named.numbered ∙ x.1, x.2)

    elem_held : (m e : ℕ) (ty : ValType) → (N m).elems e ≡ Some ty → (items : List (Option Ref)) × (V.elem us m e ≡ Some items) × AllExist V items
    elem_held m e ty h =
        let a = named_elem m e ty h in
        let items = sound.elems m e a.0 a.1 in
        (items.0, ap (λ (o : Option ℕ). o >>= slice_get us.elems) a.1 ∙ items.1, items.2)

    data_held : (m d : ℕ) → d < (N m).datas → (bytes : List ℕ) × (V.bytes us m d ≡ Some bytes) × AreBytes bytes
    data_held m d lt =
        let a = named_data m d lt in
        let bytes = sound.datas m d a.0 a.1 in
        (bytes.0, ap (λ (o : Option ℕ). o >>= slice_get us.datas) a.1 ∙ bytes.1, bytes.2)

    types_held : Links L → HoldTypes V N us
    types_held links = record { globals = global_held links; tables = table_held; elems = elem_held; datas = data_held }

    -- ---- each change keeps a sound store

    keeps_globals : Links L → (m g : ℕ) (ty : GlobalType) (v : Value) → (N m).globals g ≡ Some ty → HasType V ty.value v
        → IsSoundStore L (V.set_global us m g v)
    keeps_globals links m g ty v e new =
        let named = named_global links m g ty e in
        record {
          globals = λ x b at. still_at (HasType V (run_global_type L x)) us.globals (global_address L m g) v (Some b) (λ p here there.
              let one : named.a ≡ p = (let w = sym named.numbered ∙ here in cc) in
              let other : b ≡ p = cc in
              let same = globals_are_distinct L named.run x p (named.address ∙ ap (λ k. Some k) one) (at ∙ ap (λ k. Some k) other) in
              subst (λ (y : RunGlobal). HasType V (run_global_type L y) v) same (subst (λ t. HasType V t v) (sym named.typed) new))
              (sound.globals x b at);
          tables = sound.tables;
          elems = sound.elems;
          datas = sound.datas;
        }

    pub keeps_tables : (at : Option ℕ) (x : TableInstance) → IsTable V x → IsSoundStore L (record us { tables = set_at us.tables at x })
    keeps_tables at x new = record {
      globals = sound.globals;
      tables = λ y b is. still_at (IsTable V) us.tables at x (Some b) (λ p here there. new) (sound.tables y b is);
      elems = sound.elems;
      datas = sound.datas;
    }

    keeps_elems : (m e : ℕ) → IsSoundStore L (V.drop_elem us m e)
    keeps_elems m e = record {
      globals = sound.globals;
      tables = sound.tables;
      elems = λ k i b is.
          still_at (AllExist V) us.elems (elem_address L m e) [] (Some b) (λ p here there. All-nil (ReferenceExists V)) (sound.elems k i b is);
      datas = sound.datas;
    }

    keeps_datas : (m d : ℕ) → IsSoundStore L (V.drop_data us m d)
    keeps_datas m d = record {
      globals = sound.globals;
      tables = sound.tables;
      elems = sound.elems;
      datas = λ k i b is. still_at AreBytes us.datas (data_address L m d) [] (Some b) (λ p here there. All-nil (λ n. n < 256)) (sound.datas k i b is);
    }

  pub set_view_typed : IsSet L.set → Links L → IsTypedView V N (IsSoundStore L)
  set_view_typed set links = record {
    types = types_same;
    functions = functions_typed set links;
    refers = refers_there set;
    tables = tables_typed set;
    code = code_typed set;
    holds = λ us sound. types_held us sound links;
    set_global = λ us m g ty v sound named new. keeps_globals us sound links m g ty v named new;
    set_table = λ us m t ty x sound named new. keeps_tables us sound (table_address L m t) x new;
    drop_elem = λ us m e ty sound named. keeps_elems us sound m e;
    drop_data = λ us m d sound lt. keeps_datas us sound m d;
  }
