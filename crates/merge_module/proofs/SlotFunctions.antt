-- The functions that have fresh slots: of a member they are its own, and outside the members they are host functions, or the loader's.
use Rattle.std.proofs.Common.{◌≡◌, ℕ, ◌+◌, ◌-◌, ◌<◌, Bool, true, false, ◌||◌, List, [], ◌∷◌, ◌++◌, length, map, Option, Some, None, refl, sym, ap, ◌∙◌, slice_get, subst, arith, cond, if◌then◌else◌, length-append}
use Rattle.std.specs.Prelude.{is_none, nat_lt, not}
use Rattle.std.specs.List.{All, list_any, filter, filter_map, cons_option}
use Rattle.std.proofs.lemmas.Bool.{and_parts, or_left, or_right, ltb-true, ltb-false}
use Rattle.std.proofs.lemmas.List.Elements.{All-nil, All-cons, All-head, All-tail, All-append, All-filter}
use Rattle.spec_reading.specs.wasm_form.declared.module.ExportDesc.{ExportDesc}
use Rattle.spec_reading.specs.wasm_form.declared.module.ExportDesc.TheVariants as desc
use Rattle.spec_reading.specs.wasm_form.declared.module.Import.{Import}
use Rattle.spec_reading.specs.wasm_form.declared.module.Export.{Export}
use Rattle.spec_reading.specs.wasm_form.declared.module.Module.{Module}
use Rattle.spec_reading.specs.wasm_form.declared.runtime.LoaderCall.TheVariants.{Dlopen, Dlsym, Dlclose, Dlerror}
use Rattle.spec_reading.specs.wasm_form.declared.runtime.LoaderCall.{LoaderCall}
use Rattle.spec_reading.specs.wasm_form.declared.runtime.Ref.{Ref}
use Rattle.spec_reading.specs.wasm_form.declared.runtime.Ref.TheVariants.{Own, Loader, Host, Stub}
use Rattle.spec_reading.specs.spec_binary.Options.{◌>>=◌}
use Rattle.std.proofs.lemmas.Option.{slice_get_past}
use Rattle.spec_reading.specs.spec_binary.Indices.{is_own, function_type}
use Rattle.spec_reading.specs.spec_binary.IndexSpaces.{imports_of, functions_in, imported_count, function_space}
use Rattle.spec_loading.proofs.of_spec_validation.Parts.{parts_fit}
use Rattle.spec_loading.specs.spec_linking.declared.fault.Kind.TheVariants as kind
use Rattle.spec_loading.specs.spec_linking.Orders.{is_among}
use Rattle.spec_loading.specs.spec_linking.Sets.{Member}
use Rattle.spec_loading.specs.spec_linking.Definitions.{reserved_names, is_one_of, own_only, own_global, Symbol, FunctionSymbol, DataSymbol, data_symbol, desc_symbol, export_symbol, function_in, defined_function, Definition, LoaderFunction, HeapBase, HeapEnd, MemberFunction, MemberData, HostFunction, WeakSymbol, Undefined, env_name}
use Rattle.spec_loading.proofs.of_spec_linking.Importing.{importing_length}
use Rattle.spec_loading.specs.spec_linking.Imports.{importing, ImportUse, SharedMemory, SharedTable, StackPointer, MemoryBase, TableBase, DataCell, SlotCell, EnvFunction, ModuleFunction, OtherUse, use_of}
use Rattle.spec_loading.specs.spec_linking.LinkedSets.{LinkedSet, wasm_of, function_ref, ref_with, definition, hosts_of, is_named, host_entry, host_ref}
use Rattle.spec_loading.specs.spec_linking.Slots.{same_ref, segment_slot, with_function, functions_with, defined_functions, fresh_in, fresh_of, outside_ref, outside_as, outside_of_import, outside_from, outside_refs, all_loaders, is_host_ref, first_refs, outside_slots}
use Rattle.spec_loading.proofs.of_spec_safety.Lookups.{went_on, got}
use Rattle.spec_loading.proofs.of_spec_safety.Spaces.{function_has_type}
use Rattle.spec_loading.specs.Members.{is_loader, loader_as, loader_from, uses_loader}
use Rattle.spec_loading.proofs.SlotWords.{position_within}
use Rattle.merge_module.proofs.SetMembers.{IsSound}
use Rattle.merge_module.proofs.References.{IsDefined}

-- ---- functions that a module defines under names are its own

abbrev pub IsOwnIn : Module → ℕ → Type 0
IsOwnIn wasm f = is_own wasm f ≡ true

only_own : (m : Module) (g own : ℕ) → own_only m g ≡ Some own → IsOwnIn m own
only_own m g own e = go (is_own m g) refl e
  where
    go : (b : Bool) → is_own m g ≡ b → (if b then Some g else None) ≡ Some own → IsOwnIn m own
    go true q h = (let same : g ≡ own = cc in subst (λ k. is_own m k ≡ true) same q)
    go false q h = absurd cc

no_place : (o : Option ℕ) (f : ℕ) → (o >>= λ place. Some (DataSymbol place)) ≡ Some (FunctionSymbol f) → ⊥
no_place None f e = cc
no_place (Some place) f e = cc

no_data : (b : Bool) (o : Option ℕ) (f : ℕ) → (if b then (o >>= λ place. Some (DataSymbol place)) else None) ≡ Some (FunctionSymbol f) → ⊥
no_data true o f e = no_place o f e
no_data false o f e = cc

desc_own : (m : Module) (d : ExportDesc) (f : ℕ) → desc_symbol m d ≡ Some (FunctionSymbol f) → IsOwnIn m f
desc_own m (desc.Func g) f e =
    let own = went_on (own_only m g) (λ own. Some (FunctionSymbol own)) (FunctionSymbol f) e in
    let same : own.0 ≡ f = (let h = own.2 in cc) in
    subst (IsOwnIn m) same (only_own m g own.0 own.1)
desc_own m (desc.Table n) f e = absurd cc
desc_own m (desc.Space n) f e = absurd cc
desc_own m (desc.Global g) f e =
    let d = went_on (own_global m g) data_symbol (FunctionSymbol f) e in
    absurd (no_data _ _ f d.2)

exported_own : (wasm : Module) (e : Export) (f : ℕ) → defined_function wasm e ≡ Some f → IsOwnIn wasm f
exported_own wasm e f q =
    let symbol = went_on (export_symbol wasm e) function_in f q in
    found symbol.0 symbol.1 symbol.2
  where
    unreserved : (b : Bool) (s : Symbol) → (if b then None else desc_symbol wasm e.desc) ≡ Some s → desc_symbol wasm e.desc ≡ Some s
    unreserved true s h = absurd cc
    unreserved false s h = h

    found : (s : Symbol) → export_symbol wasm e ≡ Some s → function_in s ≡ Some f → IsOwnIn wasm f
    found (FunctionSymbol g) h k =
        let same : g ≡ f = cc in
        subst (IsOwnIn wasm) same (desc_own wasm e.desc g (unreserved (is_one_of e.name reserved_names) (FunctionSymbol g) h))
    found (DataSymbol place) h k = absurd cc

added_own : (wasm : Module) (known : List ℕ) (o : Option ℕ) → ((f : ℕ) → o ≡ Some f → IsOwnIn wasm f) → All (IsOwnIn wasm) known → All (IsOwnIn wasm) (with_function known o)
added_own wasm known None own all = all
added_own wasm known (Some f) own all = go (is_among f known)
  where
    go : (b : Bool) → All (IsOwnIn wasm) (if b then known else known ++ f ∷ [])
    go true = all
    go false = All-append (IsOwnIn wasm) known (f ∷ []) all (All-cons (IsOwnIn wasm) f [] (own f refl) (All-nil (IsOwnIn wasm)))

exports_own : (wasm : Module) (known : List ℕ) (es : List Export) → All (IsOwnIn wasm) known → All (IsOwnIn wasm) (functions_with wasm known es)
exports_own wasm known [] all = all
exports_own wasm known (e ∷ es) all =
    exports_own wasm (with_function known (defined_function wasm e)) es (added_own wasm known (defined_function wasm e) (λ f q. exported_own wasm e f q) all)

-- those of a member that have fresh slots
pub fresh_own : (L : LinkedSet) (m : ℕ) (wasm : Module) → wasm_of L m ≡ Some wasm → All (IsOwnIn wasm) (fresh_of L m)
fresh_own L m wasm here =
    subst (λ (o : Option Module). All (IsOwnIn wasm) (fresh_in L m o)) (sym here)
    (All-filter (λ f. is_none (segment_slot L m f)) (IsOwnIn wasm) (defined_functions wasm) (exports_own wasm [] wasm.exports (All-nil (IsOwnIn wasm))))

unset : (b : Bool) → not b ≡ true → b ≡ false
unset true e = absurd cc
unset false e = refl

-- such a function has a body and a type
pub own_is_defined : (wasm : Module) → IsSound wasm → (f : ℕ) → IsOwnIn wasm f → IsDefined wasm f
own_is_defined wasm sound f own =
    let both = and_parts (not (nat_lt f (imported_count wasm))) (nat_lt f (length (function_space wasm))) own in
    let past = ltb-false f (imported_count wasm) (unset (nat_lt f (imported_count wasm)) both.0) in
    let lt = ltb-true f (length (function_space wasm)) both.1 in
    let many = length-append (imports_of functions_in wasm.imports) wasm.funcs in
    let bodies = sound.bodies in
    let c = got wasm.codes (f - imported_count wasm) (omega arith) in
    let ty = function_has_type wasm (parts_fit wasm sound.valid) f lt in
    record { past = past; code = c.0; at = c.1; ty = ty.0; typed = ty.1 }

-- so its number names it
pub own_named : (L : LinkedSet) (m f : ℕ) (wasm : Module) → wasm_of L m ≡ Some wasm → IsDefined wasm f → function_ref L m f ≡ Some (Own m f)
own_named L m f wasm here defined =
    let many = importing_length functions_in wasm.imports in
    let past = defined.past in
    let none : slice_get (importing functions_in wasm.imports) f ≡ None = slice_get_past (importing functions_in wasm.imports) f (omega arith) in
    ap (λ (o : Option Module). o >>= λ w. function_type w f >>= λ ty. ref_with L m f (slice_get (importing functions_in w.imports) f) (Own m f)) here
    ∙ rw (defined.typed, none) refl

-- ---- outside the members

-- one of so many host functions, or one of the loader, where these are used
abbrev pub IsOutside : ℕ → Bool → Ref → Type 0
IsOutside count used (Host e) = e < count
IsOutside count used (Loader which) = used ≡ true
IsOutside count used _ = ⊥

module _ (L : LinkedSet) where
  abbrev pub IsOutsideSet : Ref → Type 0
  IsOutsideSet = IsOutside (length (hosts_of L)) (uses_loader L)

  abbrev Used : Bool → Type 0
  Used b = b ≡ true → uses_loader L ≡ true

  host_below : (from name : List ℕ) (r : Ref) → host_ref L from name ≡ Some r → IsOutsideSet r
  host_below from name r e =
      let n = went_on (host_entry L from name) (λ k. Some (Host k)) r e in
      let lt = position_within (is_named from name) 0 (hosts_of L) n.0 n.1 in
      let same : Host n.0 ≡ r = (let h = n.2 in cc) in
      let below : IsOutsideSet (Host n.0) = omega arith in
      subst IsOutsideSet same below

  outside_below : (name : List ℕ) (d : Definition) (r : Ref) → outside_ref L name d ≡ Some r → Used (is_loader d) → IsOutsideSet r
  outside_below name (LoaderFunction call) r e used = (let same : Loader call ≡ r = cc in subst IsOutsideSet same (used refl))
  outside_below name HostFunction r e used = host_below env_name name r e
  outside_below name HeapBase r e used = absurd cc
  outside_below name HeapEnd r e used = absurd cc
  outside_below name (MemberFunction k g) r e used = absurd cc
  outside_below name (MemberData k place) r e used = absurd cc
  outside_below name WeakSymbol r e used = absurd cc
  outside_below name Undefined r e used = absurd cc

  import_below : (m : ℕ) (i : Import) (u : ImportUse) (r : Ref) → outside_as L m i u ≡ Some r → Used (loader_as L m i u) → IsOutsideSet r
  import_below m i SlotCell r e used = outside_below i.field (definition L m kind.Func i.field) r e used
  import_below m i SharedMemory r e used = absurd cc
  import_below m i SharedTable r e used = absurd cc
  import_below m i StackPointer r e used = absurd cc
  import_below m i MemoryBase r e used = absurd cc
  import_below m i TableBase r e used = absurd cc
  import_below m i DataCell r e used = absurd cc
  import_below m i (EnvFunction t) r e used = absurd cc
  import_below m i (ModuleFunction t) r e used = absurd cc
  import_below m i OtherUse r e used = absurd cc

  imports_below : (m : ℕ) (is : List Import) → Used (list_any (λ j. loader_as L m j (use_of j)) is) → All IsOutsideSet (filter_map (outside_of_import L m) is)
  imports_below m [] used = All-nil IsOutsideSet
  imports_below m (i ∷ is) used =
      let one = loader_as L m i (use_of i) in
      let rest = list_any (λ j. loader_as L m j (use_of j)) is in
      go (outside_of_import L m i) refl (λ h. used (or_left one rest h)) (imports_below m is (λ h. used (or_right one rest h)))
    where
      go : (o : Option Ref) → outside_of_import L m i ≡ o → Used (loader_as L m i (use_of i)) → All IsOutsideSet (filter_map (outside_of_import L m) is)
          → All IsOutsideSet (cons_option o (filter_map (outside_of_import L m) is))
      go None q here later = later
      go (Some r) q here later = All-cons IsOutsideSet r _ (import_below m i (use_of i) r q here) later

  members_below : (k : ℕ) (xs : List Member) → Used (loader_from L k xs) → All IsOutsideSet (outside_from L k xs)
  members_below k [] used = All-nil IsOutsideSet
  members_below k (x ∷ xs) used =
      let one = list_any (λ j. loader_as L k j (use_of j)) x.wasm.imports in
      let rest = loader_from L (k + 1) xs in
      All-append IsOutsideSet (filter_map (outside_of_import L k) x.wasm.imports) (outside_from L (k + 1) xs)
      (imports_below k x.wasm.imports (λ h. used (or_left one rest h))) (members_below (k + 1) xs (λ h. used (or_right one rest h)))

  -- a function of the loader is among them only where these are used
  listed_used : (call : LoaderCall) (rs : List Ref) → All IsOutsideSet rs → Used (list_any (same_ref (Loader call)) rs)
  listed_used call [] all e = absurd cc
  listed_used call (r ∷ rs) all e = go r (All-head IsOutsideSet r rs all) e (listed_used call rs (All-tail IsOutsideSet r rs all))
    where
      go : (r : Ref) → IsOutsideSet r → (same_ref (Loader call) r || list_any (same_ref (Loader call)) rs) ≡ true → Used (list_any (same_ref (Loader call)) rs) → uses_loader L ≡ true
      go (Host n) below h later = later h
      go (Own m f) below h later = absurd below
      go (Loader other) below h later = below
      go (Stub m f) below h later = absurd below

  first_below : (known rs : List Ref) → All IsOutsideSet rs → All IsOutsideSet (first_refs known rs)
  first_below known [] all = All-nil IsOutsideSet
  first_below known (r ∷ rs) all =
      go (list_any (same_ref r) known) (first_below known rs (All-tail IsOutsideSet r rs all)) (first_below (known ++ r ∷ []) rs (All-tail IsOutsideSet r rs all))
    where
      go : (b : Bool) → All IsOutsideSet (first_refs known rs) → All IsOutsideSet (first_refs (known ++ r ∷ []) rs)
          → All IsOutsideSet (if b then first_refs known rs else r ∷ first_refs (known ++ r ∷ []) rs)
      go true one other = one
      go false one other = All-cons IsOutsideSet r _ (All-head IsOutsideSet r rs all) other

  kept_below : (rs : List Ref) → All IsOutsideSet rs → (calls : List LoaderCall) → All IsOutsideSet (filter (λ r. list_any (same_ref r) rs) (map Loader calls))
  kept_below rs all [] = All-nil IsOutsideSet
  kept_below rs all (call ∷ calls) = go (list_any (same_ref (Loader call)) rs) refl (kept_below rs all calls)
    where
      go : (b : Bool) → list_any (same_ref (Loader call)) rs ≡ b → All IsOutsideSet (filter (λ r. list_any (same_ref r) rs) (map Loader calls))
          → All IsOutsideSet (cond b (Loader call ∷ filter (λ r. list_any (same_ref r) rs) (map Loader calls)) (filter (λ r. list_any (same_ref r) rs) (map Loader calls)))
      go true q later = All-cons IsOutsideSet (Loader call) _ (listed_used call rs all q) later
      go false q later = later

  -- the functions outside the members that have slots are host functions, or the loader's
  pub slots_outside : All IsOutsideSet (outside_slots L)
  slots_outside =
      let refs = members_below 0 L.set.members (λ h. h) in
      All-append IsOutsideSet (filter (λ r. list_any (same_ref r) (outside_refs L)) all_loaders) (first_refs [] (filter is_host_ref (outside_refs L)))
      (kept_below (outside_refs L) refs (Dlopen ∷ Dlsym ∷ Dlclose ∷ Dlerror ∷ []))
      (first_below [] (filter is_host_ref (outside_refs L)) (All-filter is_host_ref IsOutsideSet (outside_refs L) refs))
