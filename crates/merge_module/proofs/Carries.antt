-- What code of a member may name is in the merged module, by its number, with the type that it has in the member.
use Rattle.std.proofs.Common.{◌≡◌, ℕ, suc, ◌+◌, ◌-◌, ◌<◌, ◌≤◌, Bool, true, false, List, [], ◌∷◌, ◌++◌, length, map, slice_get, nat_lt, Option, Some, None, option_map, cond, refl, sym, ap, ◌∙◌, subst, arith, length-append, append-nil, if◌then◌else◌}
use Rattle.std.specs.Prelude.{not, unwrap_or}
use Rattle.std.specs.List.{position_from}
use Rattle.std.proofs.lemmas.Bool.{and_parts, ltb-true, ltb-false, lt-ltb}
use Rattle.std.proofs.lemmas.List.{length-map}
use Rattle.std.proofs.lemmas.Option.{slice_get-map, slice_get_within, slice_get_past}
use Rattle.spec_reading.specs.wasm_form.declared.types.ValType.TheVariants.{I32, FuncRef}
use Rattle.spec_reading.specs.wasm_form.declared.types.FuncType.{FuncType}
use Rattle.spec_reading.specs.wasm_form.declared.types.GlobalType.{GlobalType}
use Rattle.spec_reading.specs.wasm_form.declared.types.TableType.{TableType}
use Rattle.spec_reading.specs.wasm_form.declared.module.ImportDesc.TheVariants as imported
use Rattle.spec_reading.specs.wasm_form.declared.module.Import.{Import}
use Rattle.spec_reading.specs.wasm_form.declared.module.GlobalDef.{GlobalDef}
use Rattle.spec_reading.specs.wasm_form.declared.module.Elem.{Elem}
use Rattle.spec_reading.specs.wasm_form.declared.module.Module.{Module}
use Rattle.spec_reading.specs.wasm_form.declared.runtime.Ref.{Ref}
use Rattle.spec_reading.specs.wasm_form.declared.runtime.Ref.TheVariants.{Own, Loader, Host, Stub}
use Rattle.spec_reading.specs.spec_binary.Options.{◌>>=◌}
use Rattle.spec_reading.specs.spec_binary.SameTypes.{same_type}
use Rattle.spec_reading.specs.spec_binary.Indices.{Function, function_type, function_with}
use Rattle.spec_reading.specs.spec_binary.IndexSpaces.{imports_of, globals_in, tables_in, type_of_global, global_space, table_space}
use Rattle.spec_reading.proofs.of_spec_binary.Lists.{slice_get-append-left, slice_get-append-right}
use Rattle.spec_loading.specs.spec_runtime.Names.{HostName}
use Rattle.spec_loading.specs.spec_validation.Faults.{elem_of_table, item_type, type_of_elem}
use Rattle.spec_loading.specs.spec_runs.Systems.{only_if}
use Rattle.spec_loading.specs.spec_execution.Views.{View, loader_type, type_of}
use Rattle.spec_loading.specs.spec_execution.Instances.{global_value, segment_items}
use Rattle.spec_loading.specs.spec_execution.Segments.{opened_items}
use Rattle.spec_loading.specs.spec_execution.OneModule.{opened_parts}
use Rattle.spec_reading.specs.wasm_form.declared.module.ElemItems.{ElemItems}
use Rattle.spec_reading.specs.wasm_form.declared.module.ElemItems.TheVariants as elem_items
use Rattle.spec_loading.specs.spec_linking.declared.fault.Kind.TheVariants as kind
use Rattle.spec_loading.specs.spec_linking.declared.fault.LinkFault.TheVariants.{IllTyped}
use Rattle.spec_loading.specs.spec_linking.Sets.{Member}
use Rattle.spec_loading.specs.spec_linking.Imports.{ImportUse, SharedMemory, SharedTable, StackPointer, MemoryBase, TableBase, DataCell, SlotCell, EnvFunction, ModuleFunction, OtherUse, use_of, importing, is_i32_global}
use Rattle.spec_loading.specs.spec_linking.LinkedSets.{LinkedSet, wasm_of, definition, hosts_of, set_hosts, function_ref}
use Rattle.spec_loading.specs.spec_linking.Slots.{linked_plan, memory_base, table_base, is_shared_table, CellName, same_cell, cells_of, cell_value}
use Rattle.spec_loading.specs.spec_linking.Links.{unless, data_cell_fault, slot_cell_fault, fault_as}
use Rattle.spec_loading.proofs.of_spec_linking.Importing.{importing_length}
use Rattle.spec_loading.proofs.of_spec_linking.LinkedFacts.{holds_so, or_none, linked_member}
use Rattle.spec_loading.proofs.of_spec_safety.Lookups.{went_on, got}
use Rattle.spec_loading.specs.Addresses.{sum_before, item_address, globals_size, memory_base_address, table_base_address, cell_address, own_global_address, import_address, address_with, global_address, imported_tables, own_table_address, table_address}
use Rattle.spec_loading.specs.Members.{Store, uses_loader, counts_of, set_view, from_members, opening_store}
use Rattle.merge_match.specs.Renumbering.{Numbers, function}
use Rattle.merge_match.specs.Parts.{nowhere, number_of}
use Rattle.merge_match.specs.Carrying.{Extends}
use Rattle.merge_match.specs.Following.{trapping}
use Rattle.merge_match.proofs.Joined.{item_there, member_within}
use Rattle.merge_match.proofs.Lists.{length-slice_set}
use Rattle.merge_dl.specs.Words.{call_body}
use Rattle.merge_index.specs.Numbering.{function_number}
use Rattle.merge_module.specs.MergedModule.{finders_of, host_type_number, shared_table_type, renumbered_items, number_global, own_global, member_globals, guard_globals, merged_globals, merged_tables, passive_elem, outside_elem, declared_elem, merged_elems, passive_data, texts_segment}
use Rattle.merge_module.proofs.Known.{IsKnown}
use Rattle.merge_module.proofs.HostImports.{no_tables, no_globals}
use Rattle.merge_module.proofs.ImportedGlobals.{global_import}
use Rattle.merge_module.proofs.ImportedTables.{imported_table}
use Rattle.merge_module.proofs.References.{function_typed}
use Rattle.merge_module.proofs.MergedSpaces.{past_front, in_front}
use Rattle.merge_module.proofs.HostTypes.{host_typed}
use Rattle.merge_index.proofs.Counted.{few_bytes, few_of}
use Rattle.spec_reading.proofs.of_spec_binary.OneType.{one_type}
use Rattle.merge_module.proofs.Applied.{slot_elems, outside_number}
use Rattle.merge_module.proofs.OwnNumbers.{x}
use Rattle.merge_module.proofs.LoaderFunctions.{call_there}
use Rattle.merge_module.proofs.Opens.{N, X, M, has_parts}
use Rattle.merge_module.proofs.OpenedStore.{member_globals_fit, globals_many, elems_many}

-- ---- forms

-- an i32 that may be set or may not
i32_type : (may : Bool) (ty : GlobalType) → is_i32_global may (imported.Global ty) ≡ true → ty ≡ record { value = I32; mutable = may }
i32_type may ty e = go ty.mutable refl
  where
    unset : (b : Bool) → not b ≡ true → b ≡ false
    unset true q = absurd cc
    unset false q = refl

    value : ty.value ≡ I32
    value = one_type ty.value I32 (and_parts (same_type ty.value I32) _ e).0

    go : (b : Bool) → ty.mutable ≡ b → ty ≡ record { value = I32; mutable = may }
    go true q =
        let flag : may ≡ true = rw q at (and_parts (same_type ty.value I32) _ e).1 in
        let same : ty.mutable ≡ may = q ∙ sym flag in
        λ i. record { value = value i; mutable = same i }
    go false q =
        let flag : not may ≡ true = rw q at (and_parts (same_type ty.value I32) _ e).1 in
        let same : ty.mutable ≡ may = q ∙ sym (unset may flag) in
        λ i. record { value = value i; mutable = same i }

position_between : {A : Type 0} (test : A → Bool) (k : ℕ) (xs : List A) (n : ℕ) → position_from test k xs ≡ Some n → (k ≤ n) × (n < k + length xs)
position_between test k [] n e = absurd cc
position_between {A} test k (x ∷ xs) n e = go (test x) e (position_between test (k + 1) xs n)
  where
    go : (b : Bool) → cond b (Some k) (position_from test (k + 1) xs) ≡ Some n → (position_from test (k + 1) xs ≡ Some n → (k + 1 ≤ n) × (n < k + 1 + length xs)) → (k ≤ n) × (n < k + suc (length xs))
    go true h later = (let same : k ≡ n = cc in (omega arith, omega arith))
    go false h later = (let le = (later h).0 in let lt = (later h).1 in (omega arith, omega arith))

module _ (L : LinkedSet) (K : IsKnown L) (few : (linked_plan L).pages_max ≤ 16384) where
  abbrev V : View Store
  V = set_view L

  abbrev n : Numbers
  n = N L K few

  abbrev merged : Module
  merged = M L K few

  -- ---- functions

  pub ref_typed : (r : Ref) (ty : FuncType) → type_of V r ≡ Some ty → function_type merged (function_number L r) ≡ Some ty
  ref_typed (Host e) ty h =
      let k = went_on (set_hosts L e) (λ (k : HostName). Some k.ty) ty h in
      let same : k.0.ty ≡ ty = (let q = k.2 in cc) in
      host_typed L K n (X L K few) e k.0 k.1 ∙ ap Some same
  ref_typed (Own m f) ty h =
      let y = went_on (V.code m f) (λ (y : Function). Some y.ty) ty h in
      let same : y.0.ty ≡ ty = (let q = y.2 in cc) in
      function_typed merged (function_number L (Own m f)) (function n m y.0) ((has_parts L K few).functions m f ∙ ap (option_map (function n m)) y.1) ∙ ap Some same
  ref_typed (Stub m f) ty h =
      function_typed merged (function_number L (Stub m f)) (trapping ty) ((has_parts L K few).stubs m f ∙ ap (option_map trapping) h)
  ref_typed (Loader call) ty h = go (uses_loader L) refl h
    where
      go : (b : Bool) → uses_loader L ≡ b → only_if b (loader_type call) ≡ Some ty → function_type merged (function_number L (Loader call)) ≡ Some ty
      go true used is =
          let same : loader_type call ≡ ty = cc in
          function_typed merged (function_number L (Loader call)) (function_with (loader_type call) (call_body L (x L K.set) (finders_of L (x L K.set)) call)) (call_there L K.set used call).code ∙ ap Some same
      go false unused is = absurd cc

  -- a global of the module, past its imports, of which none is one
  pub global_at : (a : ℕ) (g : GlobalDef) → slice_get (merged_globals L n) a ≡ Some g → slice_get (global_space merged) a ≡ Some g.ty
  global_at a g e =
      ap (λ (l : List GlobalType). slice_get (l ++ map type_of_global (merged_globals L n)) a) (no_globals (host_type_number L) 0 (hosts_of L))
      ∙ slice_get-map type_of_global (merged_globals L n) a ∙ ap (option_map type_of_global) e

  module _ (m : ℕ) (member : Member) (at : slice_get L.set.members m ≡ Some member) where
    abbrev wasm : Module
    wasm = member.wasm

    here : wasm_of L m ≡ Some wasm
    here = ap (λ (o : Option Member). o >>= λ y. Some y.wasm) at

    pub function_carried : (f : ℕ) → Extends (function_type wasm f) (function_type merged (n.named m f))
    function_carried f ty e =
        let r = K.typed m f member ty at e in
        let is : function_ref L m f ≡ Some r.0 = r.1 in
        ap (λ (o : Option Ref). function_type merged (number_of (option_map (function_number L) o))) is ∙ ref_typed r.0 ty r.2

    pub type_carried : (t : ℕ) → slice_get merged.types (n.ty m t) ≡ slice_get wasm.types t
    type_carried t = (has_parts L K few).types m t ∙ ap (λ (o : Option Module). o >>= λ y. slice_get y.types t) here

    -- ---- globals

    joined_few : length (from_members (member_globals L n) 0 L.set.members ++ guard_globals L) ≤ nowhere
    joined_few = (let many = globals_many L K few in let all = length-map (merged_globals L n) (global_value merged) in omega arith)

    member_global : (i : ℕ) (g : GlobalDef) → slice_get (member_globals L n m wasm) i ≡ Some g → slice_get (global_space merged) (memory_base_address L m + i) ≡ Some g.ty
    member_global i g e =
        let fit = member_globals_fit L n m wasm in
        let lt = slice_get_within (member_globals L n m wasm) i g e in
        let place : memory_base_address L m + i ≡ suc (sum_before globals_size L.set.members m + i) = omega arith in
        global_at (memory_base_address L m + i) g
        (ap (slice_get (merged_globals L n)) place
        ∙ item_there (member_globals L n) globals_size (member_globals_fit L n) L.set.members (guard_globals L) joined_few m i wasm here (omega arith) ∙ e)

    -- an address of the store
    globals_there : (g : ℕ) → g < length (global_space wasm) → (a : ℕ) × (global_address L m g ≡ Some a)
    globals_there g lt =
        let counted : (set_view L).counts m ≡ counts_of (Some wasm) = ap counts_of here in
        let held = K.holds.globals m g (subst (λ c. g < c.globals) (sym counted) lt) in
        let a = went_on (global_address L m g) (slice_get (opening_store L).globals) held.0 held.1 in
        (a.0, a.1)

    cell_carried : (c : CellName) (a : ℕ) → cell_address L m wasm c ≡ Some a → slice_get (global_space merged) a ≡ Some (record { value = I32; mutable = true })
    cell_carried c a e =
        let between = position_between (same_cell c) (memory_base_address L m + 2) (cells_of wasm) a e in
        let le = between.0 in
        let lt = between.1 in
        let p = a - (memory_base_address L m + 2) in
        let found = got (cells_of wasm) p (omega arith) in
        let g = number_global true (cell_value L m found.0) in
        let cells = map (λ c. number_global true (cell_value L m c)) (cells_of wasm) in
        let there : slice_get (member_globals L n m wasm) (suc (suc p)) ≡ Some g =
        in_front cells (map (own_global L n m) wasm.globals) p g (slice_get-map (λ c. number_global true (cell_value L m c)) (cells_of wasm) p ∙ ap (option_map (λ c. number_global true (cell_value L m c))) found.1) in
        let place : memory_base_address L m + suc (suc p) ≡ a = omega arith in
        subst (λ k. slice_get (global_space merged) k ≡ Some (record { value = I32; mutable = true })) place (member_global (suc (suc p)) g there)

    import_carried : (i : Import) (ty : GlobalType) (a : ℕ) → i.desc ≡ imported.Global ty → (u : ImportUse) → use_of i ≡ u → fault_as L m wasm i u ≡ None
        → import_address L m wasm i u ≡ Some a → slice_get (global_space merged) a ≡ Some ty
    import_carried i ty a d StackPointer q free e =
        let so = holds_so (is_i32_global true i.desc) (IllTyped m kind.Other i.field) free in
        let is = i32_type true ty (subst (λ k. is_i32_global true k ≡ true) d so) in
        let zero_is : 0 ≡ a = cc in
        subst (λ k. slice_get (global_space merged) k ≡ Some ty) zero_is (global_at 0 (number_global true (linked_plan L).stack_top) refl ∙ ap Some (sym is))
    import_carried i ty a d MemoryBase q free e =
        let so = holds_so (is_i32_global false i.desc) (IllTyped m kind.Other i.field) free in
        let is = i32_type false ty (subst (λ k. is_i32_global false k ≡ true) d so) in
        let same : memory_base_address L m ≡ a = cc in
        let place : memory_base_address L m + 0 ≡ a = omega arith in
        subst (λ k. slice_get (global_space merged) k ≡ Some ty) place (member_global 0 (number_global false (unwrap_or (memory_base L m) 0)) refl ∙ ap Some (sym is))
    import_carried i ty a d TableBase q free e =
        let so = holds_so (is_i32_global false i.desc) (IllTyped m kind.Other i.field) free in
        let is = i32_type false ty (subst (λ k. is_i32_global false k ≡ true) d so) in
        let same : table_base_address L m ≡ a = cc in
        let place : memory_base_address L m + 1 ≡ a = omega arith in
        subst (λ k. slice_get (global_space merged) k ≡ Some ty) place (member_global 1 (number_global false (unwrap_or (table_base L m) 0)) refl ∙ ap Some (sym is))
    import_carried i ty a d DataCell q free e =
        let form = (or_none (unless (is_i32_global true i.desc) (IllTyped m kind.Mem i.field)) (data_cell_fault m i.field (definition L m kind.Mem i.field)) free).0 in
        let so = holds_so (is_i32_global true i.desc) (IllTyped m kind.Mem i.field) form in
        let is = i32_type true ty (subst (λ k. is_i32_global true k ≡ true) d so) in
        cell_carried (kind.Mem, i.field) a e ∙ ap Some (sym is)
    import_carried i ty a d SlotCell q free e =
        let form = (or_none (unless (is_i32_global true i.desc) (IllTyped m kind.Func i.field)) (slot_cell_fault m i.field (definition L m kind.Func i.field)) free).0 in
        let so = holds_so (is_i32_global true i.desc) (IllTyped m kind.Func i.field) form in
        let is = i32_type true ty (subst (λ k. is_i32_global true k ≡ true) d so) in
        cell_carried (kind.Func, i.field) a e ∙ ap Some (sym is)
    import_carried i ty a d SharedMemory q free e = absurd cc
    import_carried i ty a d SharedTable q free e = absurd cc
    import_carried i ty a d (EnvFunction t) q free e = absurd cc
    import_carried i ty a d (ModuleFunction t) q free e = absurd cc
    import_carried i ty a d OtherUse q free e = absurd cc

    address_is : (g : ℕ) (o : Option Import) → slice_get (importing globals_in wasm.imports) g ≡ o → global_address L m g ≡ address_with L m wasm g o
    address_is g o q =
        ap (λ (w : Option Module). w >>= λ y. address_with L m y g (slice_get (importing globals_in y.imports) g)) here ∙ ap (address_with L m wasm g) q

    own_carried : (k a : ℕ) (g : GlobalDef) → slice_get wasm.globals k ≡ Some g → own_global_address L m wasm k ≡ Some a → slice_get (global_space merged) a ≡ Some g.ty
    own_carried k a g e h =
        let lt = slice_get_within wasm.globals k g e in
        let cells = map (λ c. number_global true (cell_value L m c)) (cells_of wasm) in
        let many = length-map (cells_of wasm) (λ c. number_global true (cell_value L m c)) in
        let is : memory_base_address L m + 2 + length (cells_of wasm) + k ≡ a = (let q : own_global_address L m wasm k ≡ Some (memory_base_address L m + 2 + length (cells_of wasm) + k) = rw (lt-ltb k (length wasm.globals) lt) refl in cc) in
        let there : slice_get (member_globals L n m wasm) (suc (suc (length cells + k))) ≡ Some (own_global L n m g) =
        past_front cells (map (own_global L n m) wasm.globals) k ∙ slice_get-map (own_global L n m) wasm.globals k ∙ ap (option_map (own_global L n m)) e in
        let place : memory_base_address L m + suc (suc (length cells + k)) ≡ a = omega arith in
        subst (λ j. slice_get (global_space merged) j ≡ Some g.ty) place (member_global (suc (suc (length cells + k))) (own_global L n m g) there)

    pub global_carried : (g : ℕ) → Extends (slice_get (global_space wasm) g) (slice_get (global_space merged) (n.global m g))
    global_carried g ty e =
        let a = globals_there g (slice_get_within (global_space wasm) g ty e) in
        ap (λ (o : Option ℕ). slice_get (global_space merged) (number_of o)) a.1 ∙ go (nat_lt g (length (imports_of globals_in wasm.imports))) refl a.0 a.1
      where
        own : (a : ℕ) → length (imports_of globals_in wasm.imports) ≤ g → global_address L m g ≡ Some a → slice_get (global_space merged) a ≡ Some ty
        own a le h =
            let k = g - length (imports_of globals_in wasm.imports) in
            let many = importing_length globals_in wasm.imports in
            let past : slice_get (importing globals_in wasm.imports) g ≡ None = slice_get_past (importing globals_in wasm.imports) g (omega arith) in
            let named : slice_get (map type_of_global wasm.globals) k ≡ Some ty = sym (slice_get-append-right (imports_of globals_in wasm.imports) (map type_of_global wasm.globals) g le) ∙ e in
            let found = mapped type_of_global (slice_get wasm.globals k) ty (sym (slice_get-map type_of_global wasm.globals k) ∙ named) in
            own_carried k a found.0 found.1 (sym (address_is g None past) ∙ h) ∙ ap Some found.2
          where
            mapped : {A B : Type 0} (f : A → B) (o : Option A) (b : B) → option_map f o ≡ Some b → (a : A) × (o ≡ Some a) × (f a ≡ b)
            mapped f None b q = absurd cc
            mapped f (Some a) b q = (a, refl, cc)

        imports : (a : ℕ) → g < length (imports_of globals_in wasm.imports) → global_address L m g ≡ Some a → slice_get (global_space merged) a ≡ Some ty
        imports a lt h =
            let named : slice_get (imports_of globals_in wasm.imports) g ≡ Some ty = sym (slice_get-append-left (imports_of globals_in wasm.imports) (map type_of_global wasm.globals) g lt) ∙ e in
            let i = global_import wasm.imports g ty named in
            let free = (linked_member L m member K.links at).imports i.place i.«import» i.at in
            import_carried i.«import» ty a i.desc (use_of i.«import») refl free (sym (address_is g (Some i.«import») i.numbered) ∙ h)

        go : (b : Bool) → nat_lt g (length (imports_of globals_in wasm.imports)) ≡ b → (a : ℕ) → global_address L m g ≡ Some a → slice_get (global_space merged) a ≡ Some ty
        go true q a h = imports a (ltb-true g (length (imports_of globals_in wasm.imports)) q) h
        go false q a h = own a (ltb-false g (length (imports_of globals_in wasm.imports)) q) h

    -- ---- tables

    pub table_at : (a : ℕ) (ty : TableType) → slice_get (merged_tables L) a ≡ Some ty → slice_get (table_space merged) a ≡ Some ty
    table_at a ty e = ap (λ (l : List TableType). slice_get (l ++ merged_tables L) a) (no_tables (host_type_number L) 0 (hosts_of L)) ∙ e

    tables_few : length (from_members (λ k (w : Module). w.tables) 0 L.set.members ++ []) ≤ nowhere
    tables_few =
        let all = few_of L K.set (λ k w. w.tables) (λ k y is. (let all = is.all in omega arith)) in
        let bytes = few_bytes L K.set in
        omega (arith, length-append (from_members (λ k (w : Module). w.tables) 0 L.set.members) [])

    own_table : (k : ℕ) (ty : TableType) → slice_get wasm.tables k ≡ Some ty → slice_get (table_space merged) (suc (sum_before (λ y. length y.tables) L.set.members m + k)) ≡ Some ty
    own_table k ty e =
        table_at (suc (sum_before (λ y. length y.tables) L.set.members m + k)) ty
        (ap (λ l. slice_get l (sum_before (λ y. length y.tables) L.set.members m + k)) (sym (append-nil (from_members (λ k (w : Module). w.tables) 0 L.set.members)))
        ∙ item_there (λ k w. w.tables) (λ y. length y.tables) (λ k w. refl) L.set.members [] tables_few m k wasm here (slice_get_within wasm.tables k ty e) ∙ e)

    pub table_carried : (t : ℕ) → Extends (slice_get (table_space wasm) t >>= elem_of_table) (slice_get (table_space merged) (n.table m t) >>= elem_of_table)
    table_carried t v e =
        let ty = went_on (slice_get (table_space wasm) t) elem_of_table v e in
        let is : table_address L m t ≡ (if is_shared_table wasm t then Some 0 else own_table_address L m wasm (t - imported_tables wasm)) =
        ap (λ (w : Option Module). w >>= λ y. if is_shared_table y t then Some 0 else own_table_address L m y (t - imported_tables y)) here in
        go (is_shared_table wasm t) refl ty.0 ty.1 ty.2 is
      where
        go : (b : Bool) → is_shared_table wasm t ≡ b → (ty : TableType) → slice_get (table_space wasm) t ≡ Some ty → elem_of_table ty ≡ Some v
            → table_address L m t ≡ (if b then Some 0 else own_table_address L m wasm (t - imported_tables wasm)) → (slice_get (table_space merged) (number_of (table_address L m t)) >>= elem_of_table) ≡ Some v
        go true q ty h g is =
            let lt = ltb-true t (imported_tables wasm) q in
            let named : slice_get (imports_of tables_in wasm.imports) t ≡ Some ty = sym (slice_get-append-left (imports_of tables_in wasm.imports) wasm.tables t lt) ∙ h in
            let form = one_type ty.elem FuncRef (imported_table L K.links m member at t ty named) in
            let value : FuncRef ≡ v = (let k : ty.elem ≡ v = cc in sym form ∙ k) in
            ap (λ (o : Option ℕ). slice_get (table_space merged) (number_of o) >>= elem_of_table) is ∙ ap (λ (o : Option TableType). o >>= elem_of_table) (table_at 0 (shared_table_type L) refl) ∙ ap Some value
        go false q ty h g is =
            let le = ltb-false t (imported_tables wasm) q in
            let k = t - imported_tables wasm in
            let named : slice_get wasm.tables k ≡ Some ty = sym (slice_get-append-right (imports_of tables_in wasm.imports) wasm.tables t le) ∙ h in
            let lt = slice_get_within wasm.tables k ty named in
            let address : own_table_address L m wasm k ≡ Some (suc (sum_before (λ y. length y.tables) L.set.members m + k)) = rw (lt-ltb k (length wasm.tables) lt) (ap Some (omega arith)) in
            ap (λ (o : Option ℕ). slice_get (table_space merged) (number_of o) >>= elem_of_table) (is ∙ address) ∙ ap (λ (o : Option TableType). o >>= elem_of_table) (own_table k ty named) ∙ g

    -- ---- segments

    elems_few : length (merged_elems L n) ≤ nowhere
    elems_few = (let many = elems_many L K few in let one = length-slice_set (opened_parts merged).elems (outside_number L n) [] in let all = length-map (merged_elems L n) (opened_items (segment_items merged)) in omega arith)

    pub elem_carried : (e : ℕ) → Extends (slice_get wasm.elems e >>= type_of_elem) (slice_get merged.elems (n.elem m e) >>= type_of_elem)
    elem_carried e v h =
        let s = went_on (slice_get wasm.elems e) type_of_elem v h in
        let lt = slice_get_within wasm.elems e s.0 s.1 in
        let number : n.elem m e ≡ sum_before (λ y. length y.elems) L.set.members m + e =
        ap (λ (o : Option Module). number_of (o >>= λ y. item_address (sum_before (λ y. length y.elems) L.set.members m) (length y.elems) e)) here ∙ rw (lt-ltb e (length wasm.elems) lt) refl in
        let there : slice_get merged.elems (n.elem m e) ≡ Some (passive_elem n m s.0) =
        ap (slice_get merged.elems) number
        ∙ item_there (λ k w. map (passive_elem n k) w.elems) (λ y. length y.elems) (λ k w. length-map w.elems (passive_elem n k)) L.set.members (slot_elems L n ++ outside_elem L n ∷ declared_elem L n ∷ []) elems_few m e wasm here lt
        ∙ slice_get-map (passive_elem n m) wasm.elems e ∙ ap (option_map (passive_elem n m)) s.1 in
        ap (λ (o : Option Elem). o >>= type_of_elem) there ∙ ap Some (item_kept s.0.items) ∙ s.2
      where
        item_kept : (items : ElemItems) → item_type (renumbered_items n m items) ≡ item_type items
        item_kept (elem_items.Funcs fs) = refl
        item_kept (elem_items.Exprs ty es) = refl

    pub data_carried : (d : ℕ) → nat_lt d (length wasm.datas) ≡ true → nat_lt (n.segment m d) (length merged.datas) ≡ true
    data_carried d h =
        let lt = ltb-true d (length wasm.datas) h in
        let number : n.segment m d ≡ sum_before (λ y. length y.datas) L.set.members m + d =
        ap (λ (o : Option Module). number_of (o >>= λ y. item_address (sum_before (λ y. length y.datas) L.set.members m) (length y.datas) d)) here ∙ rw (lt-ltb d (length wasm.datas) lt) refl in
        let within = member_within (λ k w. map passive_data w.datas) (λ y. length y.datas) (λ k w. length-map w.datas passive_data) 0 L.set.members m wasm here in
        let both = length-append (from_members (λ k w. map passive_data w.datas) 0 L.set.members) (texts_segment L ∷ []) in
        lt-ltb (n.segment m d) (length merged.datas) (omega arith)
