-- The merged module is valid.
use Rattle.std.proofs.Common.{◌≡◌, ◌≤◌, ℕ, zero, suc, ◌+◌, ◌*◌, Bool, true, false, List, [], ◌∷◌, ◌++◌, length, map, replicate, slice_get, nat_le, Option, Some, None, refl, sym, ap, ◌∙◌, subst, arith, if◌then◌else◌}
use Rattle.std.specs.Prelude.{unwrap_or, IsTrue}
use Rattle.std.specs.List.{All, list_all, flat_map, range_with_len}
use Rattle.std.proofs.lemmas.Bool.{and_parts, and_from, lt-ltb, ltb-true, le-leb}
use Rattle.std.proofs.lemmas.List.Elements.{All-nil, All-cons, All-head, All-tail, All-append}
use Rattle.std.proofs.lemmas.Option.{slice_get_within}
use denote.Hole.Carrier.{out}
use Rattle.spec_reading.specs.wasm_form.declared.types.ValType.{ValType}
use Rattle.spec_reading.specs.wasm_form.declared.types.ValType.TheVariants.{I32, I64, F32, F64, FuncRef, ExternRef}
use Rattle.spec_reading.specs.wasm_form.declared.types.FuncType.{FuncType}
use Rattle.spec_reading.specs.wasm_form.declared.types.TableType.{TableType}
use Rattle.spec_reading.specs.wasm_form.declared.types.GlobalType.{GlobalType}
use Rattle.spec_reading.specs.wasm_form.declared.instr.Instr.{Instr, out-Instr}
use Rattle.spec_reading.specs.wasm_form.declared.instr.Instr.TheOpen as Open
use Rattle.spec_reading.specs.wasm_form.declared.instr.Expr.{Expr}
use Rattle.spec_reading.specs.wasm_form.declared.module.ImportDesc.{ImportDesc}
use Rattle.spec_reading.specs.wasm_form.declared.module.ImportDesc.TheVariants as imported
use Rattle.spec_reading.specs.wasm_form.declared.module.Import.{Import}
use Rattle.spec_reading.specs.wasm_form.declared.module.GlobalDef.{GlobalDef}
use Rattle.spec_reading.specs.wasm_form.declared.module.ExportDesc.{ExportDesc}
use Rattle.spec_reading.specs.wasm_form.declared.module.ExportDesc.TheVariants as exported
use Rattle.spec_reading.specs.wasm_form.declared.module.Export.{Export}
use Rattle.spec_reading.specs.wasm_form.declared.module.ElemMode.{ElemMode}
use Rattle.spec_reading.specs.wasm_form.declared.module.ElemMode.TheVariants as elem_mode
use Rattle.spec_reading.specs.wasm_form.declared.module.ElemItems.{ElemItems}
use Rattle.spec_reading.specs.wasm_form.declared.module.ElemItems.TheVariants as elem_items
use Rattle.spec_reading.specs.wasm_form.declared.module.Elem.{Elem}
use Rattle.spec_reading.specs.wasm_form.declared.module.Module.{Module}
use Rattle.spec_reading.specs.wasm_form.declared.runtime.Ref.{Ref}
use Rattle.spec_reading.specs.wasm_form.declared.runtime.Ref.TheVariants.{Own, Loader, Host, Stub}
use Rattle.spec_reading.specs.wasm_form.declared.index.IndexForm.{IndexForm}
use Rattle.spec_reading.specs.wasm_form.declared.index.IndexForm.TheVariants as index
use Rattle.spec_reading.specs.wasm_form.Index.{index_form}
use Rattle.spec_reading.specs.wasm_form.declared.runtime.Value.{Value}
use Rattle.spec_reading.specs.wasm_form.declared.runtime.Value.TheVariants.{Num, Func}
use Rattle.spec_reading.specs.spec_binary.Options.{◌>>=◌}
use Rattle.spec_reading.specs.spec_binary.SameTypes.{same_type}
use Rattle.spec_reading.specs.spec_binary.Indices.{nullary, function_type}
use Rattle.spec_reading.specs.spec_binary.IndexSpaces.{imports_of, functions_in, globals_in, function_space, imported_count, table_space}
use Rattle.spec_loading.specs.spec_runtime.Names.{HostName}
use Rattle.spec_loading.specs.spec_validation.Faults.{is_supported, is_function_supported, type_supported, desc_supported, item_type, is_type, most_entries, table_bounded, memory_bounded, is_function, immutable, constant_step, is_constant, global_fits, is_there, export_fits, elem_mode_fits, items_fit, elem_fits, body_supported, data_fits, fault}
use Rattle.spec_loading.specs.spec_binary.Counted.{after_step, left}
use Rattle.spec_loading.specs.spec_validation.Counted.{PutsOne, kind_of, step_at, step_of}
use Rattle.spec_loading.proofs.of_spec_binary.OneType.{itself}
use Rattle.spec_loading.proofs.of_spec_validation.Constants.{counts_constant, reference_alone}
use Rattle.spec_loading.proofs.of_spec_validation.Parts.{parts_fit}
use Rattle.spec_loading.specs.spec_execution.Instances.{module_target, function_named}
use Rattle.spec_loading.specs.spec_linking.Sets.{Member}
use Rattle.spec_loading.specs.spec_linking.Gathering.{IsMember}
use Rattle.spec_loading.specs.spec_linking.LinkedSets.{LinkedSet, wasm_of, hosts_of, function_ref}
use Rattle.spec_loading.specs.spec_linking.Slots.{linked_plan, memory_base, table_base, cells_of, cell_value, fresh_of, outside_slots, table_entries, table_most}
use Rattle.spec_loading.proofs.of_spec_linking.LinkedFacts.{linked_limits}
use Rattle.spec_loading.proofs.of_spec_safety.Lookups.{went_on, got, holds_at}
use Rattle.spec_loading.specs.Members.{uses_loader, from_members, opened_global}
use Rattle.merge_match.specs.Renumbering.{Numbers, index_in, renumbered, instr, expr, reference}
use Rattle.merge_match.specs.Joined.{renumbered_code}
use Rattle.merge_match.proofs.OneLevel.{inside as with_numbers, out_instr}
use Rattle.merge_start.specs.Words.{Starts, number}
use Rattle.merge_start.specs.Typed.{GeneratedIsTyped}
use Rattle.merge_dl.specs.Words.{handle_type, unary_type, binary_type, search_type}
use Rattle.merge_dl.specs.Typed.{LoaderIsTyped}
use Rattle.merge_index.specs.Numbering.{is_stub, stubs_of}
use Rattle.merge_module.specs.MergedModule.{with_loader, nullary_number, handle_number, unary_number, binary_number, search_number, host_type_number, host_imports, stub_types, loader_funcs, generated_types, stub_codes, shared_table_type, number_expr, number_global, constant_instr, own_global, member_globals, guard_globals, passive_mode, renumbered_items, passive_elem, slots_elem, outside_elem, declared_elem, named_functions, exported_functions, passive_data, texts_segment, zero_globals, loader_globals}
use Rattle.merge_module.proofs.Known.{IsKnown}
use Rattle.merge_module.proofs.WithLoader.{with_all}
use Rattle.merge_module.proofs.LoaderFunctions.{handle_there, unary_there, binary_there, search_there}
use Rattle.merge_module.proofs.HostImports.{HasTypes, first_type, later_types, no_tables}
use Rattle.merge_module.proofs.SetMembers.{is_sound}
use Rattle.spec_loading.proofs.SlotWords.{table_within}
use Rattle.spec_loading.proofs.PlannedWords.{entries_within}
use Rattle.merge_module.proofs.References.{stub_there}
use Rattle.merge_module.proofs.MergedSpaces.{nullary_there, generated_codes}
use Rattle.merge_module.proofs.HostTypes.{host_types}
use Rattle.merge_module.proofs.Generated.{entry_typed}
use Rattle.merge_module.proofs.GlobalValues.{base_is_number, IsNamed, IsValue, opened_is}
use Rattle.merge_module.proofs.SpelledConstants.{Fit, constants_fit}
use Rattle.merge_index.proofs.FewItems.{member_spelled}
use Rattle.merge_module.proofs.SlotFunctions.{IsOwnIn, fresh_own, IsOutsideSet, slots_outside}
use Rattle.merge_module.proofs.Applied.{outside_at}
use Rattle.merge_module.proofs.Opens.{N, X, M, named_target, outside_target}
use Rattle.merge_module.proofs.OpenedStore.{own_target}
use Rattle.merge_module.proofs.Carries.{type_carried}
use Rattle.merge_module.proofs.Refers.{function_too}
use Rattle.merge_module.proofs.ValidBodies.{memory_is, mapped_there, filter_holds}
use Rattle.merge_module.proofs.ValidLoader.{bodies_none}
use Rattle.merge_module.proofs.SupportedCode.{body_kept}
use Rattle.merge_module.proofs.GeneratedBodies.{stubs_all, generated_all}
use Rattle.merge_find.specs.Shape.{SearchIsSmall}
use Rattle.merge_module.proofs.Faultless.{all_pass, pass_all, all_both, all_mapped, all_of, ImportFits, TypeFits, GlobalFits, ElemFits, SupportedBody, TableFits, fits_valid, IsSupported, valid_supported}

-- ---- lists

all_by : {A : Type 0} (P : A → Type 0) (xs : List A) → ((i : ℕ) (x : A) → slice_get xs i ≡ Some x → P x) → All P xs
all_by P [] each = All-nil P
all_by P (x ∷ xs) each = All-cons P x xs (each 0 x refl) (all_by P xs (λ i y at. each (suc i) y at))

all_repeated : {A : Type 0} (P : A → Type 0) (k : ℕ) (a : A) → P a → All P (replicate k a)
all_repeated P zero a p = All-nil P
all_repeated P (suc k) a p = All-cons P a (replicate k a) p (all_repeated P k a p)

-- ---- types

supported_at : (m : Module) (t : ℕ) (ty : FuncType) → slice_get m.types t ≡ Some ty → is_function_supported ty ≡ true → type_supported m t ≡ true
supported_at m t ty e s = rw e s

supported_past : (m : Module) (t : ℕ) → slice_get m.types t ≡ None → type_supported m t ≡ true
supported_past m t e = rw e refl

supported_type : (m : Module) (t : ℕ) (ty : FuncType) → slice_get m.types t ≡ Some ty → type_supported m t ≡ true → is_function_supported ty ≡ true
supported_type m t ty e s = rw e at s

is_type_at : (m : Module) (t : ℕ) (ty : FuncType) → slice_get m.types t ≡ Some ty → is_type m t ≡ true
is_type_at m t ty e = lt-ltb t (length m.types) (slice_get_within m.types t ty e)

function_is : (m : Module) (f : ℕ) (ty : FuncType) → function_type m f ≡ Some ty → is_function m f ≡ true
function_is m f ty e =
    let t = went_on (slice_get (function_space m) f) (slice_get m.types) ty e in
    lt-ltb f (length (function_space m)) (slice_get_within (function_space m) f t.0 t.1)

target_is : (m : Module) (f : ℕ) (r : Ref) → module_target m f ≡ Some r → is_function m f ≡ true
target_is m f r e = (let ty = went_on (function_type m f) (λ ty. Some (function_named m f)) r e in function_is m f ty.0 ty.1)

-- ---- constants

-- an instruction that puts a value of the type on the stack is a constant expression
alone_constant : (m : Module) (t : ValType) (e : Expr) (i : Instr) → e.list ≡ i ∷ [] → constant_step m (out-Instr i) ≡ Some t → is_constant m t e ≡ true
alone_constant m t e i q h = counts_constant m t e (ap (λ l. left (step_of m t) l 0) q ∙ go (out-Instr i) h)
  where
    one : (after_step (step_at t (Some (PutsOne t))) 0 >>= left (step_of m t) []) ≡ Some 1
    one = rw (itself t) refl

    go : (x : Open.Instr-F Instr Expr) → constant_step m x ≡ Some t → (after_step (step_at t (kind_of m x)) 0 >>= left (step_of m t) []) ≡ Some 1
    go (Open.Plain op) h = absurd cc
    go x h = ap (λ (o : Option ValType). after_step (step_at t (o >>= λ u. Some (PutsOne u))) 0 >>= left (step_of m t) []) h ∙ one

alone : (m : Module) (t : ValType) (i : Instr) → constant_step m (out-Instr i) ≡ Some t → is_constant m t (record { list = i ∷ [] }) ≡ true
alone m t i h = alone_constant m t (record { list = i ∷ [] }) i refl h

number_constant : (m : Module) (k : ℕ) → is_constant m I32 (number_expr k) ≡ true
unfolding out-Instr out
number_constant m k = alone m I32 (number k) refl

value_constant : (m : Module) (L : LinkedSet) (n : Numbers) → ((r : Ref) → IsNamed L r → is_function m (n.function r) ≡ true) → (t : ValType) (v : Value) → IsValue L t v
    → is_constant m t (record { list = constant_instr n t v ∷ [] }) ≡ true
unfolding out-Instr out
value_constant m L n there I32 (Num k) is = alone m I32 (constant_instr n I32 (Num k)) refl
value_constant m L n there I64 (Num k) is = alone m I64 (constant_instr n I64 (Num k)) refl
value_constant m L n there FuncRef (Func None) is = alone m FuncRef (constant_instr n FuncRef (Func None)) refl
value_constant m L n there FuncRef (Func (Some r)) is = alone m FuncRef (constant_instr n FuncRef (Func (Some r))) (rw (there r is) refl)
value_constant m L n there I32 (Func r) is = absurd is
value_constant m L n there I64 (Func r) is = absurd is
value_constant m L n there FuncRef (Num k) is = absurd is
value_constant m L n there F32 v is = absurd is
value_constant m L n there F64 v is = absurd is
value_constant m L n there ExternRef v is = absurd is

module _ (L : LinkedSet) (K : IsKnown L) (few : (linked_plan L).pages_max ≤ 16384) where
  abbrev n : Numbers
  n = N L K few

  abbrev x : Starts
  x = X L K few

  abbrev merged : Module
  merged = M L K few

  abbrev members : List Member
  members = L.set.members

  named_there : (r : Ref) → IsNamed L r → is_function merged (n.function r) ≡ true
  named_there r named = target_is merged (n.function r) (reference n r) (named_target L K few r named)

  -- ---- imports

  hosts_fit : (t : ℕ → FuncType → ℕ) (e : ℕ) (hs : List HostName) → HasTypes merged t e hs
      → All (λ (h : HostName). IsTrue (is_function_supported h.ty)) hs → All (ImportFits merged) (host_imports t e hs)
  hosts_fit t e [] types all = All-nil (ImportFits merged)
  hosts_fit t e (h ∷ hs) types all =
      let first = first_type merged t e h hs types in
      let supported = All-head (λ (h : HostName). IsTrue (is_function_supported h.ty)) h hs all in
      All-cons (ImportFits merged) _ (host_imports t (e + 1) hs)
      (supported_at merged (t e h.ty) h.ty first supported, is_type_at merged (t e h.ty) h.ty first)
      (hosts_fit t (e + 1) hs (later_types merged t e h hs types) (All-tail (λ (h : HostName). IsTrue (is_function_supported h.ty)) h hs all))

  -- ---- one member

  module _ (m : ℕ) (member : Member) (at : slice_get members m ≡ Some member) where
    abbrev wasm : Module
    wasm = member.wasm

    here : wasm_of L m ≡ Some wasm
    here = ap (λ (o : Option Member). o >>= λ y. Some y.wasm) at

    valid : fault wasm ≡ None
    valid = (is_sound L m wasm K.set here).valid

    supported : IsSupported wasm
    supported = valid_supported wasm valid

    type_too : (t : ℕ) → type_supported wasm t ≡ true → type_supported merged (n.ty m t) ≡ true
    type_too t s = go (slice_get wasm.types t) refl
      where
        go : (o : Option FuncType) → slice_get wasm.types t ≡ o → type_supported merged (n.ty m t) ≡ true
        go None q = supported_past merged (n.ty m t) (type_carried L K few m member at t ∙ q)
        go (Some ty) q = supported_at merged (n.ty m t) ty (type_carried L K few m member at t ∙ q) (supported_type wasm t ty q s)

    type_fits : (t : ℕ) → type_supported wasm t ≡ true → is_type wasm t ≡ true → TypeFits merged (n.ty m t)
    type_fits t s is =
        let ty = got wasm.types t (ltb-true t (length wasm.types) is) in
        (type_too t s, is_type_at merged (n.ty m t) ty.0 (type_carried L K few m member at t ∙ ty.1))

    funcs_fit : All (TypeFits merged) (map (n.ty m) wasm.funcs)
    funcs_fit =
        all_mapped (λ t. (type_supported wasm t ≡ true) × (is_type wasm t ≡ true)) (TypeFits merged) (n.ty m) (λ t h. type_fits t h.0 h.1) wasm.funcs
        (all_both (λ t. type_supported wasm t ≡ true) (λ t. is_type wasm t ≡ true) wasm.funcs supported.funcs (all_pass (is_type wasm) wasm.funcs (parts_fit wasm valid).functions))

    import_types : (is : List Import) → All (λ (i : Import). desc_supported wasm i.desc ≡ true) is → All (λ t. type_supported wasm t ≡ true) (imports_of functions_in is)
    import_types [] all = All-nil (λ t. type_supported wasm t ≡ true)
    import_types (i ∷ is) all =
        All-append (λ t. type_supported wasm t ≡ true) (functions_in i.desc) (imports_of functions_in is)
        (one i.desc (All-head (λ (i : Import). desc_supported wasm i.desc ≡ true) i is all)) (import_types is (All-tail (λ (i : Import). desc_supported wasm i.desc ≡ true) i is all))
      where
        one : (d : ImportDesc) → desc_supported wasm d ≡ true → All (λ t. type_supported wasm t ≡ true) (functions_in d)
        one (imported.Func t) s = All-cons (λ t. type_supported wasm t ≡ true) t [] s (All-nil (λ t. type_supported wasm t ≡ true))
        one (imported.Table ty) s = All-nil (λ t. type_supported wasm t ≡ true)
        one (imported.Space limits) s = All-nil (λ t. type_supported wasm t ≡ true)
        one (imported.Global ty) s = All-nil (λ t. type_supported wasm t ≡ true)

    stub_fits : (f : ℕ) → is_stub (function_ref L m f) ≡ true → TypeFits merged (n.ty m (unwrap_or (slice_get (function_space wasm) f) 0))
    stub_fits f s = go (function_ref L m f) refl s
      where
        go : (o : Option Ref) → function_ref L m f ≡ o → is_stub o ≡ true → TypeFits merged (n.ty m (unwrap_or (slice_get (function_space wasm) f) 0))
        go None q h = absurd cc
        go (Some (Own a b)) q h = absurd cc
        go (Some (Loader call)) q h = absurd cc
        go (Some (Host a)) q h = absurd cc
        go (Some (Stub a b)) q h =
            let there = (stub_there L m f a b q).1 in
            let same : there.wasm ≡ wasm = (let one = sym there.here ∙ here in cc) in
            let space : slice_get (function_space wasm) f ≡ Some there.number = subst (λ (w : Module). slice_get (function_space w) f ≡ Some there.number) same there.space in
            let typed : slice_get wasm.types there.number ≡ Some there.ty = subst (λ (w : Module). slice_get w.types there.number ≡ Some there.ty) same there.typed in
            let all = All-append (λ t. type_supported wasm t ≡ true) (imports_of functions_in wasm.imports) wasm.funcs (import_types wasm.imports supported.imports) supported.funcs in
            let fine = holds_at (λ t. type_supported wasm t ≡ true) (function_space wasm) f there.number all space in
            let fits = type_fits there.number fine (is_type_at wasm there.number there.ty typed) in
            subst (λ (o : Option ℕ). TypeFits merged (n.ty m (unwrap_or o 0))) (sym space) fits

    stubs_fit : All (TypeFits merged) (stub_types L n m wasm)
    stubs_fit =
        all_mapped (λ f. is_stub (function_ref L m f) ≡ true) (TypeFits merged) (λ f. n.ty m (unwrap_or (slice_get (function_space wasm) f) 0)) stub_fits (stubs_of L m wasm)
        (all_by (λ f. is_stub (function_ref L m f) ≡ true) (stubs_of L m wasm) (λ i f e. filter_holds (λ k. is_stub (function_ref L m k)) (range_with_len 0 (imported_count wasm)) i f e))

    tables_fit : All TableFits wasm.tables
    tables_fit = all_both (λ (ty : TableType). is_supported ty.elem ≡ true) (λ ty. table_bounded ty ≡ true) wasm.tables supported.tables (all_pass table_bounded wasm.tables (parts_fit wasm valid).tables)

    -- ---- globals

    own_fits : (gs : List GlobalDef) → All (λ (g : GlobalDef). is_supported g.ty.value ≡ true) gs → list_all (global_fits wasm) gs ≡ true → All (λ (g : GlobalDef). Fit g.init.list) gs
        → All (GlobalFits merged) (map (own_global L n m) gs)
    own_fits [] s fits fit = All-nil (GlobalFits merged)
    own_fits (g ∷ gs) s fits fit =
        let both = and_parts (global_fits wasm g) (list_all (global_fits wasm) gs) fits in
        let is = opened_is L K few m member at g both.0 (All-head (λ (y : GlobalDef). Fit y.init.list) g gs fit) in
        All-cons (GlobalFits merged) (own_global L n m g) (map (own_global L n m) gs)
        (All-head (λ (g : GlobalDef). is_supported g.ty.value ≡ true) g gs s, value_constant merged L n named_there g.ty.value (opened_global L m g) is)
        (own_fits gs (All-tail (λ (g : GlobalDef). is_supported g.ty.value ≡ true) g gs s) both.1 (All-tail (λ (y : GlobalDef). Fit y.init.list) g gs fit))

    number_fits : (may : Bool) (k : ℕ) → GlobalFits merged (number_global may k)
    number_fits may k = (refl, number_constant merged k)

    globals_fit : All (GlobalFits merged) (member_globals L n m wasm)
    globals_fit =
        let is = holds_at IsMember members m member K.set.members at in
        let cells = map (λ c. number_global true (cell_value L m c)) (cells_of wasm) in
        let rest : List GlobalDef = cells ++ map (own_global L n m) wasm.globals in
        let table = number_global false (unwrap_or (table_base L m) 0) in
        All-cons (GlobalFits merged) (number_global false (unwrap_or (memory_base L m) 0)) (table ∷ rest) (number_fits false (unwrap_or (memory_base L m) 0))
        (All-cons (GlobalFits merged) table rest (number_fits false (unwrap_or (table_base L m) 0))
        (All-append (GlobalFits merged) cells (map (own_global L n m) wasm.globals)
        (all_by (GlobalFits merged) cells (λ i g e. (let c = mapped_there (λ c. number_global true (cell_value L m c)) (cells_of wasm) i g e in subst (GlobalFits merged) c.2 (number_fits true (cell_value L m c.0)))))
        (own_fits wasm.globals supported.globals (parts_fit wasm valid).globals (constants_fit wasm member.size (member_spelled member is)).globals)))

    -- ---- element segments

    functions_too : (fs : List ℕ) → list_all (is_function wasm) fs ≡ true → list_all (is_function merged) (map (n.named m) fs) ≡ true
    functions_too [] e = refl
    functions_too (f ∷ fs) e =
        let both = and_parts (is_function wasm f) (list_all (is_function wasm) fs) e in
        and_from (is_function merged (n.named m f)) (list_all (is_function merged) (map (n.named m) fs)) (function_too L K few m member at f both.0) (functions_too fs both.1)

    index_too : (op k : ℕ) (form : Option IndexForm) → index_form op ≡ form → constant_step wasm (Open.Index op k) ≡ Some FuncRef
        → constant_step merged (Open.Index op (index_in n m (index_form op) k)) ≡ Some FuncRef
    index_too op k (Some index.RefFunc) q e = (let h = rw q at e in rw q (function_case (is_function wasm k) refl h))
      where
        function_case : (b : Bool) → is_function wasm k ≡ b → (if b then Some FuncRef else None) ≡ Some FuncRef → (if is_function merged (n.named m k) then Some FuncRef else None) ≡ Some FuncRef
        function_case true r h = rw (function_too L K few m member at k r) refl
        function_case false r h = absurd cc
    index_too op k (Some index.GlobalGet) q e =
        let h : (slice_get (imports_of globals_in wasm.imports) k >>= immutable) ≡ Some FuncRef = rw q at e in
        let ty = went_on (slice_get (imports_of globals_in wasm.imports) k) immutable FuncRef h in
        absurd (no_function_global k ty.0 ty.1 ty.2)
      where
        no_function_global : (k : ℕ) (ty : GlobalType) → slice_get (imports_of globals_in wasm.imports) k ≡ Some ty → immutable ty ≡ Some FuncRef → ⊥
        no_function_global k ty there h =
            let given = base_is_number L K few m member at k ty there FuncRef h in
            absurd (let no_so : FuncRef ≡ I32 = given in cc)
    index_too op k None q e = (let h = rw q at e in absurd cc)
    index_too op k (Some index.Br) q e = (let h = rw q at e in absurd cc)
    index_too op k (Some index.BrIf) q e = (let h = rw q at e in absurd cc)
    index_too op k (Some index.Call) q e = (let h = rw q at e in absurd cc)
    index_too op k (Some index.LocalGet) q e = (let h = rw q at e in absurd cc)
    index_too op k (Some index.LocalSet) q e = (let h = rw q at e in absurd cc)
    index_too op k (Some index.LocalTee) q e = (let h = rw q at e in absurd cc)
    index_too op k (Some index.GlobalSet) q e = (let h = rw q at e in absurd cc)
    index_too op k (Some index.TableGet) q e = (let h = rw q at e in absurd cc)
    index_too op k (Some index.TableSet) q e = (let h = rw q at e in absurd cc)

    step_too : (y : Open.Instr-F Instr Expr) → constant_step wasm y ≡ Some FuncRef → constant_step merged (renumbered n m (with_numbers n m y)) ≡ Some FuncRef
    step_too (Open.Index op k) e = index_too op k (index_form op) refl e
    step_too (Open.RefNull t) e = e
    step_too (Open.I32Const z) e = absurd cc
    step_too (Open.I64Const z) e = absurd cc
    step_too _ e = absurd cc

    constant_too : (e : Expr) → is_constant wasm FuncRef e ≡ true → is_constant merged FuncRef (expr n m e) ≡ true
    constant_too e fits =
        let one = reference_alone wasm e fits in
        alone_constant merged FuncRef (expr n m e) (instr n m one.0) (ap (map (instr n m)) one.1) (ap (constant_step merged) (out_instr n m one.0) ∙ step_too (out-Instr one.0) one.2)

    constants_too : (es : List Expr) → list_all (is_constant wasm FuncRef) es ≡ true → list_all (is_constant merged FuncRef) (map (expr n m) es) ≡ true
    constants_too [] e = refl
    constants_too (y ∷ ys) e =
        let both = and_parts (is_constant wasm FuncRef y) (list_all (is_constant wasm FuncRef) ys) e in
        and_from (is_constant merged FuncRef (expr n m y)) (list_all (is_constant merged FuncRef) (map (expr n m) ys)) (constant_too y both.0) (constants_too ys both.1)

    items_too : (items : ElemItems) → items_fit wasm items ≡ true → items_fit merged (renumbered_items n m items) ≡ true
    items_too (elem_items.Funcs fs) e = functions_too fs e
    items_too (elem_items.Exprs t es) e =
        let both = and_parts (same_type t FuncRef) (list_all (is_constant wasm FuncRef) es) e in
        and_from (same_type t FuncRef) (list_all (is_constant merged FuncRef) (map (expr n m) es)) both.0 (constants_too es both.1)

    type_kept : (items : ElemItems) → item_type (renumbered_items n m items) ≡ item_type items
    type_kept (elem_items.Funcs fs) = refl
    type_kept (elem_items.Exprs t es) = refl

    mode_too : (mode : ElemMode) → elem_mode_fits merged (passive_mode mode) ≡ true
    mode_too (elem_mode.Active t offset) = refl
    mode_too elem_mode.Passive = refl
    mode_too elem_mode.Declarative = refl

    elem_too : (e : Elem) → (is_supported (item_type e.items) ≡ true) × (elem_fits wasm e ≡ true) → ElemFits merged (passive_elem n m e)
    elem_too e h = (
      ap is_supported (type_kept e.items) ∙ h.0,
      and_from (elem_mode_fits merged (passive_mode e.mode)) (items_fit merged (renumbered_items n m e.items)) (mode_too e.mode) (items_too e.items (and_parts (elem_mode_fits wasm e.mode) (items_fit wasm e.items) h.1).1),
    )

    elems_fit : All (ElemFits merged) (map (passive_elem n m) wasm.elems)
    elems_fit =
        all_mapped (λ (e : Elem). (is_supported (item_type e.items) ≡ true) × (elem_fits wasm e ≡ true)) (ElemFits merged) (passive_elem n m) elem_too wasm.elems
        (all_both (λ (e : Elem). is_supported (item_type e.items) ≡ true) (λ e. elem_fits wasm e ≡ true) wasm.elems supported.elems (all_pass (elem_fits wasm) wasm.elems (parts_fit wasm valid).elems))

    -- the functions that have fresh slots, and those that are exported
    fresh_there : (fs : List ℕ) → All (IsOwnIn wasm) fs → list_all (is_function merged) (map n.function (map (Own m) fs)) ≡ true
    fresh_there [] all = refl
    fresh_there (f ∷ fs) all =
        and_from (is_function merged (n.function (Own m f))) (list_all (is_function merged) (map n.function (map (Own m) fs)))
        (target_is merged (n.function (Own m f)) (Own 0 (n.function (Own m f))) (own_target L K few m wasm here f (All-head (IsOwnIn wasm) f fs all)))
        (fresh_there fs (All-tail (IsOwnIn wasm) f fs all))

    slots_fit : All (ElemFits merged) (slots_elem L n m ∷ [])
    slots_fit = All-cons (ElemFits merged) (slots_elem L n m) [] (refl, fresh_there (fresh_of L m) (fresh_own L m wasm here)) (All-nil (ElemFits merged))

    abbrev exported_in : List Export → List ℕ
    exported_in es = map (n.named m) (flat_map (λ (e : Export). named_functions e.desc) es)

    export_there : (d : ExportDesc) (fs : List ℕ) → is_there wasm d ≡ true → All (λ f. is_function merged f ≡ true) (map (n.named m) fs)
        → All (λ f. is_function merged f ≡ true) (map (n.named m) (named_functions d ++ fs))
    export_there (exported.Func f) fs fits later = All-cons (λ f. is_function merged f ≡ true) (n.named m f) (map (n.named m) fs) (function_too L K few m member at f fits) later
    export_there (exported.Table t) fs fits later = later
    export_there (exported.Space t) fs fits later = later
    export_there (exported.Global t) fs fits later = later

    exported_there : (es : List Export) → list_all (export_fits wasm) es ≡ true → All (λ f. is_function merged f ≡ true) (exported_in es)
    exported_there [] e = All-nil (λ f. is_function merged f ≡ true)
    exported_there (y ∷ ys) e =
        let both = and_parts (export_fits wasm y) (list_all (export_fits wasm) ys) e in
        export_there y.desc (flat_map (λ (e : Export). named_functions e.desc) ys) both.0 (exported_there ys both.1)

    all_exported : All (λ f. is_function merged f ≡ true) (map (n.named m) (exported_functions wasm))
    all_exported = exported_there wasm.exports (parts_fit wasm valid).exports

    data_too : All (λ d. data_fits merged d ≡ true) (map passive_data wasm.datas)
    data_too = all_mapped (λ d. data_fits wasm d ≡ true) (λ d. data_fits merged d ≡ true) passive_data (λ d h. refl) wasm.datas (all_pass (data_fits wasm) wasm.datas (parts_fit wasm valid).datas)

    codes_fit : All (SupportedBody merged) (map (renumbered_code n m) wasm.codes)
    codes_fit =
        all_mapped (λ c. (k : ℕ) × (body_supported wasm k c ≡ None)) (SupportedBody merged) (renumbered_code n m)
        (λ c h k. body_kept n m wasm merged type_too h.0 k c h.1) wasm.codes supported.codes

  -- ---- the whole

  of_each : {A : Type 0} (P : A → Type 0) (of : ℕ → Module → List A) → ((m : ℕ) (member : Member) → slice_get members m ≡ Some member → All P (of m member.wasm)) → All P (from_members of 0 members)
  of_each P of each = all_of P of 0 members (λ j y at. (let place : j ≡ 0 + j = omega arith in subst (λ m. All P (of m y.wasm)) place (each j y at)))

  type_there : (t : ℕ) (ty : FuncType) → slice_get merged.types t ≡ Some ty → is_function_supported ty ≡ true → TypeFits merged t
  type_there t ty there s = (supported_at merged t ty there s, is_type_at merged t ty there)

  loader_funcs_fit : uses_loader L ≡ true → All (TypeFits merged) (loader_funcs L)
  loader_funcs_fit used =
      let handle = type_there (handle_number L) handle_type (handle_there L K.set used) refl in
      let unary = type_there (unary_number L) unary_type (unary_there L K.set used) refl in
      let binary = type_there (binary_number L) binary_type (binary_there L K.set used) refl in
      let search = type_there (search_number L) search_type (search_there L K.set used) refl in
      let finds = replicate (length members) (search_number L) in
      let calls = binary_number L ∷ binary_number L ∷ unary_number L ∷ handle_number L ∷ [] in
      All-append (TypeFits merged) (replicate (length members) (handle_number L)) (unary_number L ∷ (finds ++ calls)) (all_repeated (TypeFits merged) (length members) (handle_number L) handle)
      (All-cons (TypeFits merged) (unary_number L) (finds ++ calls) unary
      (All-append (TypeFits merged) finds calls (all_repeated (TypeFits merged) (length members) (search_number L) search)
      (All-cons (TypeFits merged) (binary_number L) (binary_number L ∷ unary_number L ∷ handle_number L ∷ []) binary
      (All-cons (TypeFits merged) (binary_number L) (unary_number L ∷ handle_number L ∷ []) binary
      (All-cons (TypeFits merged) (unary_number L) (handle_number L ∷ []) unary
      (All-cons (TypeFits merged) (handle_number L) [] handle (All-nil (TypeFits merged))))))))

  nullary_fits : TypeFits merged (nullary_number L)
  nullary_fits = type_there (nullary_number L) nullary (nullary_there L n x) refl

  funcs_all : All (TypeFits merged) merged.funcs
  funcs_all =
      All-append (TypeFits merged) (from_members (λ m wasm. map (n.ty m) wasm.funcs) 0 members) (from_members (stub_types L n) 0 members ++ generated_types L)
      (of_each (TypeFits merged) (λ m wasm. map (n.ty m) wasm.funcs) funcs_fit)
      (All-append (TypeFits merged) (from_members (stub_types L n) 0 members) (generated_types L) (of_each (TypeFits merged) (stub_types L n) stubs_fit)
      (All-append (TypeFits merged) (replicate (4 * length members) (nullary_number L)) (with_loader L (loader_funcs L) ++ nullary_number L ∷ [])
      (all_repeated (TypeFits merged) (4 * length members) (nullary_number L) nullary_fits)
      (All-append (TypeFits merged) (with_loader L (loader_funcs L)) (nullary_number L ∷ [])
      (with_all L (TypeFits merged) (loader_funcs L) loader_funcs_fit)
      (All-cons (TypeFits merged) (nullary_number L) [] nullary_fits (All-nil (TypeFits merged))))))

  shared_fits : TableFits (shared_table_type L)
  shared_fits =
      let entries = table_within L K.links in
      let most = entries_within L K.links in
      (refl, and_from (nat_le (table_entries L) most_entries) (nat_le (table_entries L) (table_most L)) (le-leb (table_entries L) most_entries (omega arith)) (le-leb (table_entries L) (table_most L) most))

  tables_all : All TableFits merged.tables
  tables_all = All-cons TableFits (shared_table_type L) (from_members (λ m (wasm : Module). wasm.tables) 0 members) shared_fits (of_each TableFits (λ m wasm. wasm.tables) tables_fit)

  memory_fits : list_all memory_bounded merged.memories ≡ true
  memory_fits =
      let limits = linked_limits L K.links in
      let pages = limits.pages in
      let one = le-leb (linked_plan L).pages 65536 (omega arith) in
      let two = le-leb (linked_plan L).pages (linked_plan L).pages_max pages in
      let three = le-leb (linked_plan L).pages_max 65536 (omega arith) in
      rw (one, two, three) refl

  globals_all : All (GlobalFits merged) merged.globals
  globals_all =
      let zero_fits : GlobalFits merged (number_global true 0) = (refl, number_constant merged 0) in
      let zeros_fit : All (GlobalFits merged) (zero_globals L) =
      all_by (GlobalFits merged) (zero_globals L) (λ i g e. (let found = mapped_there (λ y. number_global true 0) members i g e in subst (GlobalFits merged) found.2 zero_fits)) in
      All-cons (GlobalFits merged) (number_global true (linked_plan L).stack_top) (from_members (member_globals L n) 0 members ++ guard_globals L) (refl, number_constant merged (linked_plan L).stack_top)
      (All-append (GlobalFits merged) (from_members (member_globals L n) 0 members) (guard_globals L) (of_each (GlobalFits merged) (member_globals L n) globals_fit)
      (All-append (GlobalFits merged) (zero_globals L) (with_loader L (loader_globals L)) zeros_fit
      (with_all L (GlobalFits merged) (loader_globals L) (λ used. All-cons (GlobalFits merged) (number_global true 0) (number_global true 0 ∷ zero_globals L) zero_fits
      (All-cons (GlobalFits merged) (number_global true 0) (zero_globals L) zero_fits zeros_fit)))))

  exports_fit : list_all (export_fits merged) merged.exports ≡ true
  exports_fit =
      let start = function_is merged x.starting nullary (entry_typed L K.set) in
      rw (start, memory_is L K few) refl

  -- the functions outside the members that have slots
  outside_there : (rs : List Ref) → All (IsOutsideSet L) rs → list_all (is_function merged) (map n.function rs) ≡ true
  outside_there [] all = refl
  outside_there (r ∷ rs) all =
      and_from (is_function merged (n.function r)) (list_all (is_function merged) (map n.function rs))
      (target_is merged (n.function r) (reference n r) (outside_target L K few r (All-head (IsOutsideSet L) r rs all)))
      (outside_there rs (All-tail (IsOutsideSet L) r rs all))

  table_is : table_space merged ≡ merged.tables
  table_is = ap (λ l. l ++ merged.tables) (no_tables (host_type_number L) 0 (hosts_of L))

  outside_fits : ElemFits merged (outside_elem L n)
  outside_fits =
      let items = outside_there (outside_slots L) (slots_outside L) in
      let mode : elem_mode_fits merged (elem_mode.Active 0 (number_expr (outside_at L n))) ≡ true = rw (table_is, number_constant merged (outside_at L n)) refl in
      (refl, and_from (elem_mode_fits merged (elem_mode.Active 0 (number_expr (outside_at L n)))) (list_all (is_function merged) (map n.function (outside_slots L))) mode items)

  declared_fits : ElemFits merged (declared_elem L n)
  declared_fits = (
    refl,
    pass_all (is_function merged) (λ f. is_function merged f ≡ true) (λ f h. h) (from_members (λ m wasm. map (n.named m) (exported_functions wasm)) 0 members)
        (of_each (λ f. is_function merged f ≡ true) (λ m wasm. map (n.named m) (exported_functions wasm)) all_exported),
  )

  elems_all : All (ElemFits merged) merged.elems
  elems_all =
      All-append (ElemFits merged) (from_members (λ m wasm. map (passive_elem n m) wasm.elems) 0 members) (from_members (λ m wasm. slots_elem L n m ∷ []) 0 members ++ outside_elem L n ∷ declared_elem L n ∷ [])
      (of_each (ElemFits merged) (λ m wasm. map (passive_elem n m) wasm.elems) elems_fit)
      (All-append (ElemFits merged) (from_members (λ m wasm. slots_elem L n m ∷ []) 0 members) (outside_elem L n ∷ declared_elem L n ∷ [])
      (of_each (ElemFits merged) (λ m wasm. slots_elem L n m ∷ []) slots_fit)
      (All-cons (ElemFits merged) (outside_elem L n) (declared_elem L n ∷ []) outside_fits (All-cons (ElemFits merged) (declared_elem L n) [] declared_fits (All-nil (ElemFits merged)))))

  texts_fit : data_fits merged (texts_segment L) ≡ true
  texts_fit = rw (memory_is L K few, number_constant merged (linked_plan L).stack_top) refl

  datas_all : list_all (data_fits merged) merged.datas ≡ true
  datas_all =
      pass_all (data_fits merged) (λ d. data_fits merged d ≡ true) (λ d h. h) merged.datas
      (All-append (λ d. data_fits merged d ≡ true) (from_members (λ m wasm. map passive_data wasm.datas) 0 members) (texts_segment L ∷ [])
      (of_each (λ d. data_fits merged d ≡ true) (λ m wasm. map passive_data wasm.datas) data_too)
      (All-cons (λ d. data_fits merged d ≡ true) (texts_segment L) [] texts_fit (All-nil (λ d. data_fits merged d ≡ true))))

  codes_all : SearchIsSmall → All (SupportedBody merged) merged.codes
  codes_all small =
      let own = from_members (λ m wasm. map (renumbered_code n m) wasm.codes) 0 members in
      let stubs = from_members (stub_codes L) 0 members in
      All-append (SupportedBody merged) own (stubs ++ generated_codes L n x) (of_each (SupportedBody merged) (λ m wasm. map (renumbered_code n m) wasm.codes) codes_fit)
      (All-append (SupportedBody merged) stubs (generated_codes L n x)
      (of_each (SupportedBody merged) (stub_codes L) (λ m y at. stubs_all (SupportedBody merged) (λ size c is. is.supported merged) L m y.wasm))
      (generated_all (SupportedBody merged) (λ size c is. is.supported merged) small L K.set n x))

  pub merged_valid : SearchIsSmall → GeneratedIsTyped → LoaderIsTyped → All (λ (h : HostName). IsTrue (is_function_supported h.ty)) (hosts_of L) → fault merged ≡ None
  merged_valid small typing loader_typing hosts = fits_valid merged (record {
    imports = hosts_fit (host_type_number L) 0 (hosts_of L) (host_types L K n x) hosts;
    funcs = funcs_all;
    tables = tables_all;
    one_memory = rw (memory_is L K few) refl;
    memories = memory_fits;
    globals = globals_all;
    names = refl;
    exports = exports_fit;
    start = refl;
    elems = elems_all;
    datas = datas_all;
    supported = codes_all small;
    typed = bodies_none L K few typing loader_typing;
  })
