-- The module that begins where a run of a valid module stands is valid.
use Rattle.std.proofs.Common.{◌≡◌, ◌≤◌, ◌<◌, ℕ, zero, suc, ◌+◌, min, Bool, true, false, ◌&&◌, List, [], ◌∷◌, ◌++◌, length, map, slice_get, nat_eq, nat_le, nat_lt, Option, Some, None, refl, sym, ap, ap₂, ◌∙◌, subst, arith, length-append}
use Rattle.std.specs.Prelude.{unwrap_or, is_some, IsTrue, ◌||◌}
use Rattle.std.specs.List.{All, list_all, list_any}
use Rattle.std.proofs.lemmas.Bool.{and_parts, and_from, ltb-true, lt-ltb, le-leb}
use Rattle.std.proofs.lemmas.Bool.Decides.{nat_tests}
use Rattle.std.proofs.lemmas.List.{length-map}
use Rattle.std.proofs.lemmas.List.Elements.{All-nil, All-cons, All-head, All-tail, All-append}
use Rattle.std.proofs.lemmas.Option.{slice_get_within}
use denote.Hole.Carrier.{out}
use Rattle.spec_loading.specs.wasm_form.declared.types.ValType.{ValType}
use Rattle.spec_loading.specs.wasm_form.declared.types.ValType.TheVariants.{I32, I64, F32, F64, FuncRef, ExternRef}
use Rattle.spec_loading.specs.wasm_form.declared.types.FuncType.{FuncType}
use Rattle.spec_loading.specs.wasm_form.declared.types.GlobalType.{GlobalType}
use Rattle.spec_loading.specs.wasm_form.declared.types.Limits.{Limits}
use Rattle.spec_loading.specs.wasm_form.declared.types.TableType.{TableType}
use Rattle.spec_loading.specs.wasm_form.declared.instr.BlockType.{BlockType}
use Rattle.spec_loading.specs.wasm_form.declared.instr.BlockType.TheVariants as block
use Rattle.spec_loading.specs.wasm_form.declared.instr.Instr.{Instr, out-Instr, fold-Instr}
use Rattle.spec_loading.specs.wasm_form.declared.instr.Instr.TheOpen as Open
use Rattle.spec_loading.specs.wasm_form.declared.module.ImportDesc.{ImportDesc}
use Rattle.spec_loading.specs.wasm_form.declared.module.ImportDesc.TheVariants as imported
use Rattle.spec_loading.specs.wasm_form.declared.module.Import.{Import}
use Rattle.spec_loading.specs.wasm_form.declared.module.GlobalDef.{GlobalDef}
use Rattle.spec_loading.specs.wasm_form.declared.module.ElemItems.{ElemItems}
use Rattle.spec_loading.specs.wasm_form.declared.module.ElemItems.TheVariants as elem_items
use Rattle.spec_loading.specs.wasm_form.declared.module.Elem.{Elem}
use Rattle.spec_loading.specs.wasm_form.declared.module.Code.{Code}
use Rattle.spec_loading.specs.wasm_form.declared.module.Module.{Module}
use Rattle.spec_loading.specs.wasm_form.declared.runtime.Ref.{Ref}
use Rattle.spec_loading.specs.wasm_form.declared.runtime.Value.{Value}
use Rattle.spec_loading.specs.wasm_form.declared.runtime.Value.TheVariants.{Num, Func}
use Rattle.spec_loading.specs.wasm_form.declared.instr.Expr.{Expr}
use Rattle.spec_loading.specs.wasm_form.declared.index.IndexForm.{IndexForm}
use Rattle.spec_loading.specs.wasm_form.declared.index.IndexForm.TheVariants as index
use Rattle.spec_loading.specs.wasm_form.Index.{index_form}
use Rattle.spec_loading.specs.spec_binary.Options.{◌>>=◌}
use Rattle.spec_loading.specs.spec_binary.Counted.{after_step, left}
use Rattle.spec_loading.proofs.of_spec_binary.OneType.{itself}
use Rattle.spec_loading.specs.spec_validation.Counted.{PutsOne, kind_of, step_at, step_of}
use Rattle.spec_loading.proofs.of_spec_validation.Constants.{counts_constant}
use Rattle.merge_pieces.specs.Code.{number}
use Rattle.spec_loading.specs.spec_binary.SameTypes.{same_type}
use Rattle.spec_loading.specs.spec_binary.Indices.{function_type, nullary_at}
use Rattle.spec_loading.specs.spec_binary.IndexSpaces.{imports_of, globals_in, tables_in, memories_in, function_space, table_space, memory_space, type_of_global}
use Rattle.spec_loading.specs.spec_validation.declared.fault.Place.TheVariants as place
use Rattle.spec_loading.specs.spec_validation.declared.fault.CheckFault.TheVariants.{UnsupportedType, BadBody}
use Rattle.spec_loading.specs.spec_validation.Typing.{height}
use Rattle.spec_loading.specs.spec_validation.Faults.{Finding, first_in, is_supported, type_supported, desc_supported, block_supported, unsupported_here, unsupported_inside, unsupported, unsupported_of, body_supported, most_entries, most_pages, is_function, is_type, import_fits, has_functions, export_fits, no_fewer, memory_bounded, may_be_constant, constant_index, constant_step, constant_context, is_constant, items_fit, item_type, elem_fits, elem_mode_fits, data_fits, elem_of_table, type_of_elem, support_fault, module_fault, import_supported, function_supported, table_supported, global_supported, elem_supported, ◌or_else◌, is_some_memory, type_of_body, body_context, body_height, body_typed, refers, elem_refers, export_refers, global_refers, fault}
use Rattle.spec_loading.proofs.of_spec_validation.Parts.{parts_fit}
use Rattle.spec_loading.specs.spec_runtime.Memories.{MemoryInstance, pages}
use Rattle.spec_loading.specs.spec_runtime.Tables.{TableInstance}
use Rattle.spec_loading.specs.spec_execution.Instances.{ModuleParts, module_target, function_named}
use Rattle.spec_loading.specs.spec_safety.Laws.{is_function_import, imports_functions}
use Rattle.spec_loading.proofs.of_spec_safety.Lookups.{went_on}
use Rattle.merge_match.specs.Carrying.{Extends, Carries}
use Rattle.merge_match.proofs.Carried.{height_carried}
use Rattle.snap_module.specs.Held.{Stretch, Contents, function_number, reference_instr, constant_instr, expr_of, offset_expr, entry_expr, held_globals, held_table, held_tables, held_memories, held_elem, held_elems, passive_data, table_elem, table_elems, below, declared_elem, memory_data, held_datas, entry_exports, held, IsReference, IsOfType, AreGlobals, IsTable, AreTables, AreElems, CanBeHeld}
use Rattle.snap_module.proofs.Faultless.{neither, both_none, holds_so, so_none, each_of, all_pass, all_both, all_so, ImportFits, TypeFits, GlobalFits, ElemFits, TableFits, Fits, fits_valid}
use Rattle.snap_module.proofs.Identity.{kept, code_same}

-- an instruction that puts a value of the type on the stack is a constant expression
alone : (m : Module) (t : ValType) (i : Instr) → constant_step m (out-Instr i) ≡ Some t → is_constant m t (expr_of i) ≡ true
alone m t i h = counts_constant m t (expr_of i) (go (out-Instr i) h)
  where
    one : (after_step (step_at t (Some (PutsOne t))) 0 >>= left (step_of m t) []) ≡ Some 1
    one = rw (itself t) refl

    go : (x : Open.Instr-F Instr Expr) → constant_step m x ≡ Some t → (after_step (step_at t (kind_of m x)) 0 >>= left (step_of m t) []) ≡ Some 1
    go (Open.Plain op) h = absurd cc
    go x h = ap (λ (o : Option ValType). after_step (step_at t (o >>= λ u. Some (PutsOne u))) 0 >>= left (step_of m t) []) h ∙ one

module _ (m : Module) (entry : ℕ) (p : ModuleParts) (memory : MemoryInstance) (w : Contents) where
  abbrev N : Module
  N = held m entry p memory w

  -- ---- what is supported

  type_same : (t : ℕ) → type_supported N t ≡ type_supported m t
  type_same t = go (slice_get m.types t) refl
    where
      go : (o : Option FuncType) → slice_get m.types t ≡ o → type_supported N t ≡ type_supported m t
      go None q = rw q refl
      go (Some ty) q = rw q refl

  desc_same : (d : ImportDesc) → desc_supported N d ≡ desc_supported m d
  desc_same (imported.Func t) = type_same t
  desc_same (imported.Table ty) = refl
  desc_same (imported.Space limits) = refl
  desc_same (imported.Global ty) = refl

  import_same : (i : Import) → import_fits N i ≡ import_fits m i
  import_same i = go i.desc refl
    where
      go : (d : ImportDesc) → i.desc ≡ d → import_fits N i ≡ import_fits m i
      go (imported.Func t) q = rw q refl
      go (imported.Table ty) q = rw q refl
      go (imported.Space limits) q = rw q refl
      go (imported.Global ty) q = rw q refl

  block_same : (t : BlockType) → block_supported N t ≡ block_supported m t
  block_same block.Empty = refl
  block_same (block.Value t) = refl
  block_same (block.Index k) = type_same k

  here_same : (k : ℕ) (x : Open.Instr-F Finding Finding) → unsupported_here N k x ≡ unsupported_here m k x
  here_same k (Open.Plain op) = refl
  here_same k (Open.Index op n) = refl
  here_same k (Open.Block t e) = rw (block_same t) refl
  here_same k (Open.Loop t e) = rw (block_same t) refl
  here_same k (Open.If t e None) = rw (block_same t) refl
  here_same k (Open.If t e (Some other)) = rw (block_same t) refl
  here_same k (Open.BrTable ks last) = refl
  here_same k (Open.CallIndirect ty table) = rw (type_same ty) refl
  here_same k (Open.Select ts) = refl
  here_same k (Open.Access op align offset) = refl
  here_same k Open.MemorySize = refl
  here_same k Open.MemoryGrow = refl
  here_same k (Open.I32Const n) = refl
  here_same k (Open.I64Const n) = refl
  here_same k (Open.F32Const bits) = refl
  here_same k (Open.F64Const bits) = refl
  here_same k (Open.RefNull t) = refl
  here_same k (Open.Prefixed op x y) = refl

  instr_same : (k : ℕ) (i : Instr) → unsupported N k i ≡ unsupported m k i
  unfolding unsupported
  instr_same k i = ap (λ (h : Open.Instr-F Finding Finding → Finding). fold-Instr Finding Finding h unsupported_inside i) (λ j x. here_same k x j)

  code_supported : (k : ℕ) (is : List Instr) → unsupported_of N k is ≡ unsupported_of m k is
  code_supported k [] = refl
  code_supported k (i ∷ is) = rw (instr_same k i, code_supported k is) refl

  body_same : (k : ℕ) (c : Code) → body_supported N k c ≡ body_supported m k c
  body_same k c = rw (code_supported k c.body.list) refl

  -- ---- constants

  function_is : (f : ℕ) (ty : FuncType) → function_type m f ≡ Some ty → is_function m f ≡ true
  function_is f ty e =
      let t = went_on (slice_get (function_space m) f) (slice_get m.types) ty e in
      lt-ltb f (length (function_space m)) (slice_get_within (function_space m) f t.0 t.1)

  target_is : (f : ℕ) (r : Ref) → module_target m f ≡ Some r → is_function m f ≡ true
  target_is f r e = (let ty = went_on (function_type m f) (λ ty. Some (function_named m f)) r e in function_is f ty.0 ty.1)

  reference_constant : (r : Option Ref) → IsReference m r → is_constant N FuncRef (entry_expr r) ≡ true
  unfolding out-Instr out
  reference_constant None is = alone N FuncRef (reference_instr None) refl
  reference_constant (Some r) is = alone N FuncRef (reference_instr (Some r)) (rw (target_is (function_number r) r is) refl)

  offset_constant : (k : ℕ) → is_constant N I32 (offset_expr k) ≡ true
  unfolding out-Instr out
  offset_constant k = alone N I32 (number k) refl

  long_constant : (k : ℕ) → is_constant N I64 (expr_of (constant_instr I64 (Num k))) ≡ true
  unfolding out-Instr out
  long_constant k = alone N I64 (constant_instr I64 (Num k)) refl

  value_constant : (t : ValType) (v : Value) → IsOfType m t v → is_constant N t (expr_of (constant_instr t v)) ≡ true
  value_constant I32 (Num k) is = offset_constant k
  value_constant I64 (Num k) is = long_constant k
  value_constant FuncRef (Func r) is = reference_constant r is
  value_constant I32 (Func r) is = absurd is
  value_constant I64 (Func r) is = absurd is
  value_constant FuncRef (Num k) is = absurd is
  value_constant F32 v is = absurd is
  value_constant F64 v is = absurd is
  value_constant ExternRef v is = absurd is

  -- what may stand in a constant expression, and its type, hang on types, imports and functions alone
  index_same : (o : Option IndexForm) (n : ℕ) → (o >>= λ f. constant_index N f n) ≡ (o >>= λ f. constant_index m f n)
  index_same None n = refl
  index_same (Some index.Br) n = refl
  index_same (Some index.BrIf) n = refl
  index_same (Some index.Call) n = refl
  index_same (Some index.LocalGet) n = refl
  index_same (Some index.LocalSet) n = refl
  index_same (Some index.LocalTee) n = refl
  index_same (Some index.GlobalGet) n = refl
  index_same (Some index.GlobalSet) n = refl
  index_same (Some index.TableGet) n = refl
  index_same (Some index.TableSet) n = refl
  index_same (Some index.RefFunc) n = refl

  may_same : (x : Open.Instr-F Instr Expr) → may_be_constant N x ≡ may_be_constant m x
  may_same (Open.Index op n) = ap is_some (index_same (index_form op) n)
  may_same (Open.Plain op) = refl
  may_same (Open.Block t e) = refl
  may_same (Open.Loop t e) = refl
  may_same (Open.If t e other) = refl
  may_same (Open.BrTable ks last) = refl
  may_same (Open.CallIndirect ty table) = refl
  may_same (Open.Select ts) = refl
  may_same (Open.Access op align offset) = refl
  may_same Open.MemorySize = refl
  may_same Open.MemoryGrow = refl
  may_same (Open.I32Const n) = refl
  may_same (Open.I64Const n) = refl
  may_same (Open.F32Const bits) = refl
  may_same (Open.F64Const bits) = refl
  may_same (Open.RefNull t) = refl
  may_same (Open.Prefixed op x y) = refl

  all_may : (is : List Instr) → list_all (λ i. may_be_constant N (out-Instr i)) is ≡ list_all (λ i. may_be_constant m (out-Instr i)) is
  all_may [] = refl
  all_may (i ∷ is) = ap₂ (λ a b. a && b) (may_same (out-Instr i)) (all_may is)

  constant_same : (t : ValType) (e : Expr) → is_constant N t e ≡ is_constant m t e
  constant_same t e = ap (λ (b : Bool). b && is_some (height (constant_context m t) e.list)) (all_may e.list)

  constants_same : (t : ValType) (es : List Expr) → list_all (is_constant N t) es ≡ list_all (is_constant m t) es
  constants_same t [] = refl
  constants_same t (e ∷ es) = ap₂ (λ a b. a && b) (constant_same t e) (constants_same t es)

  supported_value : (t : ValType) (v : Value) → IsOfType m t v → is_supported t ≡ true
  supported_value I32 v is = refl
  supported_value I64 v is = refl
  supported_value FuncRef v is = refl
  supported_value F32 v is = absurd is
  supported_value F64 v is = absurd is
  supported_value ExternRef v is = absurd is

  globals_fit : (gs : List GlobalDef) (vs : List Value) → AreGlobals m gs vs → All (GlobalFits N) (held_globals gs vs)
  globals_fit [] vs are = All-nil (GlobalFits N)
  globals_fit (g ∷ gs) [] are = absurd are
  globals_fit (g ∷ gs) (v ∷ vs) are =
      All-cons (GlobalFits N) _ (held_globals gs vs) (supported_value g.ty.value v are.0, value_constant g.ty.value v are.0) (globals_fit gs vs are.1)

  -- ---- tables and the memory

  no_fewer_than : (least : ℕ) (o : Option ℕ) → least ≤ min most_entries (unwrap_or o most_entries) → no_fewer least o ≡ true
  no_fewer_than least None le = refl
  no_fewer_than least (Some most) le = le-leb least most (omega arith)

  table_fits : (t : TableType) (x : TableInstance) (ss : List (Stretch (Option Ref))) → IsTable m t x ss → TableFits (held_table t x)
  table_fits t x ss is =
      let most = is.most in
      let few = is.few in
      let within : length x.entries ≤ min most_entries (unwrap_or t.limits.max most_entries) = subst (λ k. length x.entries ≤ k) most few in
      (ap is_supported is.functions, and_from _ _ (le-leb (length x.entries) most_entries (omega arith)) (no_fewer_than (length x.entries) t.limits.max within))

  tables_fit : (ts : List TableType) (xs : List TableInstance) (more : List (List (Stretch (Option Ref)))) → AreTables m ts xs more → All TableFits (held_tables ts xs)
  tables_fit [] [] [] are = All-nil TableFits
  tables_fit (t ∷ ts) (x ∷ xs) (ss ∷ more) are = All-cons TableFits (held_table t x) (held_tables ts xs) (table_fits t x ss are.0) (tables_fit ts xs more are.1)
  tables_fit _ _ _ are = absurd are

  -- the table of a number has functions
  table_there : (ts : List TableType) (xs : List TableInstance) (more : List (List (Stretch (Option Ref)))) → AreTables m ts xs more → (k : ℕ) → k < length more
      → (ty : TableType) × (slice_get (held_tables ts xs) k ≡ Some ty) × (ty.elem ≡ FuncRef)
  table_there [] [] [] are k lt = absurd (omega arith)
  table_there (t ∷ ts) (x ∷ xs) (ss ∷ more) are zero lt = (held_table t x, refl, are.0.functions)
  table_there (t ∷ ts) (x ∷ xs) (ss ∷ more) are (suc k) lt = table_there ts xs more are.1 k (omega arith)
  table_there _ _ _ are k lt = absurd are

  max_bounded : (l : Limits) (k : ℕ) → memory_bounded l ≡ true → k ≤ unwrap_or l.max most_pages → (let x : Limits = record { min = k; max = l.max } in memory_bounded x) ≡ true
  max_bounded l k fits le = go l.max refl
    where
      go : (o : Option ℕ) → l.max ≡ o → (let x : Limits = record { min = k; max = l.max } in memory_bounded x) ≡ true
      go None q =
          let few : k ≤ most_pages = subst (λ o. k ≤ unwrap_or o most_pages) q le in
          rw (q, le-leb k most_pages few) refl
      go (Some max) q =
          let few : k ≤ max = subst (λ o. k ≤ unwrap_or o most_pages) q le in
          let old : (nat_le l.min most_pages && (nat_le l.min max && nat_le max most_pages)) ≡ true = rw q at fits in
          let most : nat_le max most_pages ≡ true = (and_parts (nat_le l.min max) (nat_le max most_pages) (and_parts (nat_le l.min most_pages) (nat_le l.min max && nat_le max most_pages) old).1).1 in
          let bounded : k ≤ most_pages = grind (arith, nat_tests) in
          rw (q, le-leb k most_pages bounded, le-leb k max few, most) refl

  -- ---- what is imported are functions

  function_alone : (i : Import) → is_function_import i ≡ true → (tables_in i.desc ≡ []) × (memories_in i.desc ≡ [])
  function_alone i is = go i.desc refl
    where
      go : (d : ImportDesc) → i.desc ≡ d → (tables_in d ≡ []) × (memories_in d ≡ [])
      go (imported.Func t) q = (refl, refl)
      go (imported.Table ty) q = absurd (let no : false ≡ true = rw q at is in cc)
      go (imported.Space limits) q = absurd (let no : false ≡ true = rw q at is in cc)
      go (imported.Global ty) q = absurd (let no : false ≡ true = rw q at is in cc)

  no_tables : (is : List Import) → list_all is_function_import is ≡ true → imports_of tables_in is ≡ []
  no_tables [] all = refl
  no_tables (i ∷ is) all =
      let parts = and_parts (is_function_import i) (list_all is_function_import is) all in
      rw ((function_alone i parts.0).0, no_tables is parts.1) refl

  no_memories : (is : List Import) → list_all is_function_import is ≡ true → imports_of memories_in is ≡ []
  no_memories [] all = refl
  no_memories (i ∷ is) all =
      let parts = and_parts (is_function_import i) (list_all is_function_import is) all in
      rw ((function_alone i parts.0).1, no_memories is parts.1) refl

  -- ---- segments

  functions_fit : (k : ℕ) → k ≤ length (function_space m) → list_all (is_function N) (below k) ≡ true
  functions_fit zero le = refl
  functions_fit (suc k) le = and_from (is_function N k) (list_all (is_function N) (below k)) (lt-ltb k (length (function_space m)) (omega arith)) (functions_fit k (omega arith))

  entries_fit : (rs : List (Option Ref)) → All (IsReference m) rs → list_all (is_constant N FuncRef) (map entry_expr rs) ≡ true
  entries_fit [] all = refl
  entries_fit (r ∷ rs) all =
      and_from (is_constant N FuncRef (entry_expr r)) (list_all (is_constant N FuncRef) (map entry_expr rs)) (reference_constant r (All-head (IsReference m) r rs all)) (entries_fit rs (All-tail (IsReference m) r rs all))

  items_same : (items : ElemItems) → items_fit N items ≡ items_fit m items
  items_same (elem_items.Funcs fs) = refl
  items_same (elem_items.Exprs t es) = ap (λ b. same_type t FuncRef && b) (constants_same FuncRef es)

  held_fits : (e : Elem) (x : List (Option Ref)) → ElemFits m e → ElemFits N (held_elem e x)
  held_fits e [] fits = (refl, refl)
  held_fits e (r ∷ rs) fits = (fits.0, items_same e.items ∙ (and_parts (elem_mode_fits m e.mode) (items_fit m e.items) fits.1).1)

  held_all_fit : (es : List Elem) (xs : List (List (Option Ref))) → All (ElemFits m) es → All (ElemFits N) (held_elems es xs)
  held_all_fit [] xs all = All-nil (ElemFits N)
  held_all_fit (e ∷ es) [] all = All-nil (ElemFits N)
  held_all_fit (e ∷ es) (x ∷ xs) all =
      All-cons (ElemFits N) (held_elem e x) (held_elems es xs) (held_fits e x (All-head (ElemFits m) e es all)) (held_all_fit es xs (All-tail (ElemFits m) e es all))

  -- ---- bodies: what they may name is there, with its type

  globals_same : (gs : List GlobalDef) (vs : List Value) → AreGlobals m gs vs → map type_of_global (held_globals gs vs) ≡ map type_of_global gs
  globals_same [] vs are = refl
  globals_same (g ∷ gs) [] are = absurd are
  globals_same (g ∷ gs) (v ∷ vs) are = ap (λ l. g.ty ∷ l) (globals_same gs vs are.1)

  abbrev elem_at : List TableType → ℕ → Option ValType
  elem_at ts k = slice_get ts k >>= elem_of_table

  tables_same : (before ts : List TableType) (xs : List TableInstance) (more : List (List (Stretch (Option Ref)))) → AreTables m ts xs more → (k : ℕ)
      → elem_at (before ++ held_tables ts xs) k ≡ elem_at (before ++ ts) k
  tables_same [] [] [] [] are k = refl
  tables_same [] (t ∷ ts) (x ∷ xs) (ss ∷ more) are zero = refl
  tables_same [] (t ∷ ts) (x ∷ xs) (ss ∷ more) are (suc k) = tables_same [] ts xs more are.1 k
  tables_same (b ∷ before) ts xs more are zero = refl
  tables_same (b ∷ before) ts xs more are (suc k) = tables_same before ts xs more are k
  tables_same [] _ _ _ are k = absurd are

  type_is : (t : ValType) → same_type t FuncRef ≡ true → t ≡ FuncRef
  type_is I32 e = absurd cc
  type_is I64 e = absurd cc
  type_is F32 e = absurd cc
  type_is F64 e = absurd cc
  type_is FuncRef e = refl
  type_is ExternRef e = absurd cc

  items_typed : (items : ElemItems) → items_fit m items ≡ true → item_type items ≡ FuncRef
  items_typed (elem_items.Funcs fs) e = refl
  items_typed (elem_items.Exprs t es) e = type_is t (and_parts (same_type t FuncRef) (list_all (is_constant m FuncRef) es) e).0

  held_type : (e : Elem) (x : List (Option Ref)) → ElemFits m e → item_type (held_elem e x).items ≡ item_type e.items
  held_type e [] fits = sym (items_typed e.items (and_parts (elem_mode_fits m e.mode) (items_fit m e.items) fits.1).1)
  held_type e (r ∷ rs) fits = refl

  elems_same : (es : List Elem) (xs : List (List (Option Ref))) (more : List Elem) → All (ElemFits m) es → AreElems m es xs
      → (k : ℕ) → Extends (slice_get es k >>= type_of_elem) (slice_get (held_elems es xs ++ more) k >>= type_of_elem)
  elems_same [] xs more all are k t e = absurd cc
  elems_same (e ∷ es) [] more all are k t q = absurd are
  elems_same (e ∷ es) (x ∷ xs) more all are zero t q = ap Some (held_type e x (All-head (ElemFits m) e es all)) ∙ q
  elems_same (e ∷ es) (x ∷ xs) more all are (suc k) t q = elems_same es xs more (All-tail (ElemFits m) e es all) are.1 k t q

  -- the last of the segments names each function
  either_true : (b c : Bool) → (b ≡ false → c ≡ true) → (b || c) ≡ true
  either_true true c so = refl
  either_true false c so = so refl

  below_has : (f k : ℕ) → f < k → list_any (nat_eq f) (below k) ≡ true
  below_has f zero lt = absurd (omega arith)
  below_has f (suc k) lt = either_true (nat_eq f k) (list_any (nat_eq f) (below k)) (λ q. below_has f k (grind (arith, nat_tests)))

  any_last : (f : ℕ) (es more : List Elem) (e : Elem) → elem_refers f e ≡ true → list_any (elem_refers f) (es ++ (more ++ e ∷ [])) ≡ true
  any_last f [] [] e q = rw q refl
  any_last f [] (x ∷ more) e q = either_true (elem_refers f x) (list_any (elem_refers f) (more ++ e ∷ [])) (λ r. any_last f [] more e q)
  any_last f (x ∷ es) more e q = either_true (elem_refers f x) (list_any (elem_refers f) (es ++ (more ++ e ∷ []))) (λ r. any_last f es more e q)

  refers_more : (f : ℕ) → refers m f ≡ true → refers N f ≡ true
  refers_more f e =
      let there = (and_parts (is_function m f) (list_any (elem_refers f) m.elems || list_any (export_refers f) m.exports || list_any (global_refers f) m.globals) e).0 in
      let lt = ltb-true f (length (function_space m)) there in
      let found = any_last f (held_elems m.elems p.elems) (table_elems 0 w.tables) (declared_elem m) (below_has f (length (function_space m)) lt) in
      rw (there, found) refl

  module _ (none : fault m ≡ None) (alone : IsTrue (imports_functions m)) (can : CanBeHeld m p memory w) where
    supported : All (λ (s : Elem). is_supported (item_type s.items) ≡ true) m.elems
    supported =
        let whole = neither (support_fault m) (module_fault m or_else first_in (body_typed m) 0 m.codes) none in
        let one = neither (first_in (import_supported m) 0 m.imports) _ whole.0 in
        let two = neither (first_in (function_supported m) 0 m.funcs) _ one.1 in
        let three = neither (first_in table_supported 0 m.tables) _ two.1 in
        let four = neither (first_in global_supported 0 m.globals) _ three.1 in
        let five = neither (first_in elem_supported 0 m.elems) _ four.1 in
        each_of elem_supported (λ (s : Elem). is_supported (item_type s.items) ≡ true) (λ k s. holds_so (is_supported (item_type s.items)) (UnsupportedType (place.Element k))) 0 m.elems five.0

    elems_fit : All (ElemFits m) m.elems
    elems_fit = all_both (λ (s : Elem). is_supported (item_type s.items) ≡ true) (λ s. elem_fits m s ≡ true) m.elems supported (all_pass (elem_fits m) m.elems (parts_fit m none).elems)

    carries : (f : FuncType) (c : Code) → Carries kept 0 (body_context m f c) (body_context N f c)
    carries f c = record {
      types = λ t x e. e;
      functions = λ k x e. e;
      globals = λ g x e. ap (λ (l : List GlobalType). slice_get (imports_of globals_in m.imports ++ l) g) (globals_same m.globals p.globals can.globals) ∙ e;
      tables = λ t x e. tables_same (imports_of tables_in m.imports) m.tables p.tables w.tables can.tables t ∙ e;
      elems = elems_same m.elems p.elems (table_elems 0 w.tables ++ declared_elem m ∷ []) elems_fit can.elems;
      memory = λ e. ap (λ (l : List Limits). is_some_memory (l ++ held_memories m.memories memory)) (no_memories m.imports alone) ∙ ap (λ (l : List Limits). is_some_memory (held_memories l memory)) can.memory_is.only;
      datas = λ s e. more_datas s e;
      refers = refers_more;
      locals = refl;
      results = refl;
    }
      where
        more_datas : (s : ℕ) → nat_lt s (length m.datas) ≡ true → nat_lt s (length (held_datas p.datas w.memory)) ≡ true
        more_datas s e =
            let same = can.datas in
            let one = length-append (map passive_data p.datas) (map memory_data w.memory) in
            let two = length-map p.datas passive_data in
            let lt = ltb-true s (length m.datas) e in
            lt-ltb s (length (held_datas p.datas w.memory)) (omega arith)

    body_still : (k : ℕ) (c : Code) → body_typed m k c ≡ None → body_typed N k c ≡ None
    body_still k c e =
        let has = holds_so (is_some (body_height m k c)) (BadBody k) e in
        let h = some_of (body_height m k c) has in
        so_none (is_some (body_height N k c)) (BadBody k) (ap is_some (heights k c h.0 h.1))
      where
        some_of : (o : Option ℕ) → is_some o ≡ true → (n : ℕ) × (o ≡ Some n)
        some_of None q = absurd cc
        some_of (Some n) q = (n, refl)

        heights : (k : ℕ) (c : Code) (h : ℕ) → body_height m k c ≡ Some h → body_height N k c ≡ Some h
        heights k c h q =
            let f = went_on (type_of_body m k) (λ f. height (body_context m f c) c.body.list) h q in
            let moved = height_carried kept 0 (body_context m f.0 c) (body_context N f.0 c) (carries f.0 c) c.body.list h f.2 in
            ap (λ (o : Option FuncType). o >>= λ f. height (body_context N f c) c.body.list) f.1
            ∙ ap (height (body_context N f.0 c)) (sym (code_same c.body.list)) ∙ moved

    bodies_still : (k : ℕ) (cs : List Code) → first_in (body_typed m) k cs ≡ None → first_in (body_typed N) k cs ≡ None
    bodies_still k [] e = refl
    bodies_still k (c ∷ cs) e =
        let parts = neither (body_typed m k c) (first_in (body_typed m) (k + 1) cs) e in
        both_none (body_typed N k c) (first_in (body_typed N) (k + 1) cs) (body_still k c parts.0) (bodies_still (k + 1) cs parts.1)

    -- ---- the parts

    imports_fit : All (ImportFits N) m.imports
    imports_fit =
        let whole = neither (support_fault m) (module_fault m or_else first_in (body_typed m) 0 m.codes) none in
        let one = neither (first_in (import_supported m) 0 m.imports) _ whole.0 in
        let first = each_of (import_supported m) (λ (i : Import). desc_supported N i.desc ≡ true) (λ k i e. desc_same i.desc ∙ holds_so (desc_supported m i.desc) (UnsupportedType (place.Import k)) e) 0 m.imports one.0 in
        let second = all_pass (import_fits m) m.imports (parts_fit m none).imports in
        all_both (λ (i : Import). desc_supported N i.desc ≡ true) (λ i. import_fits N i ≡ true) m.imports first
        (all_so (λ i. import_fits m i ≡ true) (λ i. import_fits N i ≡ true) (λ i e. import_same i ∙ e) m.imports second)

    funcs_fit : All (TypeFits N) m.funcs
    funcs_fit =
        let whole = neither (support_fault m) (module_fault m or_else first_in (body_typed m) 0 m.codes) none in
        let one = neither (first_in (import_supported m) 0 m.imports) _ whole.0 in
        let two = neither (first_in (function_supported m) 0 m.funcs) _ one.1 in
        let first = each_of (function_supported m) (λ t. type_supported N t ≡ true) (λ k t e. type_same t ∙ holds_so (type_supported m t) (UnsupportedType (place.Function k)) e) 0 m.funcs two.0 in
        all_both (λ t. type_supported N t ≡ true) (λ t. is_type N t ≡ true) m.funcs first (all_pass (is_type m) m.funcs (parts_fit m none).functions)

    bodies_supported : first_in (body_supported N) 0 m.codes ≡ None
    bodies_supported =
        let whole = neither (support_fault m) (module_fault m or_else first_in (body_typed m) 0 m.codes) none in
        let one = neither (first_in (import_supported m) 0 m.imports) _ whole.0 in
        let two = neither (first_in (function_supported m) 0 m.funcs) _ one.1 in
        let three = neither (first_in table_supported 0 m.tables) _ two.1 in
        let four = neither (first_in global_supported 0 m.globals) _ three.1 in
        let five = neither (first_in elem_supported 0 m.elems) _ four.1 in
        ap (λ (h : ℕ → Code → Finding). first_in h 0 m.codes) (λ j k c. body_same k c j) ∙ five.1

    one_memory : nat_le (length (memory_space N)) 1 ≡ true
    one_memory =
        rw (no_memories m.imports alone) (ap (λ (l : List Limits). nat_le (length (held_memories l memory)) 1) can.memory_is.only)

    memory_there : nat_lt 0 (length (memory_space N)) ≡ true
    memory_there = rw (no_memories m.imports alone) (ap (λ (l : List Limits). nat_lt 0 (length (held_memories l memory))) can.memory_is.only)

    memories_bounded : list_all memory_bounded N.memories ≡ true
    memories_bounded =
        let is = can.memory_is in
        let fits : (memory_bounded is.limits && true) ≡ true = subst (λ l. list_all memory_bounded l ≡ true) is.only (parts_fit m none).memories in
        let few : pages memory ≤ unwrap_or is.limits.max most_pages = subst (λ k. pages memory ≤ k) is.most is.is.few in
        let bounded = max_bounded is.limits (pages memory) (and_parts (memory_bounded is.limits) true fits).0 few in
        ap (λ (l : List Limits). list_all memory_bounded (held_memories l memory)) is.only ∙ and_from _ true bounded refl

    datas_active : (ss : List (Stretch ℕ)) → list_all (data_fits N) (map memory_data ss) ≡ true
    datas_active [] = refl
    datas_active (s ∷ ss) = and_from _ _ (and_from _ _ memory_there (offset_constant s.at)) (datas_active ss)

    datas_fit : (ds : List (List ℕ)) (ss : List (Stretch ℕ)) → list_all (data_fits N) (held_datas ds ss) ≡ true
    datas_fit [] ss = datas_active ss
    datas_fit (d ∷ ds) ss = datas_fit ds ss

    abbrev AllReferences : Stretch (Option Ref) → Type 0
    AllReferences s = All (IsReference m) s.items

    table_elems_fit : (k : ℕ) → has_functions (slice_get (table_space N) k) ≡ true → (ss : List (Stretch (Option Ref))) → All AllReferences ss
        → All (ElemFits N) (map (table_elem k) ss)
    table_elems_fit k has [] all = All-nil (ElemFits N)
    table_elems_fit k has (s ∷ ss) all =
        let entries = entries_fit s.items (All-head AllReferences s ss all) in
        All-cons (ElemFits N) (table_elem k s) (map (table_elem k) ss) (refl, and_from _ _ (and_from _ _ has (offset_constant s.at)) entries)
        (table_elems_fit k has ss (All-tail AllReferences s ss all))

    tables_elems_fit : (ts : List TableType) (xs : List TableInstance) (more : List (List (Stretch (Option Ref)))) → AreTables m ts xs more → (k : ℕ)
        → ((i : ℕ) → i < length more → (ty : TableType) × (slice_get N.tables (k + i) ≡ Some ty) × (ty.elem ≡ FuncRef))
        → All (ElemFits N) (table_elems k more)
    tables_elems_fit [] [] [] are k there = All-nil (ElemFits N)
    tables_elems_fit (t ∷ ts) (x ∷ xs) (ss ∷ more) are k there =
        let first = there 0 (omega arith) in
        let place : k + 0 ≡ k = omega arith in
        let found : slice_get (table_space N) k ≡ Some first.0 = rw (no_tables m.imports alone) (ap (λ i. slice_get N.tables i) (sym place) ∙ first.1) in
        let has : has_functions (slice_get (table_space N) k) ≡ true = rw found (ap (λ u. same_type u FuncRef) first.2) in
        All-append (ElemFits N) (map (table_elem k) ss) (table_elems (k + 1) more) (table_elems_fit k has ss are.0.references)
        (tables_elems_fit ts xs more are.1 (k + 1)
        (λ i lt. (let later = there (suc i) (omega arith) in let place : k + suc i ≡ k + 1 + i = omega arith in (later.0, ap (λ j. slice_get N.tables j) (sym place) ∙ later.1, later.2))))
    tables_elems_fit _ _ _ are k there = absurd are

    -- the stretches of tables, and the segment that names each function
    last_elems_fit : All (ElemFits N) (table_elems 0 w.tables ++ declared_elem m ∷ [])
    last_elems_fit =
        All-append (ElemFits N) (table_elems 0 w.tables) (declared_elem m ∷ [])
        (tables_elems_fit m.tables p.tables w.tables can.tables 0
        (λ i lt. (let found = table_there m.tables p.tables w.tables can.tables i lt in let place : 0 + i ≡ i = omega arith in (found.0, ap (λ j. slice_get N.tables j) place ∙ found.1, found.2))))
        (All-cons (ElemFits N) (declared_elem m) [] (refl, functions_fit (length (function_space m)) (omega arith)) (All-nil (ElemFits N)))

    module _ (start : nullary_at (function_type m entry) ≡ true) where
      entry_there : is_function m entry ≡ true
      entry_there = go (function_type m entry) refl start
        where
          go : (o : Option FuncType) → function_type m entry ≡ o → nullary_at o ≡ true → is_function m entry ≡ true
          go None q e = absurd cc
          go (Some ty) q e = function_is entry ty q

      exports_there : list_all (export_fits N) (entry_exports entry) ≡ true
      exports_there = and_from _ _ entry_there (and_from _ _ memory_there refl)

      pub fits : Fits N
      fits = record {
        imports = imports_fit;
        funcs = funcs_fit;
        tables = tables_fit m.tables p.tables w.tables can.tables;
        one_memory = one_memory;
        memories = memories_bounded;
        globals = globals_fit m.globals p.globals can.globals;
        names = refl;
        exports = exports_there;
        start = refl;
        elems = All-append (ElemFits N) (held_elems m.elems p.elems) (table_elems 0 w.tables ++ declared_elem m ∷ []) (held_all_fit m.elems p.elems elems_fit) last_elems_fit;
        datas = datas_fit p.datas w.memory;
        supported = bodies_supported;
        typed = bodies_still 0 m.codes (neither (module_fault m) (first_in (body_typed m) 0 m.codes) (neither (support_fault m) (module_fault m or_else first_in (body_typed m) 0 m.codes) none).1).1;
      }

      pub held_valid : fault N ≡ None
      held_valid = fits_valid N fits
