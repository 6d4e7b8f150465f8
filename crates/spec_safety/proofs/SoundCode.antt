-- The code of a valid module is typed.
use Rattle.std.proofs.Common.{◌≡◌, ℕ, zero, suc, ◌+◌, ◌-◌, ◌<◌, Bool, true, false, List, [], ◌∷◌, ◌++◌, length, map, Some, refl, sym, ap, ◌∙◌, subst, arith}
use Rattle.std.specs.Prelude.{slice_get, nat_lt, if◌then◌else◌}
use Rattle.std.specs.List.{All, list_all}
use Rattle.std.proofs.lemmas.Bool.{ltb-true, ltb-false, and_parts}
use Rattle.std.proofs.lemmas.List.{length-append}
use Rattle.std.proofs.lemmas.Option.{slice_get_within}
use Rattle.std.proofs.lemmas.List.Elements.{All-head, All-tail, All-weaker}
use Rattle.spec_execution.specs.wasm_form.declared.types.ValType.{ValType}
use Rattle.spec_execution.specs.wasm_form.declared.types.FuncType.{FuncType}
use Rattle.spec_execution.specs.wasm_form.declared.types.TableType.{TableType}
use Rattle.spec_execution.specs.wasm_form.declared.types.GlobalType.{GlobalType}
use Rattle.spec_execution.specs.wasm_form.declared.module.ImportDesc.{ImportDesc}
use Rattle.spec_execution.specs.wasm_form.declared.module.ImportDesc.TheVariants as imported
use Rattle.spec_execution.specs.wasm_form.declared.module.Import.{Import}
use Rattle.spec_execution.specs.wasm_form.declared.module.Module.{Module}
use Rattle.spec_execution.specs.wasm_form.declared.runtime.Ref.{Ref}
use Rattle.spec_execution.specs.wasm_form.declared.runtime.Ref.TheVariants.{Own, Host}
use Rattle.spec_execution.specs.spec_binary.Options.{◌>>=◌}
use Rattle.spec_execution.specs.spec_binary.WellFormed.{is_reference_type, IsFormedCode}
use Rattle.spec_execution.specs.spec_binary.BodyLimits.{IsWithinLimits}
use Rattle.spec_execution.specs.spec_binary.Indices.{function_type}
use Rattle.spec_execution.specs.spec_binary.IndexSpaces.{functions_in, imports_of, function_space, table_space, imported_count}
use Rattle.spec_execution.proofs.of_spec_binary.Lists.{holds_at}
use Rattle.spec_execution.specs.spec_validation.Faults.{desc_fits, import_fits, elem_of_table}
use Rattle.spec_execution.proofs.of_spec_validation.Parts.{AreFit, parts_fit}
use Rattle.spec_execution.specs.Values.{is_number}
use Rattle.spec_execution.specs.Views.{type_of}
use Rattle.spec_execution.specs.Instances.{function_named, module_target, hosts_in, named_host, imported_hosts, module_hosts, host_type, module_instances, module_view, module_context, module_names}
use Rattle.spec_safety.specs.Laws.{IsAlone}
use Rattle.spec_safety.proofs.Lookups.{went_on, got}
use Rattle.spec_safety.proofs.Spaces.{IsFunctionImport, ImportsFunctions, all_functions, own_tables}
use Rattle.spec_safety.specs.TypedViews.{HoldTypes, IsTypedView}
use Rattle.spec_safety.specs.SoundModules.{HoldsNumbers}
use Rattle.spec_safety.proofs.KnownStacks.{some_same}
use Rattle.spec_safety.proofs.SoundStores.{store_is_typed}
use Rattle.spec_safety.proofs.ValidCode.{no_number, refers_typed, body_typed}

-- ---- host functions have the types of their imports

module _ (m : Module) where
  hosts_typed : (is : List Import) → ImportsFunctions is → list_all (import_fits m) is ≡ true → (f t : ℕ) (ty : FuncType) → slice_get (imports_of functions_in is) f ≡ Some t → slice_get m.types t ≡ Some ty → host_type (slice_get (imported_hosts m is) f) ≡ Some ty
  hosts_typed [] alone fit f t ty e h = absurd cc
  hosts_typed (i ∷ is) alone fit f t ty e h =
      let fits = and_parts (import_fits m i) (list_all (import_fits m) is) fit in
      one i.desc (hosts_typed is (All-tail (λ i. IsFunctionImport i.desc) i is alone) fits.1) (All-head (λ i. IsFunctionImport i.desc) i is alone) fits.0 f e
    where
      one : (d : ImportDesc) → ((f t : ℕ) (ty : FuncType) → slice_get (imports_of functions_in is) f ≡ Some t → slice_get m.types t ≡ Some ty → host_type (slice_get (imported_hosts m is) f) ≡ Some ty) → IsFunctionImport d → desc_fits m d ≡ true → (f : ℕ) → slice_get (functions_in d ++ imports_of functions_in is) f ≡ Some t → host_type (slice_get (map (named_host i) (hosts_in m d) ++ imported_hosts m is) f) ≡ Some ty
      one (imported.Func u) more a q zero e =
          let same : u ≡ t = some_same e in
          rw (same, h) refl
      one (imported.Func u) more a q (suc f) e =
          let u' = got m.types u (ltb-true u (length m.types) q) in
          rw u'.1 (more f t ty e h)
      one (imported.Table x) more a q f e = absurd a
      one (imported.Space x) more a q f e = absurd a
      one (imported.Global x) more a q f e = absurd a

  module _ (alone : IsAlone m) where
    fit : AreFit m
    fit = parts_fit m alone.valid

    functions_alone : ImportsFunctions m.imports
    functions_alone = all_functions m.imports alone.imports

    -- the name of a function leads to one of its type
    named_typed : (f : ℕ) (ty : FuncType) → function_type m f ≡ Some ty → f < length (function_space m) → type_of (module_view m) (function_named m f) ≡ Some ty
    named_typed f ty e lt = go (nat_lt f (imported_count m)) refl
      where
        hosted : nat_lt f (imported_count m) ≡ true → host_type (module_hosts m f) ≡ Some ty
        hosted q =
            let t = went_on (slice_get (function_space m) f) (λ t. slice_get m.types t) ty e in
            let inside : f < length (imports_of functions_in m.imports) = ltb-true f (imported_count m) q in
            hosts_typed m.imports functions_alone fit.imports f t.0 ty (sym (left (imports_of functions_in m.imports) m.funcs f inside) ∙ t.1) t.2
          where
            left : (xs ys : List ℕ) (n : ℕ) → n < length xs → slice_get (xs ++ ys) n ≡ slice_get xs n
            left [] ys n h = absurd (omega arith)
            left (x ∷ xs) ys zero h = refl
            left (x ∷ xs) ys (suc n) h = left xs ys n (omega arith)

        own : nat_lt f (imported_count m) ≡ false → type_of (module_view m) (Own 0 f) ≡ Some ty
        own q =
            let le = ltb-false f (imported_count m) q in
            let bodies : length m.codes ≡ length m.funcs = alone.formed.counts.bodies in
            let many = size in
            let c = got m.codes (f - imported_count m) (omega arith) in
            rw (q, c.1, e) refl
          where
            size : length (function_space m) ≡ imported_count m + length m.funcs
            size = length-append (imports_of functions_in m.imports) m.funcs

        go : (b : Bool) → nat_lt f (imported_count m) ≡ b → type_of (module_view m) (if b then Host f else Own 0 f) ≡ Some ty
        go true q = hosted q
        go false q = own q

    pub function_typed : (unit f : ℕ) (ty : FuncType) → function_type m f ≡ Some ty → (r : Ref) × (module_target m f ≡ Some r) × (type_of (module_view m) r ≡ Some ty)
    function_typed unit f ty e =
        let t = went_on (slice_get (function_space m) f) (λ t. slice_get m.types t) ty e in
        let lt = slice_get_within (function_space m) f t.0 t.1 in
        (function_named m f, rw e refl, named_typed f ty e lt)

    table_typed : (unit t : ℕ) (ty : ValType) → (slice_get (table_space m) t >>= elem_of_table) ≡ Some ty → is_number ty ≡ false
    table_typed unit t ty e =
        let x = went_on (slice_get (table_space m) t) elem_of_table ty e in
        let at : slice_get m.tables t ≡ Some x.0 = subst (λ (ts : List TableType). slice_get ts t ≡ Some x.0) (own_tables m functions_alone) x.1 in
        let formed = holds_at (λ (ty : TableType). is_reference_type ty.elem ≡ true) m.tables t x.0 alone.formed.tables.1 at in
        subst (λ z. is_number z ≡ false) (some_same x.2) (no_number x.0.elem formed)

    limits : All IsWithinLimits m.codes
    limits = All-weaker IsFormedCode IsWithinLimits (λ c is. is.limits) m.codes alone.formed.codes.1

    pub checked_is_typed : HoldsNumbers m → IsTypedView (module_view m) (module_names m) (HoldTypes (module_view m) (module_names m))
    checked_is_typed numbers = store_is_typed (module_instances m) (module_names m) (record {
      types = λ unit. refl;
      functions = function_typed;
      refers = λ unit f e. refers_typed m alone.valid f e;
      globals = λ unit g other k t u e f same. ap (λ (x : GlobalType). x.value) (some_same (sym e ∙ ap (module_context m).globals (some_same same) ∙ f));
      tables = table_typed;
      code = λ unit f x e. body_typed m alone.valid limits numbers f x e;
    })
