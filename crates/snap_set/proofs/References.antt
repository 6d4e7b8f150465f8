-- References of the units that a module has the parts of are references of the module.
use Rattle.std.proofs.Common.{◌≡◌, ℕ, zero, suc, ◌-◌, Bool, true, false, List, [], ◌∷◌, ◌++◌, length, slice_get, nat_lt, Option, Some, None, option_map, refl, sym, ap, ◌∙◌}
use Rattle.std.specs.Prelude.{is_some}
use Rattle.std.specs.List.{list_all}
use Rattle.std.proofs.lemmas.Bool.{and_parts, ltb-true, lt-ltb}
use Rattle.std.proofs.lemmas.Option.{slice_get_within}
use Rattle.spec_loading.specs.wasm_form.declared.types.FuncType.{FuncType}
use Rattle.spec_loading.specs.wasm_form.declared.module.Import.{Import}
use Rattle.spec_loading.specs.wasm_form.declared.module.ImportDesc.{ImportDesc}
use Rattle.spec_loading.specs.wasm_form.declared.module.ImportDesc.TheVariants as imported
use Rattle.spec_loading.specs.wasm_form.declared.module.Module.{Module}
use Rattle.spec_loading.specs.wasm_form.declared.runtime.Ref.{Ref}
use Rattle.spec_loading.specs.wasm_form.declared.runtime.Ref.TheVariants.{Own, Loader, Host, Stub}
use Rattle.spec_loading.specs.spec_binary.Options.{◌>>=◌}
use Rattle.spec_loading.specs.spec_binary.Indices.{Function, function_type, function_at, function_with}
use Rattle.spec_loading.specs.spec_binary.IndexSpaces.{imports_of, functions_in, imported_count}
use Rattle.spec_loading.proofs.of_spec_binary.Lists.{slice_get-append-left}
use Rattle.spec_loading.specs.spec_validation.Faults.{is_type, import_fits}
use Rattle.spec_loading.specs.spec_runtime.Names.{HostName}
use Rattle.spec_loading.specs.spec_execution.Views.{type_of}
use Rattle.spec_loading.specs.spec_execution.Ranges.{Exists}
use Rattle.spec_loading.specs.spec_execution.Instances.{Instances, store_view, module_target, module_hosts, imported_hosts}
use Rattle.spec_loading.proofs.of_spec_safety.Lookups.{went_on, got}
use Rattle.merge_match.specs.Renumbering.{Numbers, reference, function}
use Rattle.merge_match.specs.Following.{trapping}
use Rattle.merge_match.specs.Parts.{Parts}
use Rattle.spec_loading.proofs.of_spec_validation.Parts.{parts_fit}
use Rattle.spec_loading.specs.spec_linking.LinkedSets.{set_hosts}
use Rattle.spec_loading.specs.Members.{set_instances}
use Rattle.snap_module.specs.Held.{IsReference}
use Rattle.snap_set.specs.Laws.{ReferencesAreKept}

some_of : {A : Type 0} (o : Option A) → is_some o ≡ true → (a : A) × (o ≡ Some a)
some_of None e = absurd cc
some_of (Some a) e = (a, refl)

module _ (m : Module) where
  -- a function of its own
  pub own_target : (g : ℕ) (x : Function) → function_at m g ≡ Some x → module_target m g ≡ Some (Own 0 g)
  own_target g x e = go (nat_lt g (imported_count m)) refl
    where
      go : (b : Bool) → nat_lt g (imported_count m) ≡ b → module_target m g ≡ Some (Own 0 g)
      go true q = absurd (let bad : None ≡ Some x = rw q at e in cc)
      go false q =
          let there : (slice_get m.codes (g - imported_count m) >>= λ c. function_type m g >>= λ ty. Some (function_with ty c)) ≡ Some x = rw q at e in
          let c = went_on (slice_get m.codes (g - imported_count m)) (λ c. function_type m g >>= λ ty. Some (function_with ty c)) x there in
          let ty = went_on (function_type m g) (λ ty. Some (function_with ty c.0)) x c.2 in
          rw (ty.1, q) refl

  -- a host function, where each import has a type
  host_at : (is : List Import) → list_all (import_fits m) is ≡ true → (k : ℕ) (h : HostName) → slice_get (imported_hosts m is) k ≡ Some h
      → (t : ℕ) × (ty : FuncType) × (slice_get (imports_of functions_in is) k ≡ Some t) × (slice_get m.types t ≡ Some ty)
  host_at [] all k h e = absurd cc
  host_at (i ∷ is) all k h e = go i.desc refl k e (host_at is (and_parts (import_fits m i) (list_all (import_fits m) is) all).1)
    where
      go : (d : ImportDesc) → i.desc ≡ d → (k : ℕ) → slice_get (imported_hosts m (i ∷ is)) k ≡ Some h
          → ((k : ℕ) (h : HostName) → slice_get (imported_hosts m is) k ≡ Some h → (t : ℕ) × (ty : FuncType) × (slice_get (imports_of functions_in is) k ≡ Some t) × (slice_get m.types t ≡ Some ty))
          → (t : ℕ) × (ty : FuncType) × (slice_get (imports_of functions_in (i ∷ is)) k ≡ Some t) × (slice_get m.types t ≡ Some ty)
      go (imported.Func t) q zero at more =
          let fits : is_type m t ≡ true = (let f = (and_parts (import_fits m i) (list_all (import_fits m) is) all).0 in rw q at f) in
          let ty = got m.types t (ltb-true t (length m.types) fits) in
          (t, ty.0, ap (λ d. slice_get (functions_in d ++ imports_of functions_in is) zero) q, ty.1)
      go (imported.Func t) q (suc k) at more =
          let fits : is_type m t ≡ true = (let f = (and_parts (import_fits m i) (list_all (import_fits m) is) all).0 in rw q at f) in
          let ty = got m.types t (ltb-true t (length m.types) fits) in
          let later : slice_get (imported_hosts m is) k ≡ Some h = rw (q, ty.1) at at in
          let found = more k h later in
          (found.0, found.1, ap (λ d. slice_get (functions_in d ++ imports_of functions_in is) (suc k)) q ∙ found.2, found.3)
      go (imported.Table ty) q k at more = (let found = more k h (rw q at at) in (found.0, found.1, ap (λ d. slice_get (functions_in d ++ imports_of functions_in is) k) q ∙ found.2, found.3))
      go (imported.Space limits) q k at more = (let found = more k h (rw q at at) in (found.0, found.1, ap (λ d. slice_get (functions_in d ++ imports_of functions_in is) k) q ∙ found.2, found.3))
      go (imported.Global ty) q k at more = (let found = more k h (rw q at at) in (found.0, found.1, ap (λ d. slice_get (functions_in d ++ imports_of functions_in is) k) q ∙ found.2, found.3))

  host_target : list_all (import_fits m) m.imports ≡ true → (k : ℕ) (h : HostName) → module_hosts m k ≡ Some h → module_target m k ≡ Some (Host k)
  host_target all k h e =
      let found = host_at m.imports all k h e in
      let within = slice_get_within (imports_of functions_in m.imports) k found.0 found.2 in
      let named = lt-ltb k (imported_count m) within in
      let space = slice_get-append-left (imports_of functions_in m.imports) m.funcs k within ∙ found.2 in
      rw (space, found.3, named) refl

module _ (n : Numbers) (I : Instances) (names : ℕ → Option HostName) (m : Module) (parts : Parts n I names m) (all : list_all (import_fits m) m.imports ≡ true) where
  pub references_hold : (r : Ref) → Exists (store_view I) r → IsReference m (Some (reference n r))
  references_hold (Own unit f) is =
      let ty = some_of (type_of (store_view I) (Own unit f)) is in
      let x = went_on (I.code unit f) (λ x. Some x.ty) ty.0 ty.1 in
      own_target m (n.function (Own unit f)) (function n unit x.0) (parts.functions unit f ∙ ap (option_map (function n unit)) x.1)
  references_hold (Loader which) is =
      let ty = some_of (type_of (store_view I) (Loader which)) is in
      let x = went_on (function_at m (n.function (Loader which))) (λ x. Some x.ty) ty.0 (parts.loader which ∙ ty.1) in
      own_target m (n.function (Loader which)) x.0 x.1
  references_hold (Host entry) is =
      let ty = some_of (type_of (store_view I) (Host entry)) is in
      let h = went_on (names entry) (λ h. Some h.ty) ty.0 (sym (parts.types_of_hosts entry) ∙ ty.1) in
      host_target m all (n.function (Host entry)) h.0 (parts.hosts entry ∙ h.1)
  references_hold (Stub unit f) is =
      let ty = some_of (type_of (store_view I) (Stub unit f)) is in
      own_target m (n.function (Stub unit f)) (trapping ty.0) (parts.stubs unit f ∙ ap (option_map trapping) ty.1)

pub references_are_kept : ReferencesAreKept
references_are_kept L n merged parts valid r is =
    references_hold n (set_instances L) (set_hosts L) merged parts (parts_fit merged valid).imports r is
