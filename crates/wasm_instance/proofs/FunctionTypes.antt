-- The types of functions of a module without a fault.
use Rattle.std.proofs.Common.{◌≡◌, ℕ, zero, suc, ◌-◌, ◌<◌, ◌≤◌, Bool, true, false, List, [], ◌∷◌, ◌++◌, length, get_or, refl, ap, ◌∙◌, sym, subst}
use Rattle.std.specs.Prelude.{None, Some, Option, slice_get, nat_lt, is_some, IsSome, map}
use Rattle.std.specs.List.{list_all}
use Rattle.std.proofs.lemmas.Bool.{ltb-true, ltb-false, and_parts}
use Rattle.std.proofs.lemmas.List.{get_or_default}
use Rattle.std.proofs.lemmas.Option.{slice_get-get_or, slice_get_within, get_or_from_slice_get}
use Rattle.wasm_form.specs.declared.types.FuncType.{FuncType}
use Rattle.wasm_form.specs.declared.module.ImportDesc.{ImportDesc}
use Rattle.wasm_form.specs.declared.module.ImportDesc.TheVariants as imported
use Rattle.wasm_form.specs.declared.module.Import.{Import}
use Rattle.wasm_form.specs.declared.module.Code.{Code}
use Rattle.wasm_form.specs.declared.module.Module.{Module}
use Rattle.wasm_form.specs.declared.runtime.Ref.{Ref}
use Rattle.wasm_form.specs.declared.runtime.LoaderCall.{LoaderCall}
use Rattle.wasm_form.specs.declared.runtime.Ref.TheVariants.{Host, Loader, Stub}
use Rattle.spec_safety.specs.spec_binary.Options.{◌>>=◌}
use Rattle.spec_safety.specs.spec_binary.IndexSpaces.{imports_of, functions_in, function_space, imported_count}
use Rattle.spec_safety.specs.spec_validation.Faults.{fault, is_type, import_fits, desc_fits}
use Rattle.spec_safety.specs.spec_binary.Indices.{function_type, function_at}
use Rattle.spec_safety.proofs.of_spec_validation.Parts.{parts_fit, function_types}
use Rattle.spec_safety.specs.spec_execution.Instances.{function_named, module_target, hosts_in, named_host, imported_hosts, module_hosts, host_type, module_view}
use Rattle.spec_safety.specs.spec_execution.Views.{type_of}
use Rattle.wasm_instance.specs.Imports.{function_after}
use Rattle.wasm_instance.proofs.Lists.{all_at}

-- ---- imports

nullary : FuncType
nullary = record { params = []; results = [] }

type_at : (m : Module) (t : ℕ) → is_type m t ≡ true → (ty : FuncType) × (slice_get m.types t ≡ Some ty)
type_at m t e = (get_or m.types t nullary, slice_get-get_or m.types t nullary (ltb-true t (length m.types) e))

abbrev type_in : Module → Option ℕ → Option FuncType
type_in m found = found >>= λ t. slice_get m.types t

-- of so many imports the host functions have these types
abbrev AreTyped : Module → List Import → Type 0
AreTyped m is = (k : ℕ) → host_type (slice_get (imported_hosts m is) k) ≡ type_in m (slice_get (imports_of functions_in is) k)

typed_first : (m : Module) (i : Import) (is : List Import) → AreTyped m is → (t : ℕ) (ty : FuncType) → slice_get m.types t ≡ Some ty
    → (k : ℕ) → host_type (slice_get (named_host i ty ∷ imported_hosts m is) k) ≡ type_in m (slice_get (t ∷ imports_of functions_in is) k)
typed_first m i is later t ty type zero = sym type
typed_first m i is later t ty type (suc k) = later k

typed_next : (m : Module) (i : Import) (is : List Import) → AreTyped m is → (d : ImportDesc) → desc_fits m d ≡ true
    → (k : ℕ) → host_type (slice_get (map (named_host i) (hosts_in m d) ++ imported_hosts m is) k) ≡ type_in m (slice_get (functions_in d ++ imports_of functions_in is) k)
typed_next m i is later (imported.Func t) fits k = let ty = type_at m t fits in rw ty.1 (typed_first m i is later t ty.0 ty.1 k)
typed_next m i is later (imported.Table ty) fits k = later k
typed_next m i is later (imported.Space limits) fits k = later k
typed_next m i is later (imported.Global ty) fits k = later k

are_typed : (m : Module) (is : List Import) → list_all (import_fits m) is ≡ true → AreTyped m is
are_typed m [] fits = λ k. refl
are_typed m (i ∷ is) fits =
    let b = and_parts (import_fits m i) (list_all (import_fits m) is) fits in
    typed_next m i is (are_typed m is b.1) i.desc b.0

-- ---- functions

-- the number is that of a function that the module defines
pub record IsOwn (m : Module) (f : ℕ) : Type 0 where
  pub past : imported_count m ≤ f
  pub inside : f - imported_count m < length m.codes

pub is_own : (m : Module) (f : ℕ) → IsSome (function_at m f) → IsOwn m f
is_own m f some = imported (nat_lt f (imported_count m)) refl
  where
    defined : nat_lt f (imported_count m) ≡ false → (code : Option Code) → slice_get m.codes (f - imported_count m) ≡ code → IsOwn m f
    defined past (Some code) q = record { past = ltb-false f (imported_count m) past; inside = slice_get_within m.codes (f - imported_count m) code q }
    defined past None q = absurd (let h = rw (past, q) at some in cc)

    imported : (b : Bool) → nat_lt f (imported_count m) ≡ b → IsOwn m f
    imported true q = absurd (let h = rw q at some in cc)
    imported false q = defined q (slice_get m.codes (f - imported_count m)) refl

module _ (m : Module) (valid : fault m ≡ None) where
  typed : (f : ℕ) → f < length (function_space m) → (ty : FuncType) × (function_type m f ≡ Some ty)
  typed f inside =
      let t : ℕ = get_or (function_space m) f 0 in
      let one : slice_get (function_space m) f ≡ Some t = slice_get-get_or (function_space m) f 0 inside in
      let two = type_at m t (all_at (is_type m) (function_space m) f t inside (get_or_default (function_space m) f 0 t inside) (function_types m (parts_fit m valid))) in
      let three : function_type m f ≡ Some two.0 = rw one two.1 in
      (two.0, three)

  pub named_is : (f : ℕ) → f < length (function_space m) → Some (function_named m f) ≡ module_target m f
  named_is f inside = rw ((typed f inside).1) refl

  pub named_kept : (now : Module) (imported f : ℕ) (r : Ref) → m ≡ now → imported ≡ imported_count m → f < length (function_space now) → r ≡ function_after imported f → Some r ≡ module_target now f
  named_kept now imported f r same count inside is =
      let P : Module → Type 0 = λ x. f < length (function_space x) → Some r ≡ module_target x f in
      let named : P m = λ here. ap (λ (x : Ref). Some x) (is ∙ ap (λ (n : ℕ). function_after n f) count) ∙ named_is f here in
      subst P same named inside

  pub host_is : (e : ℕ) → host_type (module_hosts m e) ≡ type_in m (slice_get (imports_of functions_in m.imports) e)
  host_is e = are_typed m m.imports (parts_fit m valid).imports e

-- ---- the types of host functions

-- an imported function, by its place
pub record IsHost (m : Module) (e : ℕ) : Type 0 where
  pub number : ℕ
  pub ty : FuncType
  pub found : slice_get (imports_of functions_in m.imports) e ≡ Some number
  pub type : slice_get m.types number ≡ Some ty
  pub seen : host_type (module_hosts m e) ≡ Some ty

host_with : (m : Module) (e : ℕ) → host_type (module_hosts m e) ≡ type_in m (slice_get (imports_of functions_in m.imports) e) → IsSome (host_type (module_hosts m e))
    → (number : Option ℕ) → slice_get (imports_of functions_in m.imports) e ≡ number → (ty : Option FuncType) → type_in m number ≡ ty → IsHost m e
host_with m e same some (Some t) found (Some ty) type = record { number = t; ty = ty; found = found; type = type; seen = same ∙ ap (type_in m) found ∙ type }
host_with m e same some (Some t) found None type = absurd (let h = ap is_some (sym (same ∙ ap (type_in m) found ∙ type)) ∙ some in cc)
host_with m e same some None found ty type = absurd (let h = ap is_some (sym (same ∙ ap (type_in m) found)) ∙ some in cc)

module _ (m now : Module) (host_types : List ℕ) (r : Ref) (e : ℕ) (valid : fault m ≡ None) (same : m ≡ now) (hosts : host_types ≡ imports_of functions_in m.imports) (is : r ≡ Host e) (some : IsSome (type_of (module_view now) r)) where
  host : IsHost m e
  host =
      let there : IsSome (host_type (module_hosts m e)) = subst (λ (x : Module). IsSome (host_type (module_hosts x e))) (sym same) (subst (λ (x : Ref). IsSome (type_of (module_view now) x)) is some) in
      host_with m e (host_is m valid e) there (slice_get (imports_of functions_in m.imports) e) refl (type_in m (slice_get (imports_of functions_in m.imports) e)) refl

  found : slice_get host_types e ≡ Some host.number
  found = ap (λ (ts : List ℕ). slice_get ts e) hosts ∙ host.found

  pub host_within : e < length host_types
  host_within = slice_get_within host_types e host.number found

  numbered : (t : ℕ) → t ≡ get_or host_types e t → t ≡ host.number
  numbered t at = at ∙ get_or_from_slice_get host_types e host.number t found

  pub host_type_within : (t : ℕ) (types : List FuncType) → t ≡ get_or host_types e t → types ≡ m.types → t < length types
  host_type_within t types at all = rw (numbered t at, all) (slice_get_within m.types host.number host.ty host.type)

  pub host_type_is : (t : ℕ) (types : List FuncType) (ty : FuncType) → t ≡ get_or host_types e t → types ≡ m.types → ty ≡ get_or types t ty → Some ty ≡ type_of (module_view now) r
  host_type_is t types ty at all read =
      let one : ty ≡ get_or m.types host.number ty = read ∙ rw (numbered t at, all) refl in
      let two : ty ≡ host.ty = one ∙ get_or_from_slice_get m.types host.number host.ty ty host.type in
      let seen : Some ty ≡ host_type (module_hosts now e) = ap (λ (x : FuncType). Some x) two ∙ sym host.seen ∙ ap (λ (x : Module). host_type (module_hosts x e)) same in
      seen ∙ ap (type_of (module_view now)) (sym is)

-- there are no stubs
pub no_stub : (m : Module) (r : Ref) (unit f : ℕ) → r ≡ Stub unit f → IsSome (type_of (module_view m) r) → ⊥
no_stub m r unit f is some = let h = subst (λ (x : Ref). IsSome (type_of (module_view m) x)) is some in cc

-- nor functions of the loader
pub no_loader : (m : Module) (r : Ref) (which : LoaderCall) → r ≡ Loader which → IsSome (type_of (module_view m) r) → ⊥
no_loader m r which is some = let h = subst (λ (x : Ref). IsSome (type_of (module_view m) x)) is some in cc
