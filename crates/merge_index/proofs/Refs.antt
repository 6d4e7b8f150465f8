-- What a member's number of a function names: a stub under that number, a host function of the set, or a function of a member.
use Rattle.std.proofs.Common.{◌≡◌, ◌<◌, ◌≤◌, ℕ, suc, ◌+◌, Bool, true, false, cond, List, [], ◌∷◌, length, slice_get, Option, Some, None, refl, ap, ◌∙◌, subst, arith}
use Rattle.std.specs.List.{position_from}
use Rattle.std.proofs.lemmas.Option.{slice_get_past}
use Rattle.wasm_form.specs.declared.types.FuncType.{FuncType}
use Rattle.wasm_form.specs.declared.module.Import.{Import}
use Rattle.wasm_form.specs.declared.module.Module.{Module}
use Rattle.wasm_form.specs.declared.runtime.Ref.{Ref}
use Rattle.wasm_form.specs.declared.runtime.Ref.TheVariants.{Own, Loader, Host, Stub}
use Rattle.spec_loading.specs.spec_binary.Options.{◌>>=◌}
use Rattle.spec_loading.specs.spec_binary.Indices.{function_type}
use Rattle.spec_loading.specs.spec_binary.IndexSpaces.{functions_in, imported_count}
use Rattle.spec_loading.specs.spec_linking.declared.fault.Kind.TheVariants as kind
use Rattle.spec_loading.specs.spec_linking.Definitions.{Definition, LoaderFunction, HeapBase, HeapEnd, MemberFunction, MemberData, HostFunction, WeakSymbol, Undefined, env_name}
use Rattle.spec_loading.specs.spec_linking.Imports.{ImportUse, SharedMemory, SharedTable, StackPointer, MemoryBase, TableBase, DataCell, SlotCell, EnvFunction, ModuleFunction, OtherUse, use_of, importing}
use Rattle.spec_loading.specs.spec_linking.LinkedSets.{LinkedSet, wasm_of, definition, hosts_of, host_entry, host_ref, defined_ref, ref_as, ref_with, function_ref, is_named}
use Rattle.spec_loading.proofs.of_spec_linking.Importing.{importing_length}
use Rattle.merge_index.specs.Numbering.{host_count, is_stub}

position_below : {K : Type 0} (t : K → Bool) (i : ℕ) (xs : List K) (n : ℕ) → position_from t i xs ≡ Some n → n < i + length xs
position_below t i [] n e = absurd cc
position_below t i (x ∷ xs) n e = go (t x) (position_below t (i + 1) xs n) e
  where
    go : (b : Bool) → (position_from t (i + 1) xs ≡ Some n → n < i + 1 + length xs)
        → cond b (Some i) (position_from t (i + 1) xs) ≡ Some n → n < i + suc (length xs)
    go true later e = (let same : i ≡ n = cc in omega arith)
    go false later e = (let below = later e in omega arith)

module _ (L : LinkedSet) (m f : ℕ) where
  abbrev pub IsOwnStub : Ref → Type 0
  IsOwnStub (Stub k g) = (k ≡ m) × (g ≡ f)
  IsOwnStub (Host e) = e < host_count L
  IsOwnStub (Own k g) = Unit {0}
  IsOwnStub (Loader which) = Unit {0}

  abbrev Fits : Option Ref → Type 0
  Fits o = (r : Ref) → o ≡ Some r → IsOwnStub r

  none_fits : Fits None
  none_fits r e = absurd cc

  some_fits : (r : Ref) → IsOwnStub r → Fits (Some r)
  some_fits r h q e = (let same : r ≡ q = cc in subst IsOwnStub same h)

  host_fits : (from name : List ℕ) → Fits (host_ref L from name)
  host_fits from name = go (host_entry L from name) refl
    where
      go : (o : Option ℕ) → host_entry L from name ≡ o → Fits (o >>= λ n. Some (Host n))
      go None q = none_fits
      go (Some n) q = some_fits (Host n) (let below = position_below (is_named from name) 0 (hosts_of L) n q in omega arith)

  defined_fits : (name : List ℕ) (d : Definition) → Fits (defined_ref L m f name d)
  defined_fits name (LoaderFunction call) = some_fits (Loader call) tt
  defined_fits name HeapBase = none_fits
  defined_fits name HeapEnd = none_fits
  defined_fits name (MemberFunction k g) = some_fits (Own k g) tt
  defined_fits name (MemberData k place) = none_fits
  defined_fits name HostFunction = host_fits env_name name
  defined_fits name WeakSymbol = some_fits (Stub m f) (refl, refl)
  defined_fits name Undefined = none_fits

  use_fits : (i : Import) (u : ImportUse) → Fits (ref_as L m f i u)
  use_fits i SharedMemory = none_fits
  use_fits i SharedTable = none_fits
  use_fits i StackPointer = none_fits
  use_fits i MemoryBase = none_fits
  use_fits i TableBase = none_fits
  use_fits i DataCell = none_fits
  use_fits i SlotCell = none_fits
  use_fits i (EnvFunction t) = defined_fits i.field (definition L m kind.Function i.field)
  use_fits i (ModuleFunction t) = host_fits i.module i.field
  use_fits i OtherUse = none_fits

  with_fits : (o : Option Import) → Fits (ref_with L m f o (Own m f))
  with_fits None = some_fits (Own m f) tt
  with_fits (Some i) = use_fits i (use_of i)

  pub ref_fits : Fits (function_ref L m f)
  ref_fits = go (wasm_of L m)
    where
      of_type : (wasm : Module) (o : Option FuncType)
          → Fits (o >>= λ ty. ref_with L m f (slice_get (importing functions_in wasm.imports) f) (Own m f))
      of_type wasm None = none_fits
      of_type wasm (Some ty) = with_fits (slice_get (importing functions_in wasm.imports) f)

      go : (o : Option Module)
          → Fits (o >>= λ wasm. function_type wasm f >>= λ ty. ref_with L m f (slice_get (importing functions_in wasm.imports) f) (Own m f))
      go None = none_fits
      go (Some wasm) = of_type wasm (function_type wasm f)

-- a function that the member defines is no stub
pub own_is_no_stub : (L : LinkedSet) (m f : ℕ) (wasm : Module) → wasm_of L m ≡ Some wasm → imported_count wasm ≤ f
    → is_stub (function_ref L m f) ≡ false
own_is_no_stub L m f wasm here past =
    let many = importing_length functions_in wasm.imports in
    let none : slice_get (importing functions_in wasm.imports) f ≡ None = slice_get_past (importing functions_in wasm.imports) f (omega arith) in
    ap (λ (w : Option Module). is_stub (w >>= λ x. function_type x f >>= λ ty. ref_with L m f (slice_get (importing functions_in x.imports) f) (Own m f))) here
    ∙ ap (λ (o : Option Import). is_stub (function_type wasm f >>= λ ty. ref_with L m f o (Own m f))) none
    ∙ go (function_type wasm f)
  where
    go : (o : Option FuncType) → is_stub (o >>= λ ty. Some (Own m f)) ≡ false
    go None = refl
    go (Some ty) = refl
