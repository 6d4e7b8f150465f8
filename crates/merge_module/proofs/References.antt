-- What is so of the functions that members name: stubs are imports, and functions of members have types and bodies there.
use Rattle.std.proofs.Common.{◌≡◌, ℕ, ◌-◌, ◌<◌, ◌≤◌, Bool, true, false, List, slice_get, Option, Some, None, refl, ap, ◌∙◌, arith, if◌then◌else◌}
use Rattle.std.specs.Prelude.{nat_lt}
use Rattle.std.proofs.lemmas.Bool.{ltb-false}
use Rattle.std.proofs.lemmas.Option.{slice_get_within}
use Rattle.spec_reading.specs.wasm_form.declared.types.FuncType.{FuncType}
use Rattle.spec_reading.specs.wasm_form.declared.module.Import.{Import}
use Rattle.spec_reading.specs.wasm_form.declared.module.Code.{Code}
use Rattle.spec_reading.specs.wasm_form.declared.module.Module.{Module}
use Rattle.spec_reading.specs.wasm_form.declared.runtime.Ref.TheVariants.{Own, Host, Stub}
use Rattle.spec_reading.specs.spec_binary.Options.{◌>>=◌}
use Rattle.spec_reading.specs.spec_binary.Indices.{Function, function_type, function_with, function_at}
use Rattle.spec_reading.specs.spec_binary.IndexSpaces.{functions_in, imported_count, function_space}
use Rattle.spec_loading.specs.spec_linking.declared.fault.Kind.TheVariants as kind
use Rattle.spec_loading.specs.spec_linking.Definitions.{Definition, LoaderFunction, HeapBase, HeapEnd, MemberFunction, MemberData, HostFunction, WeakSymbol, Undefined, env_name}
use Rattle.spec_loading.specs.spec_linking.Imports.{ImportUse, SharedMemory, SharedTable, StackPointer, MemoryBase, TableBase, DataCell, SlotCell, EnvFunction, ModuleFunction, OtherUse, use_of, importing}
use Rattle.spec_loading.specs.spec_linking.LinkedSets.{LinkedSet, wasm_of, definition, host_entry, defined_ref, ref_as, ref_with, function_ref}
use Rattle.spec_loading.proofs.of_spec_linking.Importing.{importing_length}
use Rattle.spec_loading.proofs.of_spec_safety.Lookups.{went_on}

-- ---- stubs

no_stub : (o : Option ℕ) (a b : ℕ) → (o >>= λ n. Some (Host n)) ≡ Some (Stub a b) → ⊥
no_stub None a b e = cc
no_stub (Some n) a b e = cc

module _ (L : LinkedSet) (m f : ℕ) where
  abbrev IsItself : ℕ → ℕ → Type 0
  IsItself a b = (a ≡ m) × (b ≡ f)

  defined_stub : (name : List ℕ) (d : Definition) (a b : ℕ) → defined_ref L m f name d ≡ Some (Stub a b) → IsItself a b
  defined_stub name (LoaderFunction call) a b e = absurd cc
  defined_stub name HeapBase a b e = absurd cc
  defined_stub name HeapEnd a b e = absurd cc
  defined_stub name (MemberFunction k g) a b e = absurd cc
  defined_stub name (MemberData k place) a b e = absurd cc
  defined_stub name HostFunction a b e = absurd (no_stub (host_entry L env_name name) a b e)
  defined_stub name WeakSymbol a b e = (cc, cc)
  defined_stub name Undefined a b e = absurd cc

  import_stub : (i : Import) (u : ImportUse) (a b : ℕ) → ref_as L m f i u ≡ Some (Stub a b) → IsItself a b
  import_stub i (EnvFunction t) a b e = defined_stub i.field (definition L m kind.Function i.field) a b e
  import_stub i (ModuleFunction t) a b e = absurd (no_stub (host_entry L i.module i.field) a b e)
  import_stub i SharedMemory a b e = absurd cc
  import_stub i SharedTable a b e = absurd cc
  import_stub i StackPointer a b e = absurd cc
  import_stub i MemoryBase a b e = absurd cc
  import_stub i TableBase a b e = absurd cc
  import_stub i DataCell a b e = absurd cc
  import_stub i SlotCell a b e = absurd cc
  import_stub i OtherUse a b e = absurd cc

  -- a number of the member that is a stub, and its type
  pub record StubThere : Type 0 where
    pub wasm : Module
    pub here : wasm_of L m ≡ Some wasm
    pub below : f < imported_count wasm
    pub number : ℕ
    pub space : slice_get (function_space wasm) f ≡ Some number
    pub ty : FuncType
    pub typed : slice_get wasm.types number ≡ Some ty

  with_stub : (wasm : Module) (o : Option Import) → slice_get (importing functions_in wasm.imports) f ≡ o → (a b : ℕ)
      → ref_with L m f o (Own m f) ≡ Some (Stub a b) → IsItself a b × (f < imported_count wasm)
  with_stub wasm None q a b e = absurd cc
  with_stub wasm (Some i) q a b e =
      let lt = slice_get_within (importing functions_in wasm.imports) f i q in
      let many = importing_length functions_in wasm.imports in
      (import_stub i (use_of i) a b e, omega arith)

  pub stub_there : (a b : ℕ) → function_ref L m f ≡ Some (Stub a b) → IsItself a b × StubThere
  stub_there a b e =
      let w = went_on (wasm_of L m) (λ wasm. function_type wasm f >>= λ ty. ref_with L m f (slice_get (importing functions_in wasm.imports) f) (Own m f)) (Stub a b) e in
      let ty = went_on (function_type w.0 f) (λ ty. ref_with L m f (slice_get (importing functions_in w.0.imports) f) (Own m f)) (Stub a b) w.2 in
      let t = went_on (slice_get (function_space w.0) f) (λ k. slice_get w.0.types k) ty.0 ty.1 in
      let both = with_stub w.0 (slice_get (importing functions_in w.0.imports) f) refl a b ty.2 in
      (both.0, record { wasm = w.0; here = w.1; below = both.1; number = t.0; space = t.1; ty = ty.0; typed = t.2 })

-- ---- functions that modules define

pub record IsDefined (wasm : Module) (g : ℕ) : Type 0 where
  pub past : imported_count wasm ≤ g
  pub code : Code
  pub at : slice_get wasm.codes (g - imported_count wasm) ≡ Some code
  pub ty : FuncType
  pub typed : function_type wasm g ≡ Some ty

pub defined_there : (wasm : Module) (g : ℕ) (y : Function) → function_at wasm g ≡ Some y → IsDefined wasm g
defined_there wasm g y e = go (nat_lt g (imported_count wasm)) refl e
  where
    go : (b : Bool) → nat_lt g (imported_count wasm) ≡ b
        → (if b then None else (slice_get wasm.codes (g - imported_count wasm) >>= λ c. function_type wasm g >>= λ ty. Some (function_with ty c))) ≡ Some y
        → IsDefined wasm g
    go true q h = absurd cc
    go false q h =
        let c = went_on (slice_get wasm.codes (g - imported_count wasm)) (λ c. function_type wasm g >>= λ ty. Some (function_with ty c)) y h in
        let ty = went_on (function_type wasm g) (λ ty. Some (function_with ty c.0)) y c.2 in
        record { past = ltb-false g (imported_count wasm) q; code = c.0; at = c.1; ty = ty.0; typed = ty.1 }

-- a function has its type
pub function_typed : (wasm : Module) (g : ℕ) (y : Function) → function_at wasm g ≡ Some y → function_type wasm g ≡ Some y.ty
function_typed wasm g y e = go (nat_lt g (imported_count wasm)) e
  where
    go : (b : Bool) → (if b then None else (slice_get wasm.codes (g - imported_count wasm) >>= λ c. function_type wasm g >>= λ ty. Some (function_with ty c))) ≡ Some y
        → function_type wasm g ≡ Some y.ty
    go true h = absurd cc
    go false h =
        let c = went_on (slice_get wasm.codes (g - imported_count wasm)) (λ c. function_type wasm g >>= λ ty. Some (function_with ty c)) y h in
        let ty = went_on (function_type wasm g) (λ ty. Some (function_with ty c.0)) y c.2 in
        let same : function_with ty.0 c.0 ≡ y = (let q = ty.2 in cc) in
        ty.1 ∙ ap (λ (z : Function). Some z.ty) same
