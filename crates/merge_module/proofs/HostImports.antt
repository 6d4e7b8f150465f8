-- The imports of a merged module are the host functions of its set, with their types.
use Rattle.std.proofs.Common.{◌≡◌, ℕ, zero, suc, ◌+◌, List, [], ◌∷◌, length, map, slice_get, Some, refl, ap, ◌∙◌, subst, arith}
use Rattle.spec_reading.specs.wasm_form.declared.types.FuncType.{FuncType}
use Rattle.spec_reading.specs.wasm_form.declared.module.Module.{Module}
use Rattle.spec_reading.specs.spec_binary.IndexSpaces.{imports_of, functions_in, tables_in, memories_in, globals_in}
use Rattle.spec_loading.specs.spec_runtime.Names.{HostName}
use Rattle.spec_loading.specs.spec_execution.Instances.{imported_hosts}
use Rattle.merge_module.specs.Shape.{asked_host}
use Rattle.merge_module.specs.MergedModule.{host_imports}

-- nothing but functions is imported
pub functions_of : (t : ℕ → FuncType → ℕ) (e : ℕ) (hs : List HostName) → length (imports_of functions_in (host_imports t e hs)) ≡ length hs
functions_of t e [] = refl
functions_of t e (h ∷ hs) = ap suc (functions_of t (e + 1) hs)

pub no_tables : (t : ℕ → FuncType → ℕ) (e : ℕ) (hs : List HostName) → imports_of tables_in (host_imports t e hs) ≡ []
no_tables t e [] = refl
no_tables t e (h ∷ hs) = no_tables t (e + 1) hs

pub no_memories : (t : ℕ → FuncType → ℕ) (e : ℕ) (hs : List HostName) → imports_of memories_in (host_imports t e hs) ≡ []
no_memories t e [] = refl
no_memories t e (h ∷ hs) = no_memories t (e + 1) hs

pub no_globals : (t : ℕ → FuncType → ℕ) (e : ℕ) (hs : List HostName) → imports_of globals_in (host_imports t e hs) ≡ []
no_globals t e [] = refl
no_globals t e (h ∷ hs) = no_globals t (e + 1) hs

-- a host function's type has its number
pub numbered_types : (t : ℕ → FuncType → ℕ) (e : ℕ) (hs : List HostName) (i : ℕ) (h : HostName) → slice_get hs i ≡ Some h
    → slice_get (imports_of functions_in (host_imports t e hs)) i ≡ Some (t (e + i) h.ty)
numbered_types t e [] i h at = absurd cc
numbered_types t e (k ∷ hs) zero h at =
    let same : k ≡ h = cc in
    let place : e ≡ e + 0 = omega arith in
    ap (λ (x : HostName). Some (t e x.ty)) same ∙ ap (λ n. Some (t n h.ty)) place
numbered_types t e (k ∷ hs) (suc i) h at =
    let place : e + 1 + i ≡ e + suc i = omega arith in
    numbered_types t (e + 1) hs i h at ∙ ap (λ n. Some (t n h.ty)) place

-- the module has their types at these numbers
abbrev pub HasTypes : Module → (ℕ → FuncType → ℕ) → ℕ → List HostName → Type 0
HasTypes m t e hs = (i : ℕ) (h : HostName) → slice_get hs i ≡ Some h → slice_get m.types (t (e + i) h.ty) ≡ Some h.ty

pub first_type : (m : Module) (t : ℕ → FuncType → ℕ) (e : ℕ) (h : HostName) (hs : List HostName) → HasTypes m t e (h ∷ hs)
    → slice_get m.types (t e h.ty) ≡ Some h.ty
first_type m t e h hs types =
    let place : e + 0 ≡ e = omega arith in
    subst (λ n. slice_get m.types (t n h.ty) ≡ Some h.ty) place (types 0 h refl)

pub later_types : (m : Module) (t : ℕ → FuncType → ℕ) (e : ℕ) (h : HostName) (hs : List HostName) → HasTypes m t e (h ∷ hs) → HasTypes m t (e + 1) hs
later_types m t e h hs types i k at =
    let place : e + suc i ≡ e + 1 + i = omega arith in
    subst (λ n. slice_get m.types (t n k.ty) ≡ Some k.ty) place (types (suc i) k at)

pub hosts_are : (m : Module) (t : ℕ → FuncType → ℕ) (e : ℕ) (hs : List HostName) → HasTypes m t e hs → imported_hosts m (host_imports t e hs) ≡ hs
hosts_are m t e [] types = refl
hosts_are m t e (h ∷ hs) types =
    let first = first_type m t e h hs types in
    let rest = hosts_are m t (e + 1) hs (later_types m t e h hs types) in
    rw (first, rest) refl

-- each import asks for one of them
pub hosts_asked : (m : Module) (t : ℕ → FuncType → ℕ) (e : ℕ) (hs : List HostName) → HasTypes m t e hs → map (asked_host m) (host_imports t e hs) ≡ map Some hs
hosts_asked m t e [] types = refl
hosts_asked m t e (h ∷ hs) types =
    let first = first_type m t e h hs types in
    let rest = hosts_asked m t (e + 1) hs (later_types m t e h hs types) in
    rw (first, rest) refl
