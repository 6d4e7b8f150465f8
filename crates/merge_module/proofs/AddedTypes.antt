-- Types that are added behind others: each is found among them, and there are no more than host functions.
use Rattle.std.proofs.Common.{◌≡◌, ℕ, zero, suc, ◌+◌, ◌≤◌, Bool, true, false, ◌||◌, cond, List, [], ◌∷◌, ◌++◌, length, map, slice_get, find, Option, Some, None, refl, sym, ap, ◌∙◌, subst, arith, length-append, if◌then◌else◌}
use Rattle.std.specs.List.{list_any, position_or_len}
use Rattle.std.specs.Cmp.Lexicographic.{pointwise}
use Rattle.std.proofs.lemmas.Bool.{or_left, or_right}
use Rattle.std.proofs.lemmas.List.Folds.{list_any-append, find_at}
use Rattle.spec_reading.specs.wasm_form.declared.types.ValType.{ValType}
use Rattle.spec_reading.specs.wasm_form.declared.types.FuncType.{FuncType}
use Rattle.spec_reading.specs.spec_binary.SameTypes.{same_type, same_function_type}
use Rattle.spec_reading.proofs.of_spec_binary.OneType.{itself, one_function_type}
use Rattle.spec_loading.specs.spec_runtime.Names.{HostName}
use Rattle.merge_module.specs.MergedModule.{with_type, types_added}
use Rattle.merge_module.specs.Laws.{types_bulk}

-- ---- a type is itself

types_itself : (ts : List ValType) → pointwise same_type ts ts ≡ true
types_itself [] = refl
types_itself (t ∷ ts) = rw (itself t, types_itself ts) refl

pub function_itself : (ty : FuncType) → same_function_type ty ty ≡ true
function_itself ty = rw (types_itself ty.params, types_itself ty.results) refl

-- ---- a type is among some

abbrev pub Has : List FuncType → FuncType → Type 0
Has known ty = list_any (same_function_type ty) known ≡ true

still_has : (known : List FuncType) (ty x : FuncType) → Has known ty → Has (known ++ x ∷ []) ty
still_has known ty x has =
    list_any-append (same_function_type ty) known (x ∷ [])
    ∙ or_left (list_any (same_function_type ty) known) (list_any (same_function_type ty) (x ∷ [])) has

has_last : (known : List FuncType) (ty : FuncType) → Has (known ++ ty ∷ []) ty
has_last known ty =
    list_any-append (same_function_type ty) known (ty ∷ [])
    ∙ or_right (list_any (same_function_type ty) known) (list_any (same_function_type ty) (ty ∷ [])) (or_left (same_function_type ty ty) false (function_itself ty))

pub found_itself : (known : List FuncType) (ty : FuncType) → Has known ty → find (same_function_type ty) known ≡ Some ty
found_itself [] ty has = absurd cc
found_itself (x ∷ known) ty has = go (same_function_type ty x) refl has (found_itself known ty)
  where
    go : (b : Bool) → same_function_type ty x ≡ b → (b || list_any (same_function_type ty) known) ≡ true
        → (Has known ty → find (same_function_type ty) known ≡ Some ty) → cond b (Some x) (find (same_function_type ty) known) ≡ Some ty
    go true e h later = ap Some (sym (one_function_type ty x e))
    go false e h later = later h

-- ---- one more type

with_kept : (known : List FuncType) (given : Option ℕ) (x ty : FuncType) → Has known ty → Has (with_type known given x) ty
with_kept known (Some t) x ty has = has
with_kept known None x ty has = go (list_any (same_function_type x) known)
  where
    go : (b : Bool) → Has (if b then known else known ++ x ∷ []) ty
    go true = has
    go false = still_has known ty x has

with_there : (known : List FuncType) (given : Option ℕ) (ty : FuncType) → given ≡ None → Has (with_type known given ty) ty
with_there known (Some t) ty none = absurd cc
with_there known None ty none = go (list_any (same_function_type ty) known) refl
  where
    go : (b : Bool) → list_any (same_function_type ty) known ≡ b → Has (if b then known else known ++ ty ∷ []) ty
    go true e = e
    go false e = has_last known ty

with_few : (known : List FuncType) (given : Option ℕ) (ty : FuncType) → length (with_type known given ty) ≤ suc (length known)
with_few known (Some t) ty = omega arith
with_few known None ty = go (list_any (same_function_type ty) known)
  where
    go : (b : Bool) → length (if b then known else known ++ ty ∷ []) ≤ suc (length known)
    go true = omega arith
    go false = omega (arith, length-append known (ty ∷ []))

-- ---- those of host functions

module _ (given : ℕ → Option ℕ) where
  added_kept : (known : List FuncType) (e : ℕ) (hs : List HostName) (ty : FuncType) → Has known ty → Has (types_added given known e hs) ty
  added_kept known e [] ty has = has
  added_kept known e (h ∷ hs) ty has = added_kept (with_type known (given e) h.ty) (e + 1) hs ty (with_kept known (given e) h.ty ty has)

  added_there : (known : List FuncType) (e : ℕ) (hs : List HostName) (i : ℕ) (h : HostName) → slice_get hs i ≡ Some h → given (e + i) ≡ None
      → Has (types_added given known e hs) h.ty
  added_there known e [] i h at none = absurd cc
  added_there known e (x ∷ hs) zero h at none =
      let same : x ≡ h = cc in
      let place : e + 0 ≡ e = omega arith in
      let here : given e ≡ None = subst (λ n. given n ≡ None) place none in
      let there : Has (with_type known (given e) x.ty) x.ty = with_there known (given e) x.ty here in
      added_kept (with_type known (given e) x.ty) (e + 1) hs h.ty (subst (λ (y : HostName). Has (with_type known (given e) x.ty) y.ty) same there)
  added_there known e (x ∷ hs) (suc i) h at none =
      let place : e + suc i ≡ e + 1 + i = omega arith in
      added_there (with_type known (given e) x.ty) (e + 1) hs i h at (subst (λ n. given n ≡ None) place none)

  -- such a type stands at its place among them
  pub added_at : (known : List FuncType) (e : ℕ) (hs : List HostName) (i : ℕ) (h : HostName) → slice_get hs i ≡ Some h → given (e + i) ≡ None
      → slice_get (types_added given known e hs) (position_or_len (same_function_type h.ty) (types_added given known e hs)) ≡ Some h.ty
  added_at known e hs i h at none =
      sym (find_at (same_function_type h.ty) (types_added given known e hs))
      ∙ found_itself (types_added given known e hs) h.ty (added_there known e hs i h at none)

  pub added_few : (known : List FuncType) (e : ℕ) (hs : List HostName) → length (types_added given known e hs) ≤ length known + length hs
  added_few known e [] = omega arith
  added_few known e (h ∷ hs) =
      let one = with_few known (given e) h.ty in
      let later = added_few (with_type known (given e) h.ty) (e + 1) hs in
      omega arith

-- ---- how much they take

bulk_then : (xs ys : List FuncType) → types_bulk (xs ++ ys) ≡ types_bulk xs + types_bulk ys
bulk_then [] ys = omega arith
bulk_then (x ∷ xs) ys = (let later = bulk_then xs ys in omega arith)

with_bulk : (known : List FuncType) (given : Option ℕ) (ty : FuncType) → types_bulk (with_type known given ty) ≤ types_bulk known + types_bulk (ty ∷ [])
with_bulk known (Some t) ty = omega arith
with_bulk known None ty = go (list_any (same_function_type ty) known)
  where
    go : (b : Bool) → types_bulk (if b then known else known ++ ty ∷ []) ≤ types_bulk known + types_bulk (ty ∷ [])
    go true = omega arith
    go false = (let both = bulk_then known (ty ∷ []) in omega arith)

-- no more than the types of all host functions
pub added_bulk : (given : ℕ → Option ℕ) (known : List FuncType) (e : ℕ) (hs : List HostName)
    → types_bulk (types_added given known e hs) ≤ types_bulk known + types_bulk (map (λ (h : HostName). h.ty) hs)
added_bulk given known e [] = omega arith
added_bulk given known e (h ∷ hs) =
    let one = with_bulk known (given e) h.ty in
    let later = added_bulk given (with_type known (given e) h.ty) (e + 1) hs in
    omega arith
