-- The room of a function that the module defines.
use Rattle.std.proofs.Common.{arith, ◌≡◌, ℕ, ◌+◌, ◌-◌, ◌<◌, true, false, List, [], ◌∷◌, ◌++◌, length, get_or, refl, sym, ap, subst, ◌∙◌, Some, None, Option, inl, inr, length-append}
use Rattle.std.specs.Prelude.{slice_get, nat_lt, IsSome}
use Rattle.std.proofs.lemmas.Bool.{cases_lt, le-ltb, ltb-true}
use Rattle.std.proofs.lemmas.List.{get_or-append-add, get_or_default}
use Rattle.std.proofs.lemmas.Option.{slice_get-get_or, slice_get_within, get_or_from_slice_get}
use Rattle.wasm_form.specs.declared.types.FuncType.{FuncType}
use Rattle.wasm_form.specs.declared.module.Group.{Group}
use Rattle.wasm_form.specs.declared.module.Code.{Code}
use Rattle.wasm_form.specs.declared.module.Module.{Module}
use Rattle.spec_safety.specs.spec_binary.Options.{◌>>=◌}
use Rattle.spec_safety.specs.spec_binary.Indices.{declared_locals, Function, function_with, function_at}
use Rattle.spec_safety.specs.spec_binary.IndexSpaces.{imports_of, functions_in, function_space, imported_count}
use Rattle.spec_safety.specs.spec_binary.WellFormed.{IsWellFormed}
use Rattle.spec_safety.specs.spec_validation.Faults.{body_height, is_type, fault}
use Rattle.spec_safety.specs.spec_execution.Instances.{module_height, module_view}
use Rattle.spec_safety.specs.spec_execution.Limits.{room_with, room_of}
use Rattle.wasm_check.specs.Heights.{height_of}
use Rattle.spec_safety.specs.spec_binary.Saturated.{saturated}
use Rattle.wasm_instance.specs.Rooms.{room_in, HaveRooms}
use Rattle.wasm_instance.proofs.Lists.{all_at}
use Rattle.wasm_instance.proofs.FunctionTypes.{IsOwn, is_own}
use Rattle.spec_safety.proofs.of_spec_binary.Lists.{slice_get-append-left, slice_get-append-last}
use Rattle.spec_safety.proofs.of_spec_validation.Parts.{parts_fit}

pub have_more : (m : Module) (rooms more : List ℕ) (n : ℕ) → length rooms ≡ n → HaveRooms m n rooms → more ≡ rooms ++ room_in m n ∷ [] → HaveRooms m (n + 1) more
have_more m rooms more n count have e =
    λ k lt. rw e (elim (cases_lt k n) [ inl before ↦ slice_get-append-left rooms (room_in m n ∷ []) k (omega arith) ∙ have k before | inr past ↦ last k (omega arith) ])
  where
    last : (k : ℕ) → k ≡ n → slice_get (rooms ++ room_in m n ∷ []) k ≡ Some (room_in m k)
    last k same = rw same (slice_get-append-last rooms (room_in m n) n (sym count))

-- a number past those that are imported
own_type : (m : Module) (n t : ℕ) → slice_get m.funcs n ≡ Some t → slice_get (function_space m) (imported_count m + n) ≡ Some t
own_type m n t e =
    let imports = imports_of functions_in m.imports in
    let own : n < length m.funcs = slice_get_within m.funcs n t e in
    let inside : length imports + n < length (imports ++ m.funcs) = simp length-append (omega arith) in
    let number : get_or (imports ++ m.funcs) (length imports + n) 0 ≡ t = get_or-append-add imports m.funcs n 0 ∙ get_or_from_slice_get m.funcs n t 0 e in
    slice_get-get_or (imports ++ m.funcs) (length imports + n) 0 inside ∙ ap (λ (z : ℕ). Some z) number

module _ (m : Module) (n t : ℕ) (ty : FuncType) (c : Code) (func : slice_get m.funcs n ≡ Some t) (type : slice_get m.types t ≡ Some ty) (code : slice_get m.codes n ≡ Some c) where
  own : imported_count m + n - imported_count m ≡ n
  own = omega arith

  function_is : function_at m (imported_count m + n) ≡ Some (function_with ty c)
  function_is =
      let past : nat_lt (imported_count m + n) (imported_count m) ≡ false = le-ltb (imported_count m + n) (imported_count m) (omega arith) in
      rw (past, own, code, own_type m n t func, type) refl

  height_is : (k : ℕ) → body_height m n c ≡ Some k → module_height m (imported_count m + n) ≡ k
  height_is k e = rw (own, code, e) refl

  room_with_height : (k : ℕ) → body_height m n c ≡ Some k → room_of (module_view m) 0 (imported_count m + n) ≡ length ty.params + length (declared_locals c.locals) + k
  room_with_height k e =
      ap (λ (h : ℕ). room_with h (function_at m (imported_count m + n))) (height_is k e) ∙ ap (λ (f : Option Function). room_with k f) function_is

  by_height : (found : Option ℕ) (h : ℕ) → body_height m n c ≡ found → Some h ≡ (found >>= λ k. Some (saturated k))
      → saturated (saturated (saturated (length ty.params) + saturated (length (declared_locals c.locals))) + h) ≡ room_in m n
  by_height None h e high = absurd cc
  by_height (Some k) h e high =
      let same : h ≡ saturated k = cc in
      let room = room_with_height k e in
      omega (arith, same, room)

  pub room_is : (h : ℕ) → Some h ≡ height_of m n → saturated (saturated (saturated (length ty.params) + saturated (length (declared_locals c.locals))) + h) ≡ room_in m n
  room_is h high = by_height (body_height m n c) h refl (rw code at high)

-- the room of a function whose parts were looked up
pub room_kept : (m : Module) (n : ℕ) (types : List FuncType) (funcs : List ℕ) (codes : List Code) (ty : FuncType) (c : Code) (groups : List Group) (params locals both h room : ℕ)
    → IsWellFormed m → fault m ≡ None → n < length m.codes → types ≡ m.types → funcs ≡ m.funcs → codes ≡ m.codes
    → ty ≡ get_or types (get_or funcs n 0) ty → groups ≡ (get_or codes n c).locals → params ≡ saturated (length ty.params) → locals ≡ saturated (length (declared_locals groups))
    → both ≡ saturated (params + locals) → Some h ≡ height_of m n → room ≡ saturated (both + h) → room ≡ room_in m n
room_kept m n types funcs codes ty c groups params locals both h room formed valid inside is_types is_funcs is_codes is_ty is_groups is_params is_locals is_both high is =
    let t : ℕ = get_or m.funcs n 0 in
    let declared : n < length m.funcs = omega (arith, formed.counts.bodies) in
    let low : nat_lt t (length m.types) ≡ true = all_at (is_type m) m.funcs n t declared (get_or_default m.funcs n 0 t declared) (parts_fit m valid).functions in
    let found : ty ≡ get_or m.types t ty = is_ty ∙ rw (is_types, is_funcs) refl in
    let type : slice_get m.types t ≡ Some ty = slice_get-get_or m.types t ty (ltb-true t (length m.types) low) ∙ ap (λ (x : FuncType). Some x) (sym found) in
    let code : slice_get m.codes n ≡ Some (get_or m.codes n c) = slice_get-get_or m.codes n c inside in
    let all = room_is m n t ty (get_or m.codes n c) (slice_get-get_or m.funcs n 0 declared) type code h high in
    let local : groups ≡ (get_or m.codes n c).locals = is_groups ∙ ap (λ (cs : List Code). (get_or cs n c).locals) is_codes in
    is ∙ rw (is_both, is_params, is_locals, local) all

-- the room that is kept for a function
module _ (m now : Module) (rooms : List ℕ) (imported f : ℕ) (same : m ≡ now) (count : imported ≡ imported_count m) (have : HaveRooms m (length m.codes) rooms) (some : IsSome (function_at now f)) where
  own_number : IsOwn m f
  own_number = is_own m f (subst (λ (x : Module). IsSome (function_at x f)) (sym same) some)

  found : slice_get rooms (f - imported) ≡ Some (room_in m (f - imported_count m))
  found = ap (λ (k : ℕ). slice_get rooms (f - k)) count ∙ have (f - imported_count m) own_number.inside

  pub room_within : f - imported < length rooms
  room_within = slice_get_within rooms (f - imported) _ found

  pub room_found : (unit room : ℕ) → room ≡ get_or rooms (f - imported) room → room ≡ saturated (room_of (module_view now) unit f)
  room_found unit room read =
      let whole : imported_count m + (f - imported_count m) ≡ f = omega (arith, own_number.past) in
      read ∙ get_or_from_slice_get rooms (f - imported) (room_in m (f - imported_count m)) room found
      ∙ ap (λ (k : ℕ). saturated (room_of (module_view m) unit k)) whole ∙ ap (λ (x : Module). saturated (room_of (module_view x) unit f)) same
