-- Values of given types.
use Rattle.std.proofs.Common.{◌≡◌, ℕ, zero, suc, ◌≤◌, List, [], ◌∷◌, ◌++◌, length, map, reverse, take, drop, Some, refl, sym, ap, slice_get, slice_set, true, arith, subst}
use mathlib.Core.List.{reverse_aux}
use Rattle.spec_execution.specs.wasm_form.declared.types.ValType.{ValType}
use Rattle.spec_execution.specs.wasm_form.declared.types.ValType.TheVariants.{I32, I64, F32, F64, FuncRef, ExternRef}
use Rattle.spec_execution.specs.wasm_form.declared.runtime.Value.{Value}
use Rattle.spec_execution.specs.wasm_form.declared.runtime.Value.TheVariants.{Num, Func}
use Rattle.spec_execution.specs.Values.{is_number, of_kind, take_values, zero_of}
use Rattle.spec_execution.specs.Views.{View}
use Rattle.spec_safety.specs.ValueTypes.{HasType, HaveTypes}
use Rattle.spec_safety.proofs.KnownStacks.{some_same}

module _ {Units : Type 0} (V : View Units) where
  pub have_append : (ps ts : List ValType) (xs ys : List Value) → HaveTypes V ps xs → HaveTypes V ts ys → HaveTypes V (ps ++ ts) (xs ++ ys)
  have_append [] ts [] ys h k = k
  have_append (p ∷ ps) ts (x ∷ xs) ys h k = (h.0, have_append ps ts xs ys h.1 k)
  have_append [] ts (x ∷ xs) ys h k = absurd h
  have_append (p ∷ ps) ts [] ys h k = absurd h

  pub have_length : (ts : List ValType) (vs : List Value) → HaveTypes V ts vs → length vs ≡ length ts
  have_length [] [] h = refl
  have_length (t ∷ ts) (v ∷ vs) h = ap suc (have_length ts vs h.1)
  have_length [] (v ∷ vs) h = absurd h
  have_length (t ∷ ts) [] h = absurd h

  -- values in two parts
  pub record Split (ps ts : List ValType) (vs : List Value) : Type 0 where
    pub enough : length ps ≤ length vs
    pub top : HaveTypes V ps (take (length ps) vs)
    pub under : HaveTypes V ts (drop (length ps) vs)
    pub taken : take_values ps vs ≡ Some (take (length ps) vs, drop (length ps) vs)

  kind_has : (t : ValType) (v : Value) → HasType V t v → of_kind (is_number t) v ≡ true
  kind_has t (Num n) h = rw h.0 refl
  kind_has t (Func r) h = rw h.0 refl

  pub split : (ps ts : List ValType) (vs : List Value) → HaveTypes V (ps ++ ts) vs → Split ps ts vs
  split [] ts vs h = record { enough = omega arith; top = tt; under = h; taken = refl }
  split (p ∷ ps) ts [] h = absurd h
  split (p ∷ ps) ts (v ∷ vs) h =
      let s = split ps ts vs h.1 in
      let n = s.enough in
      record { enough = omega arith; top = (h.0, s.top); under = s.under; taken = rw (kind_has p v h.0, s.taken) refl }

  aux : (ts us : List ValType) (xs ys : List Value) → HaveTypes V ts xs → HaveTypes V us ys → HaveTypes V (reverse_aux ts us) (reverse_aux xs ys)
  aux [] us [] ys h k = k
  aux (t ∷ ts) us (x ∷ xs) ys h k = aux ts (t ∷ us) xs (x ∷ ys) h.1 (h.0, k)
  aux [] us (x ∷ xs) ys h k = absurd h
  aux (t ∷ ts) us [] ys h k = absurd h

  pub have_reverse : (ts : List ValType) (vs : List Value) → HaveTypes V ts vs → HaveTypes V (reverse ts) (reverse vs)
  have_reverse ts vs h = aux ts [] vs [] h tt

  pub have_at : (ts : List ValType) (vs : List Value) (x : ℕ) (t : ValType) → HaveTypes V ts vs → slice_get ts x ≡ Some t
      → (v : Value) × (slice_get vs x ≡ Some v) × HasType V t v
  have_at [] vs x t h e = absurd cc
  have_at (u ∷ ts) [] x t h e = absurd h
  have_at (u ∷ ts) (v ∷ vs) zero t h e = (v, refl, subst (λ z. HasType V z v) (some_same e) h.0)
  have_at (u ∷ ts) (v ∷ vs) (suc x) t h e = have_at ts vs x t h.1 e

  pub have_set : (ts : List ValType) (vs : List Value) (x : ℕ) (t : ValType) (v : Value) → HaveTypes V ts vs → slice_get ts x ≡ Some t → HasType V t v
      → HaveTypes V ts (slice_set vs x v)
  have_set [] vs x t v h e k = absurd cc
  have_set (u ∷ ts) [] x t v h e k = absurd h
  have_set (u ∷ ts) (w ∷ vs) zero t v h e k = (subst (λ z. HasType V z v) (sym (some_same e)) k, h.1)
  have_set (u ∷ ts) (w ∷ vs) (suc x) t v h e k = (h.0, have_set ts vs x t v h.1 e k)

  zero_has : (t : ValType) → HasType V t (zero_of t)
  zero_has I32 = (refl, omega arith)
  zero_has I64 = (refl, omega arith)
  zero_has F32 = (refl, omega arith)
  zero_has F64 = (refl, omega arith)
  zero_has FuncRef = (refl, tt)
  zero_has ExternRef = (refl, tt)

  pub have_zeros : (ts : List ValType) → HaveTypes V ts (map zero_of ts)
  have_zeros [] = tt
  have_zeros (t ∷ ts) = (zero_has t, have_zeros ts)
