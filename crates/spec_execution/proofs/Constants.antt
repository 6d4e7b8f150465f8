-- A constant expression of a type has a value, of which is so what is so of the values that are put on the stack.
use Rattle.std.proofs.Common.{◌≡◌, ℕ, ◌^◌, ◌<◌, Bool, true, false, List, [], ◌∷◌, length, Option, Some, None, if◌then◌else◌, refl, sym, ap, ap₂, ◌∙◌, subst, slice_index_or}
use Rattle.std.specs.Prelude.{is_some}
use Rattle.std.specs.List.{All}
use Rattle.std.specs.Int.{cast_unsigned, w32, w64}
use Rattle.std.proofs.lemmas.List.Elements.{All-nil, All-head}
use Rattle.spec_validation.specs.wasm_form.declared.types.ValType.{ValType}
use Rattle.spec_validation.specs.wasm_form.declared.types.ValType.TheVariants.{I32, I64, FuncRef}
use Rattle.spec_validation.specs.wasm_form.declared.instr.Instr.{Instr, out-Instr}
use Rattle.spec_validation.specs.wasm_form.declared.instr.Instr.TheOpen as Open
use Rattle.spec_validation.specs.wasm_form.declared.instr.Expr.{Expr}
use Rattle.spec_validation.specs.wasm_form.declared.module.Module.{Module}
use Rattle.spec_validation.specs.wasm_form.declared.runtime.Ref.{Ref}
use Rattle.spec_validation.specs.wasm_form.declared.index.IndexForm.{IndexForm}
use Rattle.spec_validation.specs.wasm_form.declared.index.IndexForm.TheVariants.{RefFunc, GlobalGet}
use Rattle.spec_validation.specs.wasm_form.Index.{index_form}
use Rattle.spec_validation.specs.wasm_form.Ranges.{within}
use Rattle.spec_validation.specs.wasm_form.declared.runtime.Value.{Value}
use Rattle.spec_validation.specs.wasm_form.declared.runtime.Value.TheVariants.{Num}
use Rattle.spec_validation.specs.spec_binary.Options.{◌>>=◌}
use Rattle.spec_validation.specs.spec_binary.SameTypes.{same_type}
use Rattle.spec_validation.specs.spec_binary.Counted.{Step, Puts, Joins, Other}
use Rattle.spec_validation.proofs.of_spec_binary.Counted.{Holds, held, OneMore, IsGood, good_left}
use Rattle.spec_validation.specs.Faults.{is_function, constant_index, constant_step, is_constant}
use Rattle.spec_validation.specs.Counted.{arithmetic_type, kind_of, step_at, step_of}
use Rattle.spec_validation.proofs.Constants.{put_type, put_never_joins, join_type, join_never_puts, constant_counts, reference_alone}
use Rattle.spec_runtime.specs.Numerics.{Width, W32, W64, bits}
use Rattle.spec_runtime.specs.Constants.{index_constant, instruction_constant, after_operator, after_constant, after_constants, only_value, constant_in, constant_of}
use Rattle.spec_runtime.proofs.Constants.{operator_gives, in_order, put_alone}

abbrev pub width_type : Width → ValType
width_type W32 = I32
width_type W64 = I64

widths : (a b : Bool) (u : ValType) → (if a then Some I32 else if b then Some I64 else None) ≡ Some u
    → (w : Width) × ((if a then Some W32 else if b then Some W64 else None) ≡ Some w) × (width_type w ≡ u)
widths true b u e = (W32, refl, (let same : I32 ≡ u = cc in same))
widths false true u e = (W64, refl, (let same : I64 ≡ u = cc in same))
widths false false u e = absurd cc

-- What an instruction puts on the stack is so, where it is well formed; of values of number types it is so that they are numbers; and it is so of
-- each number of its type. Then it is so of what the expression comes to. Where some value isn't given, there is the gap.
module _ (m : Module) (t : ValType) (functions : ℕ → Option Ref) (globals : ℕ → Option Value) (gap : Type 0) (P : Value → Type 0) (Fits : Instr → Type 0)
    (puts : (i : Instr) → Fits i → constant_step m (out-Instr i) ≡ Some t → Holds gap P (instruction_constant functions globals (out-Instr i)))
    (number : (w : Width) → width_type w ≡ t → (v : Value) → P v → (n : ℕ) × (v ≡ Num n))
    (result : (w : Width) → width_type w ≡ t → (n : ℕ) → n < 2 ^ bits w → P (Num n)) where
  abbrev after : Instr → List Value → Option (List Value)
  after i = after_constant functions globals (out-Instr i)

  abbrev More : List Value → Option (List Value) → Type 0
  More = OneMore (step_of m t) after gap P

  abbrev Good : Step → Instr → Type 0
  Good z i = IsGood (step_of m t) after gap P z i

  put_one : (o : Option Value) (vs : List Value) → Holds gap P o → More vs (o >>= λ v. Some (v ∷ vs))
  put_one None vs h = h
  put_one (Some v) vs h = (v, refl, h)

  put_good : (i : Instr) → Fits i → (x : Open.Instr-F Instr Expr) → out-Instr i ≡ x → step_at t (kind_of m x) ≡ Puts → Good Puts i
  put_good i fits (Open.Plain op) q e = absurd (join_never_puts t (arithmetic_type op) e)
  put_good i fits x q e = λ vs.
      let put = subst (λ y. constant_step m y ≡ Some t → Holds gap P (instruction_constant functions globals y)) q (puts i fits) (put_type t (constant_step m x) e) in
      subst (λ y. More vs (after_constant functions globals y vs)) (sym q) (put_one (instruction_constant functions globals x) vs put)

  join_good : (i : Instr) (x : Open.Instr-F Instr Expr) → out-Instr i ≡ x → step_at t (kind_of m x) ≡ Joins → Good Joins i
  join_good i (Open.Plain op) q e = λ a b good_a good_b vs.
      let w = widths (within 0x6A 0x6C op) (within 0x7C 0x7E op) t (join_type t (arithmetic_type op) e) in
      let x = number w.0 w.2 a good_a in
      let y = number w.0 w.2 b good_b in
      let n = operator_gives op w.0 w.1 x.0 y.0 in
      let is : after i (b ∷ a ∷ vs) ≡ Some (Num n.0 ∷ vs) =
      ap (λ z. after_constant functions globals z (b ∷ a ∷ vs)) q ∙ ap₂ (λ c d. after_operator op (d ∷ c ∷ vs)) x.1 y.1 ∙ n.1 vs in
      subst (More vs) (sym is) (Num n.0, refl, result w.0 w.2 n.0 n.2)
  join_good i x q e = absurd (put_never_joins t (constant_step m x) e)

  good : (i : Instr) → Fits i → Good (step_of m t i) i
  good i fits = go (step_of m t i) refl
    where
      go : (z : Step) → step_of m t i ≡ z → Good z i
      go Puts q = put_good i fits (out-Instr i) refl q
      go Joins q = join_good i (out-Instr i) refl q
      go Other q = tt

  one_value : (o : Option (List Value)) → Holds gap (λ ws. (length ws ≡ 1) × All P ws) o → Holds gap P (o >>= only_value)
  one_value None h = h
  one_value (Some []) h = absurd (let none = h.0 in cc)
  one_value (Some (v ∷ [])) h = All-head P v [] h.1
  one_value (Some (v ∷ u ∷ ws)) h = absurd (let many = h.0 in cc)

  pub typed_value : (e : Expr) → All Fits e.list → is_constant m t e ≡ true → Holds gap P (constant_of functions globals e)
  typed_value e fit h =
      let goods : All (λ i. Good (step_of m t i) i) e.list = λ k d lt. good (slice_index_or e.list k d) (fit k d lt) in
      let end = good_left (step_of m t) after gap P e.list goods [] 1 (All-nil P) (constant_counts m t e h) in
      one_value (after_constants functions globals e.list [])
      (subst (Holds gap (λ ws. (length ws ≡ 1) × All P ws)) (sym (in_order functions globals e.list [])) end)

-- ---- there is a value, where each instruction that puts one there has one

-- a value of a number type is a number
abbrev pub IsNumberAt : ValType → Value → Type 0
IsNumberAt I32 v = (n : ℕ) × (v ≡ Num n)
IsNumberAt I64 v = (n : ℕ) × (v ≡ Num n)
IsNumberAt _ v = Unit {0}

any_number : (t : ValType) (n : ℕ) → IsNumberAt t (Num n)
any_number I32 n = (n, refl)
any_number I64 n = (n, refl)
any_number _ n = tt

no_number : (b : Bool) (t : ValType) (v : Value) → (if b then Some FuncRef else None) ≡ Some t → IsNumberAt t v
no_number true t v e = (let same : FuncRef ≡ t = cc in subst (λ u. IsNumberAt u v) same tt)
no_number false t v e = absurd cc

number_of : (t : ValType) (w : Width) → width_type w ≡ t → (v : Value) → IsNumberAt t v → (n : ℕ) × (v ≡ Num n)
number_of t w e v h = go w (subst (λ u. IsNumberAt u v) (sym e) h)
  where
    go : (w : Width) → IsNumberAt (width_type w) v → (n : ℕ) × (v ≡ Num n)
    go W32 h = h
    go W64 h = h

module _ (m : Module) (functions : ℕ → Option Ref) (globals : ℕ → Option Value) (numbers : (g : ℕ) (v : Value) → globals g ≡ Some v → (n : ℕ) × (v ≡ Num n)) (t : ValType)
    (there : (i : Instr) → constant_step m (out-Instr i) ≡ Some t → is_some (instruction_constant functions globals (out-Instr i)) ≡ true) where
  put_index : (form : Option IndexForm) (k : ℕ) (v : Value) → (form >>= λ f. constant_index m f k) ≡ Some t → (form >>= λ f. index_constant functions globals f k) ≡ Some v → IsNumberAt t v
  put_index (Some RefFunc) k v e h = no_number (is_function m k) t v e
  put_index (Some GlobalGet) k v e h = (let n = numbers k v h in subst (IsNumberAt t) (sym n.1) (any_number t n.0))
  put_index _ k v e h = absurd cc

  put_number : (x : Open.Instr-F Instr Expr) (v : Value) → constant_step m x ≡ Some t → instruction_constant functions globals x ≡ Some v → IsNumberAt t v
  put_number (Open.I32Const n) v e h = (let is : Num (cast_unsigned w32 n) ≡ v = cc in subst (IsNumberAt t) is (any_number t (cast_unsigned w32 n)))
  put_number (Open.I64Const n) v e h = (let is : Num (cast_unsigned w64 n) ≡ v = cc in subst (IsNumberAt t) is (any_number t (cast_unsigned w64 n)))
  put_number (Open.RefNull u) v e h = no_number (same_type u FuncRef) t v e
  put_number (Open.Index op k) v e h = put_index (index_form op) k v e h
  put_number _ v e h = absurd cc

  put_there : (i : Instr) → constant_step m (out-Instr i) ≡ Some t → Holds ⊥ (IsNumberAt t) (instruction_constant functions globals (out-Instr i))
  put_there i e = go (instruction_constant functions globals (out-Instr i)) (there i e) (λ v h. put_number (out-Instr i) v e h)
    where
      go : (o : Option Value) → is_some o ≡ true → ((v : Value) → o ≡ Some v → IsNumberAt t v) → Holds ⊥ (IsNumberAt t) o
      go None h each = absurd cc
      go (Some v) h each = each v refl

  pub has_value : (e : Expr) → is_constant m t e ≡ true → (v : Value) × (constant_of functions globals e ≡ Some v)
  has_value e typed =
      let kept = typed_value m t functions globals ⊥ (IsNumberAt t) (λ i. Unit {0}) (λ i fits. put_there i) (number_of t) (λ w h n lt. any_number t n) e (λ k d lt. tt) typed in
      let v = held (IsNumberAt t) (constant_of functions globals e) kept in
      (v.0, v.1)

-- ---- a constant reference is what its one instruction puts there

pub reference_value : (m : Module) (functions : ℕ → Option Ref) (globals : ℕ → Option Value) (e : Expr) → is_constant m FuncRef e ≡ true
    → (i : Instr) × (e.list ≡ i ∷ []) × (constant_step m (out-Instr i) ≡ Some FuncRef) × (constant_of functions globals e ≡ instruction_constant functions globals (out-Instr i))
reference_value m functions globals e typed =
    let one = reference_alone m e typed in
    (one.0, one.1, one.2, ap (constant_in functions globals) one.1 ∙ put_alone functions globals one.0 (no_operator (out-Instr one.0) one.2))
  where
    no_operator : (x : Open.Instr-F Instr Expr) → constant_step m x ≡ Some FuncRef → (op : ℕ) → x ≡ Open.Plain op → ⊥
    no_operator x h op q = (let none = rw q at h in cc)
