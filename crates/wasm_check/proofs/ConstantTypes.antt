-- Constant expressions of a type have a value, and it is of that type.
use Rattle.std.proofs.Common.{◌≡◌, ℕ, zero, suc, ◌^◌, ◌<◌, List, [], ◌∷◌, length, Option, Some, None, Bool, true, false, refl, sym, ◌∙◌, subst, arith}
use Rattle.std.specs.Prelude.{is_some, slice_get, if◌then◌else◌, IfSome}
use Rattle.std.specs.List.{All}
use Rattle.std.specs.Int.{cast_unsigned, w32, w64}
use Rattle.std.proofs.lemmas.Bool.{ltb-true}
use Rattle.wasm_form.specs.declared.types.ValType.{ValType}
use Rattle.wasm_form.specs.declared.types.ValType.TheVariants.{I32, I64, F32, F64, FuncRef, ExternRef}
use Rattle.wasm_form.specs.declared.types.GlobalType.{GlobalType}
use Rattle.wasm_form.specs.declared.instr.Instr.{Instr, out-Instr}
use Rattle.wasm_form.specs.declared.instr.Instr.TheOpen as Open
use Rattle.wasm_form.specs.declared.instr.Expr.{Expr}
use Rattle.wasm_form.specs.declared.module.Module.{Module}
use Rattle.wasm_form.specs.declared.runtime.Ref.{Ref}
use Rattle.wasm_form.specs.declared.runtime.Ref.TheVariants.{Own}
use Rattle.wasm_form.specs.declared.index.IndexForm.{IndexForm}
use Rattle.wasm_form.specs.declared.index.IndexForm.TheVariants.{RefFunc, GlobalGet}
use Rattle.wasm_form.specs.Index.{index_form}
use Rattle.wasm_form.specs.declared.runtime.Value.{Value}
use Rattle.wasm_form.specs.declared.runtime.Value.TheVariants as values
use Rattle.spec_execution.specs.spec_binary.Options.{◌>>=◌}
use Rattle.spec_execution.specs.spec_binary.SameTypes.{same_type}
use Rattle.spec_execution.specs.spec_binary.IndexSpaces.{imports_of, globals_in, function_space}
use Rattle.spec_execution.proofs.of_spec_binary.Counted.{Holds}
use Rattle.spec_execution.specs.spec_validation.Faults.{is_function, immutable, constant_index, constant_step, is_constant}
use Rattle.spec_execution.specs.spec_runtime.Numerics.{Width, W32, W64, bits}
use Rattle.spec_execution.specs.spec_runtime.Constants.{index_constant, instruction_constant, constant_of, numbered_globals}
use Rattle.spec_execution.proofs.Constants as constants
use Rattle.spec_execution.proofs.Constants.{width_type, typed_value}
use Rattle.wasm_check.specs.declared.value.Constant.{Constant}
use Rattle.wasm_check.specs.declared.value.Constant.TheVariants.{Num, Func}
use Rattle.wasm_check.specs.declared.value.Known.{Known}
use Rattle.wasm_check.specs.declared.value.Known.TheVariants.{Numbers, Bases}
use Rattle.wasm_check.specs.Constants.{value_of, StandsFor, IsOfType, AreOfTypes, known_globals, AreKnown, HasWordAt, HasWordOf, HasWord}

-- a reading of function numbers that tells them apart
abbrev own : ℕ → Option Ref
own f = Some (Own 0 f)

-- a reading gives back what it was given
number_back : (c : Constant) (n : ℕ) → Some (values.Num n) ≡ value_of own c → c ≡ Num n
number_back (Num k) n e = let same : n ≡ k = cc in rw same refl
number_back (Func None) n e = absurd cc
number_back (Func (Some f)) n e = absurd cc

null_back : (c : Constant) → Some (values.Func None) ≡ value_of own c → c ≡ Func None
null_back (Num k) e = absurd cc
null_back (Func None) e = refl
null_back (Func (Some f)) e = absurd cc

function_back : (c : Constant) (f : ℕ) → Some (values.Func (own f)) ≡ value_of own c → c ≡ Func (Some f)
function_back (Num k) f e = absurd cc
function_back (Func None) f e = absurd cc
function_back (Func (Some g)) f e = let same : f ≡ g = cc in rw same refl

-- different constants have different values
one_constant : (a b : Constant) → value_of own a ≡ value_of own b → a ≡ b
one_constant (Num n) b e = sym (number_back b n e)
one_constant (Func None) b e = sym (null_back b e)
one_constant (Func (Some f)) b e = sym (function_back b f e)

some_value : (c : Constant) → value_of own c ≡ None → ⊥
some_value (Num n) e = cc
some_value (Func None) e = cc
some_value (Func (Some f)) e = cc

-- a type that is given under a test
chosen : (b : Bool) (t u : ValType) → (if b then Some u else None) ≡ Some t → (b ≡ true) × (u ≡ t)
chosen true t u e = (refl, cc)
chosen false t u e = absurd cc

-- the value of an immutable global
immutable_value : (ty : GlobalType) (t : ValType) → immutable ty ≡ Some t → ty.value ≡ t
immutable_value ty t e = go ty.mutable refl
  where
    go : (b : Bool) → ty.mutable ≡ b → ty.value ≡ t
    go true q = let none = rw q at e in absurd cc
    go false q = let some = rw q at e in cc

-- there is a number for each global
numbered : (xs : List GlobalType) (ns : List ℕ) (g : ℕ) (t : ValType) → length ns ≡ length xs → (slice_get xs g >>= immutable) ≡ Some t
    → (ty : GlobalType) × (n : ℕ) × (slice_get xs g ≡ Some ty) × (slice_get ns g ≡ Some n) × (ty.value ≡ t)
numbered [] ns g t e h = absurd cc
numbered (x ∷ xs) [] g t e h = absurd (omega arith)
numbered (x ∷ xs) (n ∷ ns) zero t e h = (x, n, refl, refl, immutable_value x t h)
numbered (x ∷ xs) (n ∷ ns) (suc g) t e h = numbered xs ns g t (omega arith) h

-- the type of an immutable global, found or not
fixed_type : (o : Option GlobalType) (t : ValType) → (o >>= immutable) ≡ Some t → (ty : GlobalType) × (o ≡ Some ty) × (ty.value ≡ t)
fixed_type None t e = absurd cc
fixed_type (Some ty) t e = (ty, refl, immutable_value ty t e)

-- ---- there is a value, where there is a number for each imported global

module _ (m : Module) (numbers : List ℕ) (counted : length numbers ≡ length (imports_of globals_in m.imports)) where
  abbrev globals : ℕ → Option Value
  globals = numbered_globals numbers

  numbers_alone : (g : ℕ) (v : Value) → globals g ≡ Some v → (n : ℕ) × (v ≡ values.Num n)
  numbers_alone g v e = go (slice_get numbers g) e
    where
      go : (o : Option ℕ) → (o >>= λ n. Some (values.Num n)) ≡ Some v → (n : ℕ) × (v ≡ values.Num n)
      go None h = absurd cc
      go (Some n) h = (n, cc)

  index_there : (form : Option IndexForm) (n : ℕ) (t : ValType) → (form >>= λ f. constant_index m f n) ≡ Some t
      → is_some (form >>= λ f. index_constant own globals f n) ≡ true
  index_there (Some RefFunc) n t h = refl
  index_there (Some GlobalGet) n t h =
      let g = numbered (imports_of globals_in m.imports) numbers n t counted h in
      rw g.3 refl
  index_there (Some _) n t h = absurd cc
  index_there None n t h = absurd cc

  step_there : (o : Open.Instr-F Instr Expr) (t : ValType) → constant_step m o ≡ Some t
      → is_some (instruction_constant own globals o) ≡ true
  step_there (Open.I32Const n) t h = refl
  step_there (Open.I64Const n) t h = refl
  step_there (Open.RefNull u) t h = refl
  step_there (Open.Index op n) t h = index_there (index_form op) n t h
  step_there _ t h = absurd cc

  -- what stands for a constant expression's value is there
  pub has_value : (c : Option Constant) (e : Expr) → StandsFor c (λ functions. constant_of functions globals e) → (t : ValType) → is_constant m t e ≡ true → is_some c ≡ true
  has_value (Some c) e stands t typed = refl
  has_value None e stands t typed =
      let v = constants.has_value m own globals numbers_alone t (λ i. step_there (out-Instr i) t) e typed in
      absurd (let none : None ≡ Some v.0 = sym (stands own) ∙ v.1 in cc)

-- ---- it is of the type

base_fits : (m : Module) (known : Known) (t : ValType) → AreKnown m t known → (g : ℕ) (ty : GlobalType) → slice_get (imports_of globals_in m.imports) g ≡ Some ty → ty.value ≡ t
    → HasWordAt known g
    → Holds (Unit {0}) (λ v. (c : Constant) × (Some v ≡ value_of own c) × IsOfType m t c) (known_globals known g)
base_fits m (Numbers ns) t given g ty at is word = go (slice_get ns.now g) refl
  where
    go : (o : Option ℕ) → slice_get ns.now g ≡ o → Holds (Unit {0}) (λ v. (c : Constant) × (Some v ≡ value_of own c) × IsOfType m t c) (o >>= λ n. Some (values.Num n))
    go None q = tt
    go (Some n) q = (Num n, refl, given g ty n at is q)
base_fits m (Bases bs) t given g ty at is word = go (slice_get bs.now g >>= λ b. b) word
  where
    fits : (u : ValType) → AreKnown m u (Bases bs) → (n : ℕ) → n < 2 ^ 32 → IsOfType m u (Num n)
    fits I32 any n lt = lt
    fits I64 any n lt = tt
    fits F32 none n lt = absurd none
    fits F64 none n lt = absurd none
    fits FuncRef none n lt = absurd none
    fits ExternRef none n lt = absurd none

    go : (o : Option ℕ) → IfSome o (λ n. n < 2 ^ 32) → Holds (Unit {0}) (λ v. (c : Constant) × (Some v ≡ value_of own c) × IsOfType m t c) (o >>= λ n. Some (values.Num n))
    go None w = tt
    go (Some n) w = (Num n, refl, fits t given n w)

module _ (m : Module) (known : Known) (t : ValType) (given : AreKnown m t known) where
  abbrev known_values : ℕ → Option Value
  known_values = known_globals known

  -- a constant of the type stands for the value
  abbrev Stands : Value → Type 0
  Stands v = (c : Constant) × (Some v ≡ value_of own c) × IsOfType m t c

  index_put : (form : Option IndexForm) (n : ℕ) → HasWordOf known form n → (form >>= λ f. constant_index m f n) ≡ Some t
      → Holds (Unit {0}) Stands (form >>= λ f. index_constant own known_values f n)
  index_put (Some RefFunc) n word h =
      let k = chosen (is_function m n) t FuncRef h in
      (Func (Some n), refl, subst (λ u. IsOfType m u (Func (Some n))) k.1 (ltb-true n (length (function_space m)) k.0))
  index_put (Some GlobalGet) n word h =
      let ty = fixed_type (slice_get (imports_of globals_in m.imports) n) t h in
      base_fits m known t given n ty.0 ty.1 ty.2 word
  index_put (Some _) n word h = absurd cc
  index_put None n word h = absurd cc

  step_put : (o : Open.Instr-F Instr Expr) → HasWord known o → constant_step m o ≡ Some t → Holds (Unit {0}) Stands (instruction_constant own known_values o)
  step_put (Open.I32Const n) word h = (let type : I32 ≡ t = cc in (Num (cast_unsigned w32 n), refl, subst (λ u. IsOfType m u (Num (cast_unsigned w32 n))) type word))
  step_put (Open.I64Const n) word h = (let type : I64 ≡ t = cc in (Num (cast_unsigned w64 n), refl, subst (λ u. IsOfType m u (Num (cast_unsigned w64 n))) type tt))
  step_put (Open.RefNull u) word h = (Func None, refl, subst (λ u. IsOfType m u (Func None)) (chosen (same_type u FuncRef) t FuncRef h).1 tt)
  step_put (Open.Index op n) word h = index_put (index_form op) n word h
  step_put _ word h = absurd cc

  number : (w : Width) → width_type w ≡ t → (v : Value) → Stands v → (n : ℕ) × (v ≡ values.Num n)
  number w e v h = go w h.0 (subst (λ u. IsOfType m u h.0) (sym e) h.2) h.1
    where
      go : (w : Width) (c : Constant) → IsOfType m (width_type w) c → Some v ≡ value_of own c → (n : ℕ) × (v ≡ values.Num n)
      go W32 (Num n) is q = (n, cc)
      go W64 (Num n) is q = (n, cc)
      go W32 (Func f) is q = absurd is
      go W64 (Func f) is q = absurd is

  result : (w : Width) → width_type w ≡ t → (n : ℕ) → n < 2 ^ bits w → Stands (values.Num n)
  result w e n lt = (Num n, refl, subst (λ u. IsOfType m u (Num n)) e (go w lt))
    where
      go : (w : Width) → n < 2 ^ bits w → IsOfType m (width_type w) (Num n)
      go W32 lt = lt
      go W64 lt = tt

  pub is_of_type : (e : Expr) → All (λ i. HasWord known (out-Instr i)) e.list → is_constant m t e ≡ true → (c : Option Constant)
      → StandsFor c (λ functions. constant_of functions known_values e) → IfSome c (IsOfType m t)
  is_of_type e words typed None stands = tt
  is_of_type e words typed (Some c) stands =
      let kept = typed_value m t own known_values (Unit {0}) Stands (λ i. HasWord known (out-Instr i)) (λ i. step_put (out-Instr i)) number result e words typed in
      go (value_of own c) refl (subst (Holds (Unit {0}) Stands) (stands own) kept)
    where
      go : (o : Option Value) → value_of own c ≡ o → Holds (Unit {0}) Stands o → IsOfType m t c
      go None q h = absurd (some_value c q)
      go (Some v) q h = subst (IsOfType m t) (one_constant h.0 c (sym h.1 ∙ sym q)) h.2

-- numbers of the globals' types are numbers of a type at the globals of that type
pub of_types : (m : Module) (ns : List ℕ) → AreOfTypes m ns → (t : ValType) (g : ℕ) (ty : GlobalType) (n : ℕ) → slice_get (imports_of globals_in m.imports) g ≡ Some ty → ty.value ≡ t
    → slice_get ns g ≡ Some n
    → IsOfType m t (Num n)
of_types m ns are t g ty n at is number = subst (λ u. IsOfType m u (Num n)) is (are g ty n at number)
