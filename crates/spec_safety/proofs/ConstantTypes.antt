-- The value of a constant expression has the type that it is checked against, with its width, where what its numbers name has theirs.
use Rattle.std.proofs.Common.{◌≡◌, ℕ, ◌^◌, ◌<◌, Bool, true, false, List, [], ◌∷◌, Option, Some, None, if◌then◌else◌, refl, sym, ap, ◌∙◌, subst}
use Rattle.std.specs.Prelude.{slice_get}
use Rattle.std.specs.List.{All}
use Rattle.std.specs.Int.{cast_unsigned, w32, w64}
use Rattle.std.proofs.lemmas.Bool.{and_parts, ltb-true}
use Rattle.std.proofs.lemmas.List.Elements.{All-nil, All-cons}
use Rattle.spec_execution.specs.wasm_form.declared.types.ValType.{ValType}
use Rattle.spec_execution.specs.wasm_form.declared.types.ValType.TheVariants.{I32, I64, FuncRef}
use Rattle.spec_execution.specs.wasm_form.declared.types.GlobalType.{GlobalType}
use Rattle.spec_execution.specs.wasm_form.declared.instr.Instr.{Instr, out-Instr}
use Rattle.spec_execution.specs.wasm_form.declared.instr.Instr.TheOpen as Open
use Rattle.spec_execution.specs.wasm_form.declared.instr.Expr.{Expr}
use Rattle.spec_execution.specs.wasm_form.declared.module.Module.{Module}
use Rattle.spec_execution.specs.wasm_form.declared.runtime.Ref.{Ref}
use Rattle.spec_execution.specs.wasm_form.declared.index.IndexForm.{IndexForm}
use Rattle.spec_execution.specs.wasm_form.declared.index.IndexForm.TheVariants.{RefFunc, GlobalGet}
use Rattle.spec_execution.specs.wasm_form.Index.{index_form}
use Rattle.spec_execution.specs.wasm_form.declared.runtime.Value.{Value}
use Rattle.spec_execution.specs.wasm_form.declared.runtime.Value.TheVariants.{Num, Func}
use Rattle.spec_execution.specs.spec_binary.Options.{◌>>=◌}
use Rattle.spec_execution.specs.spec_binary.SameTypes.{same_type}
use Rattle.spec_execution.specs.spec_binary.Trees.{every_here, every}
use Rattle.spec_execution.proofs.of_wasm_form.Levels.{with_inside}
use Rattle.spec_execution.specs.spec_binary.IndexSpaces.{imports_of, globals_in}
use Rattle.spec_execution.proofs.of_spec_binary.Counted.{Holds, held}
use Rattle.spec_execution.specs.spec_validation.Faults.{is_function, immutable, constant_index, constant_step, is_constant}
use Rattle.spec_execution.specs.spec_runtime.Numerics.{Width, W32, W64, bits}
use Rattle.spec_execution.specs.spec_runtime.Constants.{index_constant, instruction_constant, constant_of}
use Rattle.spec_execution.proofs.Constants.{width_type, typed_value}
use Rattle.spec_execution.specs.Values.{is_number}
use Rattle.spec_execution.specs.Views.{View}
use Rattle.spec_execution.specs.Ranges.{Exists}
use Rattle.spec_safety.specs.ValueTypes.{HasType, constant_fits, constants_fit}
use Rattle.spec_safety.proofs.OpenBlocks.{fit_level}

-- each instruction passes the test that all of them pass
each_fits : (is : List Instr) → constants_fit is ≡ true → All (λ i. every constant_fits i ≡ true) is
each_fits [] e = All-nil (λ i. every constant_fits i ≡ true)
each_fits (i ∷ is) e =
    let both = and_parts (every constant_fits i) (constants_fit is) e in
    All-cons (λ j. every constant_fits j ≡ true) i is both.0 (each_fits is both.1)

number_of : {Units : Type 0} (V : View Units) (t : ValType) (w : Width) → width_type w ≡ t → (v : Value) → HasType V t v → (n : ℕ) × (v ≡ Num n)
number_of V t w e (Num n) h = (n, refl)
number_of V t w e (Func r) h = absurd (go w (ap is_number e ∙ h.0))
  where
    go : (w : Width) → is_number (width_type w) ≡ false → ⊥
    go W32 q = cc
    go W64 q = cc

width_has : {Units : Type 0} (V : View Units) (t : ValType) (w : Width) → width_type w ≡ t → (n : ℕ) → n < 2 ^ bits w → HasType V t (Num n)
width_has V t w e n h = subst (λ u. HasType V u (Num n)) e (go w h)
  where
    go : (w : Width) → n < 2 ^ bits w → HasType V (width_type w) (Num n)
    go W32 k = (refl, k)
    go W64 k = (refl, k)

-- functions are there, and so are the imported globals that are never set, with their types
module _ {Units : Type 0} (V : View Units) (m : Module) (functions : ℕ → Option Ref) (globals : ℕ → Option Value)
    (there : (f : ℕ) → is_function m f ≡ true → (r : Ref) × (functions f ≡ Some r) × Exists V r)
    (imported : (g : ℕ) (ty : GlobalType) (t : ValType) → slice_get (imports_of globals_in m.imports) g ≡ Some ty → immutable ty ≡ Some t
    → (v : Value) × (globals g ≡ Some v) × HasType V t v) where
  abbrev Puts : ValType → Option Value → Type 0
  Puts t o = Holds ⊥ (HasType V t) o

  function_put : (t : ValType) (k : ℕ) → constant_index m RefFunc k ≡ Some t → Puts t (functions k >>= λ r. Some (Func (Some r)))
  function_put t k e = go (is_function m k) refl e
    where
      go : (b : Bool) → is_function m k ≡ b → (if b then Some FuncRef else None) ≡ Some t → Puts t (functions k >>= λ r. Some (Func (Some r)))
      go true q h =
          let same : FuncRef ≡ t = cc in
          let r = there k q in
          rw (r.1, ← same) (refl, r.2)
      go false q h = absurd cc

  global_put : (t : ValType) (k : ℕ) → constant_index m GlobalGet k ≡ Some t → Puts t (globals k)
  global_put t k e = go (slice_get (imports_of globals_in m.imports) k) refl e
    where
      go : (o : Option GlobalType) → slice_get (imports_of globals_in m.imports) k ≡ o → (o >>= immutable) ≡ Some t → Puts t (globals k)
      go None q h = absurd cc
      go (Some ty) q h =
          let v = imported k ty t q h in
          rw v.1 v.2

  index_put : (t : ValType) (form : Option IndexForm) (k : ℕ) → (form >>= λ f. constant_index m f k) ≡ Some t
      → Puts t (form >>= λ f. index_constant functions globals f k)
  index_put t (Some RefFunc) k e = function_put t k e
  index_put t (Some GlobalGet) k e = global_put t k e
  index_put t _ k e = absurd cc

  value_put : (t : ValType) (x : Open.Instr-F Instr Expr) → every_here constant_fits (with_inside constants_fit x) ≡ true
      → constant_step m x ≡ Some t → Puts t (instruction_constant functions globals x)
  value_put t (Open.I32Const n) fits e = (let same : I32 ≡ t = cc in rw (← same) (refl, ltb-true (cast_unsigned w32 n) (2 ^ 32) fits))
  value_put t (Open.I64Const n) fits e = (let same : I64 ≡ t = cc in rw (← same) (refl, ltb-true (cast_unsigned w64 n) (2 ^ 64) fits))
  value_put t (Open.RefNull u) fits e = go (same_type u FuncRef) e
    where
      go : (b : Bool) → (if b then Some FuncRef else None) ≡ Some t → HasType V t (Func None)
      go true h = (let same : FuncRef ≡ t = cc in rw (← same) (refl, tt))
      go false h = absurd cc
  value_put t (Open.Index op k) fits e = index_put t (index_form op) k e
  value_put t _ fits e = absurd cc

  pub constant_typed : (t : ValType) (e : Expr) → constants_fit e.list ≡ true → is_constant m t e ≡ true
      → (v : Value) × (constant_of functions globals e ≡ Some v) × HasType V t v
  constant_typed t e fit typed =
      held (HasType V t) (constant_of functions globals e)
      (typed_value m t functions globals ⊥ (HasType V t) (λ i. every constant_fits i ≡ true)
      (λ i fits h. value_put t (out-Instr i) (sym (fit_level i) ∙ fits) h) (number_of V t) (width_has V t) e (each_fits e.list fit) typed)
