-- The values of constant expressions of a module that imports functions alone.
use Rattle.std.proofs.Common.{◌≡◌, ℕ, ◌<◌, Bool, true, false, List, [], ◌∷◌, length, map, refl, sym, ap, ◌∙◌}
use Rattle.std.specs.Prelude.{None, Some, Option, is_some, if◌then◌else◌}
use Rattle.std.specs.List.{list_all}
use Rattle.std.proofs.lemmas.Bool.{ltb-true, and_parts}
use Rattle.wasm_form.specs.declared.types.ValType.{ValType}
use Rattle.wasm_form.specs.declared.types.ValType.TheVariants.{FuncRef}
use Rattle.wasm_form.specs.declared.types.FuncType.{FuncType}
use Rattle.wasm_form.specs.declared.instr.Instr.{Instr, out-Instr}
use Rattle.wasm_form.specs.declared.instr.Instr.TheOpen as Open
use Rattle.wasm_form.specs.declared.instr.Expr.{Expr}
use Rattle.wasm_form.specs.declared.module.Module.{Module}
use Rattle.wasm_form.specs.declared.index.IndexForm.{IndexForm}
use Rattle.wasm_form.specs.declared.index.IndexForm.TheVariants as forms
use Rattle.wasm_form.specs.Index.{index_form}
use Rattle.wasm_form.specs.declared.runtime.Value.{Value}
use Rattle.wasm_form.specs.declared.runtime.Value.TheVariants as values
use Rattle.spec_safety.specs.spec_binary.Options.{◌>>=◌}
use Rattle.spec_safety.specs.spec_binary.Indices.{function_type}
use Rattle.spec_safety.specs.spec_binary.IndexSpaces.{function_space}
use Rattle.spec_safety.specs.spec_validation.Faults.{is_function, is_constant}
use Rattle.spec_safety.specs.spec_validation.Faults as valid
use Rattle.spec_safety.specs.spec_runtime.Constants.{index_constant, instruction_constant, constant_of, no_globals, numbered_globals, number_in}
use Rattle.spec_safety.specs.spec_execution.Instances.{function_named, module_target, constant_value, constant_offset}
use Rattle.spec_safety.proofs.of_spec_execution.Constants.{has_value}
use Rattle.wasm_check.specs.declared.value.Constant.{Constant}
use Rattle.wasm_check.specs.declared.value.Constant.TheVariants as constant
use Rattle.wasm_check.specs.Constants.{StandsFor, AreOfTypes, IsConstant}
use Rattle.wasm_check.specs.Constants as checked
use Rattle.wasm_instance.specs.Imports.{function_after, ImportsFunctions}
use Rattle.wasm_instance.specs.Constants.{value_of}
use Rattle.wasm_instance.proofs.Alone.{no_globals as no_globals_imported}
use Rattle.wasm_instance.proofs.FunctionTypes.{named_is}

-- no global is imported
pub none_of_types : (m : Module) → AreOfTypes m []
none_of_types m g ty n found number = absurd cc

-- ---- functions

module _ (m : Module) (imported : ℕ) (source : ImportsFunctions m imported) where
  pub target_is : (f : ℕ) → f < length (function_space m) → module_target m f ≡ Some (function_after imported f)
  target_is f inside = sym (named_is m source.alone.valid f inside) ∙ ap (λ n. Some (function_after n f)) (sym source.count)

  pub targets_are : (fs : List ℕ) → list_all (is_function m) fs ≡ true → map (λ f. Some (function_after imported f)) fs ≡ map (module_target m) fs
  targets_are [] e = refl
  targets_are (f ∷ fs) e =
      let both = and_parts (is_function m f) (list_all (is_function m) fs) e in
      ap (λ o. o ∷ map (λ f. Some (function_after imported f)) fs) (sym (target_is f (ltb-true f (length (function_space m)) both.0)))
      ∙ ap (λ l. module_target m f ∷ l) (targets_are fs both.1)

  -- ---- a typed expression has a value

  function_valued : (f : ℕ) → is_some (if is_function m f then Some FuncRef else None) ≡ true → is_some (module_target m f >>= λ r. Some (values.Func (Some r))) ≡ true
  function_valued f typed = go (is_function m f) refl typed
    where
      go : (b : Bool) → is_function m f ≡ b → is_some (if b then Some FuncRef else None) ≡ true → is_some (module_target m f >>= λ r. Some (values.Func (Some r))) ≡ true
      go true q e = rw (target_is f (ltb-true f (length (function_space m)) q)) refl
      go false q e = absurd cc

  index_valued : (form : Option IndexForm) (n : ℕ) → is_some (form >>= λ x. valid.constant_index m x n) ≡ true → is_some (form >>= λ x. index_constant (module_target m) no_globals x n) ≡ true
  index_valued (Some forms.RefFunc) n typed = function_valued n typed
  index_valued (Some forms.GlobalGet) n typed = absurd (let none = rw (no_globals_imported m source.alone.imports) at typed in cc)
  index_valued _ n typed = absurd cc

  step_valued : (x : Open.Instr-F Instr Expr) → is_some (valid.constant_step m x) ≡ true → is_some (instruction_constant (module_target m) no_globals x) ≡ true
  step_valued (Open.I32Const n) typed = refl
  step_valued (Open.I64Const n) typed = refl
  step_valued (Open.RefNull t) typed = refl
  step_valued (Open.Index op n) typed = index_valued (index_form op) n typed
  step_valued _ typed = absurd cc

  no_number : (g : ℕ) (v : Value) → no_globals g ≡ Some v → (n : ℕ) × (v ≡ values.Num n)
  no_number g v e = absurd cc

  constant_valued : (t : ValType) (e : Expr) → is_constant m t e ≡ true → (v : Value) × (constant_value m e ≡ Some v)
  constant_valued t e typed = has_value m (module_target m) no_globals no_number t (λ i h. step_valued (out-Instr i) (ap is_some h)) e typed

  -- ---- a constant that stands for a typed expression is its value

  named_value : (f : ℕ) (ty : Option FuncType) → is_some ((ty >>= λ t. Some (function_named m f)) >>= λ r. Some (values.Func (Some r))) ≡ true
      → ((ty >>= λ t. Some (function_named m f)) >>= λ r. Some (values.Func (Some r))) ≡ Some (values.Func (Some (function_after imported f)))
  named_value f None e = absurd cc
  named_value f (Some t) e = ap (λ n. Some (values.Func (Some (function_after n f)))) (sym source.count)

  constant_is : (c : Constant) → is_some (checked.value_of (module_target m) c) ≡ true → checked.value_of (module_target m) c ≡ Some (value_of imported c)
  constant_is (constant.Num n) e = refl
  constant_is (constant.Func None) e = refl
  constant_is (constant.Func (Some f)) e = named_value f (function_type m f) e

  pub value_is : (c : Constant) (e : Expr) → IsConstant m e → StandsFor (Some c) (λ functions. constant_of functions (numbered_globals []) e) → constant_value m e ≡ Some (value_of imported c)
  value_is c e typed stands =
      let is : constant_value m e ≡ checked.value_of (module_target m) c = stands (module_target m) in
      let there : is_some (constant_value m e) ≡ true = ap is_some (constant_valued typed.0 e typed.1).1 in
      is ∙ constant_is c (ap is_some (sym is) ∙ there)

-- a number that stands for an expression is where its segment goes
pub offset_is : (m : Module) (n : ℕ) (e : Expr) → StandsFor (Some (constant.Num n)) (λ functions. constant_of functions (numbered_globals []) e) → constant_offset m e ≡ Some n
offset_is m n e stands = ap (λ o. o >>= number_in) (stands (module_target m))
