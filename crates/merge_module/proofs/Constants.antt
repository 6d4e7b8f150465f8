-- The constants of the merged module: numbers, and values by the numbers.
use Rattle.std.proofs.Common.{◌≡◌, ℕ, ◌^◌, ◌<◌, [], ◌∷◌, Some, None, refl, ap}
use Rattle.std.specs.Int.{w32, w64}
use Rattle.std.proofs.lemmas.Int.{of_z-to_z}
use denote.Hole.Carrier.{out}
use Rattle.spec_reading.specs.wasm_form.declared.types.ValType.{ValType}
use Rattle.spec_reading.specs.wasm_form.declared.types.ValType.TheVariants.{I32, I64, F32, F64, FuncRef, ExternRef}
use Rattle.spec_reading.specs.wasm_form.declared.instr.Instr.{out-Instr}
use Rattle.spec_reading.specs.wasm_form.declared.module.Module.{Module}
use Rattle.spec_reading.specs.wasm_form.declared.runtime.Ref.{Ref}
use Rattle.spec_reading.specs.wasm_form.declared.runtime.Value.{Value}
use Rattle.spec_reading.specs.wasm_form.declared.runtime.Value.TheVariants.{Num, Func}
use Rattle.spec_loading.specs.spec_runtime.Constants.{constant_in, no_globals}
use Rattle.spec_loading.specs.spec_execution.Instances.{module_target, constant_offset}
use Rattle.spec_loading.specs.spec_linking.LinkedSets.{LinkedSet}
use Rattle.merge_match.specs.Renumbering.{Numbers, reference, value}
use Rattle.merge_start.specs.Words.{number}
use Rattle.merge_module.specs.MergedModule.{number_expr, constant_instr}
use Rattle.merge_module.proofs.GlobalValues.{IsNamed, IsValue}

module _ (wasm : Module) where
  pub number_value : (k : ℕ) → k < 2 ^ 32 → constant_in (module_target wasm) no_globals (number k ∷ []) ≡ Some (Num k)
  unfolding out-Instr out
  number_value k lt = ap (λ n. Some (Num n)) (of_z-to_z w32 k lt)

  pub number_offset : (k : ℕ) → k < 2 ^ 32 → constant_offset wasm (number_expr k) ≡ Some k
  number_offset k lt = rw (number_value k lt) refl

  module _ (L : LinkedSet) (n : Numbers) (targets : (r : Ref) → IsNamed L r → module_target wasm (n.function r) ≡ Some (reference n r)) where
    named_value : (r : Ref) → IsNamed L r → constant_in (module_target wasm) no_globals (constant_instr n FuncRef (Func (Some r)) ∷ []) ≡ Some (Func (Some (reference n r)))
    unfolding out-Instr out
    named_value r named = rw (targets r named) refl

    null_value : constant_in (module_target wasm) no_globals (constant_instr n FuncRef (Func None) ∷ []) ≡ Some (Func None)
    unfolding out-Instr out
    null_value = refl

    long : (k : ℕ) → k < 2 ^ 64 → constant_in (module_target wasm) no_globals (constant_instr n I64 (Num k) ∷ []) ≡ Some (Num k)
    unfolding out-Instr out
    long k lt = ap (λ j. Some (Num j)) (of_z-to_z w64 k lt)

    pub value_kept : (t : ValType) (v : Value) → IsValue L t v → constant_in (module_target wasm) no_globals (constant_instr n t v ∷ []) ≡ Some (value n v)
    value_kept I32 (Num k) lt = number_value k lt
    value_kept I64 (Num k) lt = long k lt
    value_kept FuncRef (Func None) is = null_value
    value_kept FuncRef (Func (Some r)) is = named_value r is
    value_kept I32 (Func r) is = absurd is
    value_kept I64 (Func r) is = absurd is
    value_kept FuncRef (Num k) is = absurd is
    value_kept F32 v is = absurd is
    value_kept F64 v is = absurd is
    value_kept ExternRef v is = absurd is
