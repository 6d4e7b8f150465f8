-- What the constants of the module come to.
use Rattle.std.proofs.Common.{◌≡◌, ℕ, ◌^◌, ◌<◌, List, [], ◌∷◌, map, Option, Some, None, refl, ap, ap₂}
use Rattle.std.specs.Int.{w32, w64}
use Rattle.std.specs.List.{All}
use Rattle.std.proofs.lemmas.Int.{of_z-to_z}
use Rattle.std.proofs.lemmas.List.Elements.{All-head, All-tail}
use denote.Hole.Carrier.{out}
use Rattle.spec_loading.specs.wasm_form.declared.types.ValType.{ValType}
use Rattle.spec_loading.specs.wasm_form.declared.types.ValType.TheVariants.{I32, I64, F32, F64, FuncRef, ExternRef}
use Rattle.spec_loading.specs.wasm_form.declared.instr.Instr.{out-Instr}
use Rattle.spec_loading.specs.wasm_form.declared.module.GlobalDef.{GlobalDef}
use Rattle.spec_loading.specs.wasm_form.declared.module.Module.{Module}
use Rattle.spec_loading.specs.wasm_form.declared.runtime.Ref.{Ref}
use Rattle.spec_loading.specs.wasm_form.declared.runtime.Value.{Value}
use Rattle.spec_loading.specs.wasm_form.declared.runtime.Value.TheVariants.{Num, Func}
use Rattle.spec_loading.specs.spec_runtime.Constants.{constant_in, constant_entry, no_globals}
use Rattle.spec_loading.specs.spec_execution.Instances.{module_target, constant_offset, global_value}
use Rattle.merge_pieces.specs.Code.{number}
use Rattle.snap_module.specs.Held.{reference_instr, constant_instr, offset_expr, entry_expr, held_globals, IsReference, IsOfType, AreGlobals}

module _ (m : Module) where
  number_value : (k : ℕ) → k < 2 ^ 32 → constant_in (module_target m) no_globals (number k ∷ []) ≡ Some (Num k)
  unfolding out-Instr out
  number_value k lt = ap (λ n. Some (Num n)) (of_z-to_z w32 k lt)

  long_value : (k : ℕ) → k < 2 ^ 64 → constant_in (module_target m) no_globals (constant_instr I64 (Num k) ∷ []) ≡ Some (Num k)
  unfolding out-Instr out
  long_value k lt = ap (λ n. Some (Num n)) (of_z-to_z w64 k lt)

  reference_value : (r : Option Ref) → IsReference m r → constant_in (module_target m) no_globals (reference_instr r ∷ []) ≡ Some (Func r)
  unfolding out-Instr out
  reference_value None is = refl
  reference_value (Some r) is = rw is refl

  pub offset_value : (k : ℕ) → k < 2 ^ 32 → constant_offset m (offset_expr k) ≡ Some k
  offset_value k lt = rw (number_value k lt) refl

  value_of : (t : ValType) (v : Value) → IsOfType m t v → constant_in (module_target m) no_globals (constant_instr t v ∷ []) ≡ Some v
  value_of I32 (Num k) is = number_value k is
  value_of I64 (Num k) is = long_value k is
  value_of FuncRef (Func r) is = reference_value r is
  value_of I32 (Func r) is = absurd is
  value_of I64 (Func r) is = absurd is
  value_of FuncRef (Num k) is = absurd is
  value_of F32 v is = absurd is
  value_of F64 v is = absurd is
  value_of ExternRef v is = absurd is

  pub globals_opened : (gs : List GlobalDef) (vs : List Value) → AreGlobals m gs vs → map (global_value m) (held_globals gs vs) ≡ vs
  globals_opened [] [] are = refl
  globals_opened [] (v ∷ vs) are = absurd are
  globals_opened (g ∷ gs) [] are = absurd are
  globals_opened (g ∷ gs) (v ∷ vs) are = ap₂ (λ a l. a ∷ l) (rw (value_of g.ty.value v are.0) refl) (globals_opened gs vs are.1)

  entry_value : (r : Option Ref) → IsReference m r → constant_entry (module_target m) no_globals (entry_expr r) ≡ r
  entry_value r is = rw (reference_value r is) refl

  pub entries_opened : (rs : List (Option Ref)) → All (IsReference m) rs → map (constant_entry (module_target m) no_globals) (map entry_expr rs) ≡ rs
  entries_opened [] all = refl
  entries_opened (r ∷ rs) all = ap₂ (λ a l. a ∷ l) (entry_value r (All-head (IsReference m) r rs all)) (entries_opened rs (All-tail (IsReference m) r rs all))
