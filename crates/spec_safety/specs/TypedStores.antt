-- Units over one store, whose names have types.
-- Part of the statement of laws (WebAssembly Core 2.0, appendix on soundness).
use Rattle.std.specs.Prelude.{◌≡◌, ℕ, Some, true, false}
use Rattle.spec_execution.specs.wasm_form.declared.types.ValType.{ValType}
use Rattle.spec_execution.specs.wasm_form.declared.types.FuncType.{FuncType}
use Rattle.spec_execution.specs.wasm_form.declared.types.GlobalType.{GlobalType}
use Rattle.spec_execution.specs.wasm_form.declared.runtime.Ref.{Ref}
use Rattle.spec_execution.specs.spec_binary.Indices.{Function}
use Rattle.spec_execution.specs.spec_validation.Context.{Context}
use Rattle.spec_execution.specs.Values.{is_number}
use Rattle.spec_execution.specs.Views.{type_of}
use Rattle.spec_execution.specs.Instances.{Instances, store_view}
use Rattle.spec_safety.specs.TypedViews.{HasBody}

-- Code is typed under the names of its unit, and these lead to what has their types; globals at one address are of one type.
pub record AreTyped (I : Instances) (N : ℕ → Context) : Type 0 where
  pub types : (unit : ℕ) → (N unit).types ≡ I.declared unit
  pub functions : (unit f : ℕ) (ty : FuncType) → (N unit).functions f ≡ Some ty
      → (r : Ref) × (I.target unit f ≡ Some r) × (type_of (store_view I) r ≡ Some ty)
  pub refers : (unit f : ℕ) → (N unit).refers f ≡ true → (ty : FuncType) × ((N unit).functions f ≡ Some ty)
  pub globals : (unit g other k : ℕ) (t u : GlobalType) → (N unit).globals g ≡ Some t → (N other).globals k ≡ Some u
      → I.global_at unit g ≡ I.global_at other k → t.value ≡ u.value
  pub tables : (unit t : ℕ) (ty : ValType) → (N unit).tables t ≡ Some ty → is_number ty ≡ false
  pub code : (unit f : ℕ) (x : Function) → I.code unit f ≡ Some x → HasBody (N unit) (I.height unit f) x
