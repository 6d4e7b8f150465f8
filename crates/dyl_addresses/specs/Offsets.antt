-- The numbers of offsets, by the bases that imported globals are.
-- Serves the contracts of this crate, which follow Slots of `spec_linking`.
use Rattle.std.specs.Prelude.{ℕ, IsTrue, List, slice_get, Option, None}
use Rattle.wasm_form.specs.declared.types.ValType.TheVariants.{I32}
use Rattle.wasm_form.specs.declared.instr.Expr.{Expr}
use Rattle.wasm_form.specs.declared.module.ElemMode.{ElemMode}
use Rattle.wasm_form.specs.declared.module.ElemMode.TheVariants as elem_mode
use Rattle.wasm_form.specs.declared.module.Elem.{Elem}
use Rattle.wasm_form.specs.declared.module.DataMode.{DataMode}
use Rattle.wasm_form.specs.declared.module.DataMode.TheVariants as data_mode
use Rattle.wasm_form.specs.declared.module.Data.{Data}
use Rattle.wasm_form.specs.declared.module.Module.{Module}
use Rattle.wasm_form.specs.declared.runtime.Value.{Value}
use Rattle.spec_loading.specs.spec_binary.Options.{◌>>=◌}
use Rattle.spec_loading.specs.spec_validation.Faults.{is_constant}
use Rattle.spec_loading.specs.spec_runtime.Constants.{constant_number}
use Rattle.spec_loading.specs.spec_linking.Slots.{as_number}

-- a constant expression of type i32
abbrev pub IsOffset : Expr → Type 0
IsOffset e = (m : Module) × IsTrue (is_constant m I32 e)

abbrev pub HasElemMode : ElemMode → Type 0
HasElemMode (elem_mode.Active t offset) = IsOffset offset
HasElemMode elem_mode.Passive = Unit {0}
HasElemMode elem_mode.Declarative = Unit {0}

abbrev pub HasElemOffset : Elem → Type 0
HasElemOffset e = HasElemMode e.mode

abbrev pub HasDataMode : DataMode → Type 0
HasDataMode (data_mode.Active memory offset) = IsOffset offset
HasDataMode data_mode.Passive = Unit {0}

abbrev pub HasDataOffset : Data → Type 0
HasDataOffset d = HasDataMode d.mode

-- imported globals are these bases
abbrev pub based : List (Option ℕ) → ℕ → Option Value
based bases g = slice_get bases g >>= as_number

-- the number of a constant expression
abbrev pub number_with : List (Option ℕ) → Expr → Option ℕ
number_with bases e = constant_number (λ f. None) (based bases) e
