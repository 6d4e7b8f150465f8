-- What the answer for a constant expression stands for, and its type (WebAssembly Core 2.0, section 3.3.10).
use Rattle.std.specs.Prelude.{◌≡◌, ℕ, ◌<◌, ◌^◌, List, [], ◌∷◌, length, reverse, slice_get, Bool, true, false, Option, Some, None, IfSome}
use Rattle.std.specs.Int.{cast_unsigned, w32}
use Rattle.wasm_form.specs.declared.types.ValType.{ValType}
use Rattle.wasm_form.specs.declared.types.ValType.TheVariants.{I32, I64, FuncRef}
use Rattle.wasm_form.specs.declared.types.GlobalType.{GlobalType}
use Rattle.wasm_form.specs.declared.instr.Instr.{Instr}
use Rattle.wasm_form.specs.declared.instr.Instr.TheOpen as Open
use Rattle.wasm_form.specs.declared.instr.Expr.{Expr}
use Rattle.wasm_form.specs.declared.module.Module.{Module}
use Rattle.wasm_form.specs.declared.runtime.Ref.{Ref}
use Rattle.wasm_form.specs.declared.runtime.Value.{Value}
use Rattle.wasm_form.specs.declared.runtime.Value.TheVariants as values
use Rattle.wasm_form.specs.declared.index.IndexForm.{IndexForm}
use Rattle.wasm_form.specs.declared.index.IndexForm.TheVariants.{GlobalGet}
use Rattle.wasm_form.specs.Index.{index_form}
use Rattle.spec_execution.specs.spec_binary.Options.{◌>>=◌}
use Rattle.spec_execution.specs.spec_binary.IndexSpaces.{imports_of, globals_in, function_space}
use Rattle.spec_execution.specs.spec_validation.Faults.{is_constant}
use Rattle.spec_execution.specs.spec_runtime.Constants.{arithmetic, joined, only_value}
use Rattle.wasm_check.specs.declared.value.Constant.{Constant}
use Rattle.wasm_check.specs.declared.value.Constant.TheVariants.{Num, Func}
use Rattle.wasm_check.specs.declared.value.Known.{Known}
use Rattle.wasm_check.specs.declared.value.Known.TheVariants.{Numbers, Bases}

-- a constant as a value, over what function numbers refer to
abbrev pub value_of : (ℕ → Option Ref) → Constant → Option Value
value_of functions (Num n) = Some (values.Num n)
value_of functions (Func None) = Some (values.Func None)
value_of functions (Func (Some f)) = functions f >>= λ r. Some (values.Func (Some r))

-- whatever function numbers refer to, this is the value
abbrev pub StandsFor : Option Constant → ((ℕ → Option Ref) → Option Value) → Type 0
StandsFor constant value = (functions : ℕ → Option Ref) → value functions ≡ (constant >>= value_of functions)

-- a constant of a type: a number of 32 bits, any number, or null or a function of the module; nothing is said of the types that
-- are not supported
abbrev pub IsOfType : Module → ValType → Constant → Type 0
IsOfType m I32 (Num n) = n < 2 ^ 32
IsOfType m I32 (Func f) = ⊥
IsOfType m I64 (Num n) = Unit {0}
IsOfType m I64 (Func f) = ⊥
IsOfType m FuncRef (Num n) = ⊥
IsOfType m FuncRef (Func f) = IfSome f (λ n. n < length (function_space m))
IsOfType m _ c = Unit {0}

-- an expression that is constant at some type
abbrev pub IsConstant : Module → Expr → Type 0
IsConstant m e = (t : ValType) × (is_constant m t e ≡ true)

-- the imported globals have numbers of their types
abbrev pub AreOfTypes : Module → List ℕ → Type 0
AreOfTypes m numbers = (g : ℕ) (ty : GlobalType) (n : ℕ) → slice_get (imports_of globals_in m.imports) g ≡ Some ty
    → slice_get numbers g ≡ Some n
    → IsOfType m ty.value (Num n)

-- ---- what is known of the imported globals

abbrev pub known_number : Known → ℕ → Option ℕ
known_number (Numbers ns) g = slice_get ns.now g
known_number (Bases bs) g = slice_get bs.now g >>= λ b. b

abbrev pub known_globals : Known → ℕ → Option Value
known_globals known g = known_number known g >>= λ n. Some (values.Num n)

-- the numbers that are known are of this type; bases are numbers of 32 bits
abbrev pub AreKnown : Module → ValType → Known → Type 0
AreKnown m t (Numbers ns) = (g : ℕ) (ty : GlobalType) (n : ℕ) → slice_get (imports_of globals_in m.imports) g ≡ Some ty → ty.value ≡ t
    → slice_get ns.now g ≡ Some n
    → IsOfType m t (Num n)
AreKnown m I32 (Bases bs) = Unit {0}
AreKnown m I64 (Bases bs) = Unit {0}
AreKnown m _ (Bases bs) = ⊥

-- ---- what is read

-- a base is a number of 32 bits
abbrev pub HasWordAt : Known → ℕ → Type 0
HasWordAt (Numbers ns) g = Unit {0}
HasWordAt (Bases bs) g = IfSome (known_number (Bases bs) g) (λ n. n < 2 ^ 32)

abbrev pub HasWordOf : Known → Option IndexForm → ℕ → Type 0
HasWordOf known (Some GlobalGet) g = HasWordAt known g
HasWordOf known _ g = Unit {0}

-- what an i32.const gives, and a base, is a number of 32 bits
abbrev pub HasWord : Known → Open.Instr-F Instr Expr → Type 0
HasWord known (Open.I32Const n) = cast_unsigned w32 n < 2 ^ 32
HasWord known (Open.Index op g) = HasWordOf known (index_form op) g
HasWord known _ = Unit {0}

-- ---- constants on a stack

-- the values of constants, the topmost first
abbrev pub values_of : (ℕ → Option Ref) → List Constant → Option (List Value)
values_of functions [] = Some []
values_of functions (k ∷ ks) = values_of functions ks >>= λ vs. value_of functions k >>= λ v. Some (v ∷ vs)

-- what an operator makes of two numbers
abbrev pub operated : ℕ → ℕ → ℕ → Option ℕ
operated op a b = arithmetic op >>= joined a b

-- The constants before, the last one topmost, come to those after where it is told so, and else to nothing.
abbrev pub Leaves : (ℕ → Option Ref) → Bool → (List Value → Option (List Value)) → List Constant → List Constant → Type 0
Leaves functions true after old new = (values_of functions (reverse old) >>= after) ≡ values_of functions (reverse new)
Leaves functions false after old new = (values_of functions (reverse old) >>= after) ≡ None

-- what constants come to at the end, the last one topmost
abbrev pub left_alone : (ℕ → Option Ref) → List Constant → Option Value
left_alone functions stack = values_of functions (reverse stack) >>= only_value
