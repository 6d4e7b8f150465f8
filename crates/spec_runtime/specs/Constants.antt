-- The values of constant expressions (WebAssembly Core 2.0, section 3.3.10, with the operators of extended ones), over what the numbers in
-- them name: functions, and the imported globals with their values.
use Rattle.std.specs.Prelude.{ℕ, ◌%◌, ◌^◌, List, [], ◌∷◌, map, slice_get, Option, Some, None, if◌then◌else◌}
use Rattle.std.specs.Int.{cast_unsigned, w32, w64}
use Rattle.spec_binary.specs.wasm_form.declared.instr.Instr.{Instr, out-Instr}
use Rattle.spec_binary.specs.wasm_form.declared.instr.Instr.TheOpen as Open
use Rattle.spec_binary.specs.wasm_form.declared.instr.Expr.{Expr}
use Rattle.spec_binary.specs.wasm_form.declared.module.ElemItems.{ElemItems}
use Rattle.spec_binary.specs.wasm_form.declared.module.ElemItems.TheVariants as elem_items
use Rattle.spec_binary.specs.wasm_form.declared.runtime.Ref.{Ref}
use Rattle.spec_binary.specs.wasm_form.declared.index.IndexForm.{IndexForm}
use Rattle.spec_binary.specs.wasm_form.declared.index.IndexForm.TheVariants.{RefFunc, GlobalGet}
use Rattle.spec_binary.specs.wasm_form.Index.{index_form}
use Rattle.spec_binary.specs.wasm_form.declared.runtime.Value.{Value}
use Rattle.spec_binary.specs.wasm_form.declared.runtime.Value.TheVariants.{Num, Func}
use Rattle.spec_binary.specs.Options.{◌>>=◌}
use Rattle.spec_binary.specs.Constants.{is_constant_operator}
use Rattle.spec_runtime.specs.Numerics.{Width, bits, Outcome, Whole, Traps, Binary, binary, binary_of}

-- ref.func, or global.get of an imported global
abbrev pub index_constant : (ℕ → Option Ref) → (ℕ → Option Value) → IndexForm → ℕ → Option Value
index_constant functions globals RefFunc f = functions f >>= λ r. Some (Func (Some r))
index_constant functions globals GlobalGet g = globals g
index_constant functions globals _ n = None

-- the value that an instruction puts on the stack; a number is its bits
abbrev pub instruction_constant : (ℕ → Option Ref) → (ℕ → Option Value) → Open.Instr-F Instr Expr → Option Value
instruction_constant functions globals (Open.I32Const n) = Some (Num (cast_unsigned w32 n))
instruction_constant functions globals (Open.I64Const n) = Some (Num (cast_unsigned w64 n))
instruction_constant functions globals (Open.RefNull t) = Some (Func None)
instruction_constant functions globals (Open.Index op n) = index_form op >>= λ f. index_constant functions globals f n
instruction_constant functions globals _ = None

-- the sum, the difference or the product of two numbers, modulo 2^32 or 2^64
abbrev pub whole : Outcome → Option ℕ
whole (Whole n) = Some n
whole (Traps why) = None

abbrev pub joined : ℕ → ℕ → Width × Binary → Option ℕ
joined a b o = whole (binary o.0 o.1 (a % 2 ^ bits o.0) (b % 2 ^ bits o.0))

abbrev pub arithmetic : ℕ → Option (Width × Binary)
arithmetic op = if is_constant_operator op then binary_of op else None

-- the values on the stack, the topmost first, after an operator, and after any instruction of a constant expression
abbrev pub after_operator : ℕ → List Value → Option (List Value)
after_operator op (Num b ∷ Num a ∷ vs) = arithmetic op >>= joined a b >>= λ n. Some (Num n ∷ vs)
after_operator op _ = None

abbrev pub after_constant : (ℕ → Option Ref) → (ℕ → Option Value) → Open.Instr-F Instr Expr → List Value → Option (List Value)
after_constant functions globals (Open.Plain op) vs = after_operator op vs
after_constant functions globals x vs = instruction_constant functions globals x >>= λ v. Some (v ∷ vs)

abbrev pub after_constants : (ℕ → Option Ref) → (ℕ → Option Value) → List Instr → List Value → Option (List Value)
after_constants functions globals [] vs = Some vs
after_constants functions globals (i ∷ is) vs = after_constant functions globals (out-Instr i) vs >>= after_constants functions globals is

-- the value of a constant expression is what it leaves on the stack
abbrev pub only_value : List Value → Option Value
only_value (v ∷ []) = Some v
only_value _ = None

abbrev pub constant_in : (ℕ → Option Ref) → (ℕ → Option Value) → List Instr → Option Value
constant_in functions globals is = after_constants functions globals is [] >>= only_value

abbrev pub constant_of : (ℕ → Option Ref) → (ℕ → Option Value) → Expr → Option Value
constant_of functions globals e = constant_in functions globals e.list

-- no global is imported
abbrev pub no_globals : ℕ → Option Value
no_globals g = None

-- the imported globals have these numbers, in order
abbrev pub numbered_globals : List ℕ → ℕ → Option Value
numbered_globals numbers g = slice_get numbers g >>= λ n. Some (Num n)

-- ---- what a value is taken for

-- an address, an index or a count
abbrev pub number_in : Value → Option ℕ
number_in (Num n) = Some n
number_in (Func r) = None

-- an entry of a table: a function or null
abbrev pub reference_in : Value → Option Ref
reference_in (Num n) = None
reference_in (Func r) = r

abbrev pub constant_number : (ℕ → Option Ref) → (ℕ → Option Value) → Expr → Option ℕ
constant_number functions globals e = constant_of functions globals e >>= number_in

abbrev pub constant_entry : (ℕ → Option Ref) → (ℕ → Option Value) → Expr → Option Ref
constant_entry functions globals e = constant_of functions globals e >>= reference_in

-- the entries that an element segment gives
abbrev pub constant_entries : (ℕ → Option Ref) → (ℕ → Option Value) → ElemItems → List (Option Ref)
constant_entries functions globals (elem_items.Funcs fs) = map functions fs
constant_entries functions globals (elem_items.Exprs t es) = map (constant_entry functions globals) es
