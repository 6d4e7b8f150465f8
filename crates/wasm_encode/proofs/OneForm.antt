-- Of the words of a type, an instruction or a part one alone is the shortest.
use Rattle.std.proofs.Common.{◌≡◌, ℕ, Bool, cond, List, [], ◌∷◌, ◌++◌, Option, Some, None, refl}
use Rattle.wasm_form.specs.declared.types.ValType.{ValType}
use Rattle.wasm_form.specs.declared.types.ValType.TheVariants.{I32, I64, F32, F64, FuncRef, ExternRef}
use Rattle.wasm_form.specs.declared.types.FuncType.{FuncType}
use Rattle.wasm_form.specs.declared.types.Limits.{Limits}
use Rattle.wasm_form.specs.declared.types.TableType.{TableType}
use Rattle.wasm_form.specs.declared.types.GlobalType.{GlobalType}
use Rattle.spec_reading.specs.spec_binary.Types.{SpellsRefType, func_ref, extern_ref, SpellsValType, i32, i64, f32, f64, reference, SpellsFuncType, function, SpellsLimits, open_ended, bounded, SpellsTableType, table, SpellsMutability, constant, variable, SpellsGlobalType, global}
use Rattle.spec_reading.proofs.of_spec_binary.Joined.{unjoined, after_byte}
use Rattle.spec_reading.proofs.of_spec_binary.UnsignedSpelling.{one_shortest_unsigned}
use Rattle.wasm_encode.proofs.TypeForms.{func_type_parts, open_parts, bounded_parts, table_parts, global_parts}
use Rattle.wasm_encode.proofs.OneWord.{OneWord, one_is, one_byte, one_like, one_joined, one_vec}

-- ---- types

abbrev type_byte : ValType → ℕ
type_byte I32 = 0x7F
type_byte I64 = 0x7E
type_byte F32 = 0x7D
type_byte F64 = 0x7C
type_byte FuncRef = 0x70
type_byte ExternRef = 0x6F

ref_type_is : {t : ValType} {w : List ℕ} → SpellsRefType t w → w ≡ type_byte t ∷ []
ref_type_is func_ref = refl
ref_type_is extern_ref = refl

val_type_is : {t : ValType} {w : List ℕ} → SpellsValType t w → w ≡ type_byte t ∷ []
val_type_is i32 = refl
val_type_is i64 = refl
val_type_is f32 = refl
val_type_is f64 = refl
val_type_is (reference s) = ref_type_is s

pub one_ref_type : (t : ValType) → OneWord (SpellsRefType t)
one_ref_type t = one_is (type_byte t ∷ []) (λ w s. ref_type_is s)

pub one_val_type : (t : ValType) → OneWord (SpellsValType t)
one_val_type t = one_is (type_byte t ∷ []) (λ w s. val_type_is s)

pub one_func_type : (ty : FuncType) → OneWord (SpellsFuncType ty)
one_func_type ty =
    one_like (λ w s. func_type_parts s) (after_byte (SpellsFuncType ty) (unjoined (λ u. SpellsFuncType ty (0x60 ∷ u)) (λ w v s t. function s t)))
    (one_joined (one_byte 0x60) (one_joined (one_vec one_val_type ty.params) (one_vec one_val_type ty.results)))

limits_by : (l : Limits) (most : Option ℕ) → l.max ≡ most → OneWord (SpellsLimits l)
limits_by l None e = one_like (λ w s. open_parts e s) (after_byte (SpellsLimits l) (λ w s. open_ended e s)) (one_joined (one_byte 0x00) (one_shortest_unsigned 32 l.min))
limits_by l (Some max) e =
    one_like (λ w s. bounded_parts max e s)
    (unjoined (SpellsLimits l) (λ w v p q. after_byte (λ u. SpellsLimits l (u ++ v)) (λ u s. bounded e s q) w p))
    (one_joined (one_joined (one_byte 0x01) (one_shortest_unsigned 32 l.min)) (one_shortest_unsigned 32 max))

pub one_limits : (l : Limits) → OneWord (SpellsLimits l)
one_limits l = limits_by l l.max refl

pub one_table_type : (ty : TableType) → OneWord (SpellsTableType ty)
one_table_type ty = one_like (λ w s. table_parts s) (unjoined (SpellsTableType ty) (λ w v s t. table s t)) (one_joined (one_ref_type ty.elem) (one_limits ty.limits))

mutability_is : {m : Bool} {w : List ℕ} → SpellsMutability m w → w ≡ cond m 0x01 0x00 ∷ []
mutability_is constant = refl
mutability_is variable = refl

pub one_global_type : (ty : GlobalType) → OneWord (SpellsGlobalType ty)
one_global_type ty =
    one_like (λ w s. global_parts s) (unjoined (SpellsGlobalType ty) (λ w v s t. global s t))
    (one_joined (one_val_type ty.value) (one_is (cond ty.mutable 0x01 0x00 ∷ []) (λ w s. mutability_is s)))
