-- What the writers of types and of parts made of them write.
use Rattle.std.proofs.Common.{◌≡◌, ℕ, ◌<◌, Bool, List, [], ◌∷◌, ◌++◌, length, Some, None, sym, ◌∙◌, subst, arith}
use Rattle.std.specs.Prelude.{IsTrue}
use Rattle.wasm_form.specs.declared.types.ValType.{ValType}
use Rattle.wasm_form.specs.declared.types.FuncType.{FuncType}
use Rattle.wasm_form.specs.declared.types.Limits.{Limits}
use Rattle.wasm_form.specs.declared.types.TableType.{TableType}
use Rattle.wasm_form.specs.declared.types.GlobalType.{GlobalType}
use Rattle.spec_reading.specs.spec_binary.Number.{SpellsUnsigned, IsShortest, Appends}
use Rattle.spec_reading.specs.spec_binary.Sequence.{SpellsVec}
use Rattle.spec_reading.specs.spec_binary.Types.{SpellsRefType, func_ref, extern_ref, SpellsValType, i32, i64, f32, f64, reference, SpellsFuncType, function, SpellsLimits, open_ended, bounded, SpellsTableType, table, SpellsMutability, constant, variable, SpellsGlobalType, global}
use Rattle.spec_reading.specs.spec_binary.WellFormed.{is_reference_type}
use Rattle.spec_reading.specs.spec_binary.Joined.{IsByte, Joined}
use Rattle.spec_reading.proofs.of_spec_binary.Joined.{joined, behind, unjoined, after_byte, AtMost, itself, appends_byte, appends_joined, appends_like}

-- Where a byte and a word are spelled so, whatever is spelled so is that byte and such a word.
pub coded_written : {P R : List ℕ → Type 0} (b : ℕ) (old new : List ℕ) → ((w : List ℕ) → P w → R (b ∷ w)) → ((other : List ℕ) → R other → AtMost (Joined (IsByte b) P) other)
    → Appends (IsShortest (Joined (IsByte b) P)) old new → Appends (IsShortest R) old new
coded_written {R} b old new make least = appends_like old new (after_byte R make) least

-- types of one byte
ref_type_some : {t : ValType} {w : List ℕ} → SpellsRefType t w → 0 < length w
ref_type_some func_ref = omega arith
ref_type_some extern_ref = omega arith

pub val_type_some : {t : ValType} {w : List ℕ} → SpellsValType t w → 0 < length w
val_type_some i32 = omega arith
val_type_some i64 = omega arith
val_type_some f32 = omega arith
val_type_some f64 = omega arith
val_type_some (reference s) = ref_type_some s

pub shortest_val_type : (t : ValType) (b : ℕ) → SpellsValType t (b ∷ []) → IsShortest (SpellsValType t) (b ∷ [])
shortest_val_type t b s = record { spelled = s; least = λ other o. val_type_some o }

reference_of : {t : ValType} {w : List ℕ} → SpellsValType t w → IsTrue (is_reference_type t) → SpellsRefType t w
reference_of i32 r = absurd cc
reference_of i64 r = absurd cc
reference_of f32 r = absurd cc
reference_of f64 r = absurd cc
reference_of (reference s) r = s

pub val_type_written : (t : ValType) (b : ℕ) (old new : List ℕ) → SpellsValType t (b ∷ []) → new ≡ old ++ b ∷ [] → Appends (IsShortest (SpellsValType t)) old new
val_type_written t b old new s e = (b ∷ [], shortest_val_type t b s, e)

pub ref_type_written : (t : ValType) (b : ℕ) (old new : List ℕ) → SpellsValType t (b ∷ []) → IsTrue (is_reference_type t) → new ≡ old ++ b ∷ [] → Appends (IsShortest (SpellsRefType t)) old new
ref_type_written t b old new s r e = (b ∷ [], record { spelled = reference_of s r; least = λ other o. ref_type_some o }, e)

-- functions
pub func_type_parts : {ty : FuncType} {w : List ℕ} → SpellsFuncType ty w → Joined (IsByte 0x60) (Joined (SpellsVec SpellsValType ty.params) (SpellsVec SpellsValType ty.results)) w
func_type_parts (function s t) = behind _ _ (joined _ _ s t)

pub func_type_written : (ty : FuncType) (old start middle new : List ℕ) → start ≡ old ++ 0x60 ∷ [] → Appends (IsShortest (SpellsVec SpellsValType ty.params)) start middle
    → Appends (IsShortest (SpellsVec SpellsValType ty.results)) middle new → Appends (IsShortest (SpellsFuncType ty)) old new
func_type_written ty old start middle new e params results =
    coded_written 0x60 old new (unjoined (λ u. SpellsFuncType ty (0x60 ∷ u)) (λ w v p q. function p q)) (λ other s. itself other (func_type_parts s))
    (appends_joined old start new (appends_byte old start 0x60 e) (appends_joined start middle new params results))

-- size ranges
pub open_parts : {limits : Limits} {w : List ℕ} → limits.max ≡ None → SpellsLimits limits w → Joined (IsByte 0x00) (SpellsUnsigned 32 limits.min) w
open_parts e (open_ended _ s) = behind _ _ s
open_parts e (bounded f s t) = absurd cc

pub open_written : (limits : Limits) (old new : List ℕ) → limits.max ≡ None → Appends (IsShortest (Joined (IsByte 0x00) (SpellsUnsigned 32 limits.min))) old new
    → Appends (IsShortest (SpellsLimits limits)) old new
open_written limits old new e = coded_written 0x00 old new (λ w p. open_ended e p) (λ other s. itself other (open_parts e s))

same_some : (m n : ℕ) → Some m ≡ Some n → m ≡ n
same_some m n e = cc

pub bounded_parts : {limits : Limits} {w : List ℕ} (max : ℕ) → limits.max ≡ Some max → SpellsLimits limits w → Joined (Joined (IsByte 0x01) (SpellsUnsigned 32 limits.min)) (SpellsUnsigned 32 max) w
bounded_parts max e (open_ended f s) = absurd cc
bounded_parts max e (bounded {max = m} {v} f s t) = joined _ _ (behind _ _ s) (subst (λ n. SpellsUnsigned 32 n v) (same_some m max (sym f ∙ e)) t)

pub bounded_written : (limits : Limits) (max : ℕ) (old middle new : List ℕ) → limits.max ≡ Some max → Appends (IsShortest (Joined (IsByte 0x01) (SpellsUnsigned 32 limits.min))) old middle
    → Appends (IsShortest (SpellsUnsigned 32 max)) middle new → Appends (IsShortest (SpellsLimits limits)) old new
bounded_written limits max old middle new e first rest =
    appends_like old new (unjoined (SpellsLimits limits) (λ w v p q. after_byte (λ u. SpellsLimits limits (u ++ v)) (λ u s. bounded e s q) w p)) (λ other s. itself other (bounded_parts max e s))
    (appends_joined old middle new first rest)

-- tables and globals
pub table_parts : {ty : TableType} {w : List ℕ} → SpellsTableType ty w → Joined (SpellsRefType ty.elem) (SpellsLimits ty.limits) w
table_parts (table s t) = joined _ _ s t

pub table_written : (ty : TableType) (old middle new : List ℕ) → Appends (IsShortest (SpellsRefType ty.elem)) old middle → Appends (IsShortest (SpellsLimits ty.limits)) middle new
    → Appends (IsShortest (SpellsTableType ty)) old new
table_written ty old middle new elem limits =
    appends_like old new (unjoined (SpellsTableType ty) (λ w v p q. table p q)) (λ other s. itself other (table_parts s)) (appends_joined old middle new elem limits)

mutability_some : {m : Bool} {w : List ℕ} → SpellsMutability m w → 0 < length w
mutability_some constant = omega arith
mutability_some variable = omega arith

pub global_parts : {ty : GlobalType} {w : List ℕ} → SpellsGlobalType ty w → Joined (SpellsValType ty.value) (SpellsMutability ty.mutable) w
global_parts (global s t) = joined _ _ s t

pub global_written : (ty : GlobalType) (b c : ℕ) (old middle new : List ℕ) → SpellsValType ty.value (b ∷ []) → SpellsMutability ty.mutable (c ∷ []) → middle ≡ old ++ b ∷ [] → new ≡ middle ++ c ∷ []
    → Appends (IsShortest (SpellsGlobalType ty)) old new
global_written ty b c old middle new s t e f =
    appends_like old new (unjoined (SpellsGlobalType ty) (λ w v p q. global p q)) (λ other s. itself other (global_parts s))
    (appends_joined old middle new (val_type_written ty.value b old middle s e) (c ∷ [], record { spelled = t; least = λ other o. mutability_some o }, f))
