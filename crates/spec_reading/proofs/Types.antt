-- Types are read as they are spelled.
use Rattle.std.proofs.Common.{◌≡◌, ℕ, Bool, true, false, eqb, List, [], ◌∷◌, ◌++◌, Option, Some, None, Result, Ok, refl, sym, ap, subst, ◌∙◌, inl, inr}
use Rattle.std.proofs.lemmas.Bool.{eqb-true}
use Rattle.spec_binary.specs.wasm_form.declared.types.ValType.{ValType}
use Rattle.spec_binary.specs.wasm_form.declared.types.ValType.TheVariants.{I32, I64, F32, F64, FuncRef, ExternRef}
use Rattle.spec_binary.specs.wasm_form.declared.types.FuncType.{FuncType}
use Rattle.spec_binary.specs.wasm_form.declared.types.Limits.{Limits}
use Rattle.spec_binary.specs.wasm_form.declared.types.TableType.{TableType}
use Rattle.spec_binary.specs.wasm_form.declared.types.GlobalType.{GlobalType}
use Rattle.spec_binary.specs.Number.{SpellsUnsigned}
use Rattle.spec_binary.specs.Sequence.{SpellsVec}
use Rattle.spec_binary.specs.Types.{SpellsRefType, func_ref, extern_ref, SpellsValType, i32, i64, f32, f64, reference, SpellsFuncType, function, SpellsLimits, open_ended, bounded, SpellsTableType, table, SpellsMutability, constant, variable, SpellsGlobalType, global}
use Rattle.spec_reading.specs.Steps.{Break, ◌>>=◌}
use Rattle.spec_reading.specs.Values.{number_at, vec_at}
use Rattle.spec_reading.specs.Types.{ref_type_of, ref_type_at, val_type_of, val_type_at, func_type_at, limits_at, table_type_at, mutability_at, global_type_at}
use Rattle.spec_reading.proofs.Steps.{bind_ok, chosen, chosen_first, ok_is, Plainly, plain_ok, plain_broken, plain_choice, plain_bind, Takes, IsComplete, IsSound, given, IsPlain, plain_is, got, one_sound, two_sound, two_complete}
use Rattle.spec_reading.proofs.Values.{number_again, number_complete, number_sound}
use Rattle.spec_reading.proofs.Vectors.{vec_complete, vec_sound}

-- what one byte tells

module _ {A : Type 0} (Spells : A → List ℕ → Type 0) where
  abbrev gives : A → Result A Break
  gives x = Ok x

  -- a byte that was found equal to a known one spells what that one spells
  pub byte_spells : (b c : ℕ) (x y : A) → eqb b c ≡ true → gives x ≡ gives y → Spells x (c ∷ []) → Spells y (b ∷ [])
  byte_spells b c x y same e s = subst (λ b. Spells y (b ∷ [])) (sym (eqb-true b c same)) (subst (λ x. Spells x (c ∷ [])) (ok_is Break x y e) s)

  -- a reading of one byte
  pub one_byte_taken : (b : ℕ) (bs : List ℕ) (of : Result A Break) (x : A) (rest : List ℕ) → ((x : A) → of ≡ Ok x → Spells x (b ∷ [])) → (of >>= λ x. got x bs) ≡ Ok (x, rest)
      → Takes Spells (b ∷ bs) x rest
  one_byte_taken b bs of x rest spells e =
      let a = bind_ok of _ (x, rest) e in
      given Spells (b ∷ bs) a.0 x bs rest a.2 (record { word = b ∷ []; spelled = spells a.0 a.1; parts = refl })

-- reference types and value types

pub ref_type_again : {t : ValType} {w : List ℕ} → SpellsRefType t w → (rest : List ℕ) → ref_type_at (w ++ rest) ≡ Ok (t, rest)
unfolding ref_type_at
ref_type_again func_ref rest = refl
ref_type_again extern_ref rest = refl

pub ref_type_complete : IsComplete SpellsRefType ref_type_at
ref_type_complete t w s rest = ref_type_again s rest

ref_type_told : (b : ℕ) (t : ValType) → ref_type_of b ≡ Ok t → SpellsRefType t (b ∷ [])
ref_type_told b t e = elim (chosen (eqb b 0x70) _ _ _ e) [
  | inl p ↦ byte_spells SpellsRefType b 0x70 FuncRef t p.0 p.1 func_ref
  | inr p ↦ let q = chosen_first (eqb b 0x6F) _ _ _ p.1 in byte_spells SpellsRefType b 0x6F ExternRef t q.0 q.1 extern_ref
]

pub ref_type_sound : IsSound SpellsRefType ref_type_at
unfolding ref_type_at
ref_type_sound [] t rest e = absurd cc
ref_type_sound (b ∷ bs) t rest e = one_byte_taken SpellsRefType b bs (ref_type_of b) t rest (ref_type_told b) e

ref_type_tells : (b : ℕ) → Plainly (ref_type_of b)
ref_type_tells b = plain_choice (eqb b 0x70) _ _ (plain_ok _) (plain_choice (eqb b 0x6F) _ _ (plain_ok _) plain_broken)

ref_type_breaks : (text : List ℕ) → Plainly (ref_type_at text)
unfolding ref_type_at
ref_type_breaks [] = plain_broken
ref_type_breaks (b ∷ bs) = plain_bind (ref_type_of b) _ (ref_type_tells b) (λ t. plain_ok _)

pub ref_type_plain : IsPlain ref_type_at
ref_type_plain = plain_is ref_type_at ref_type_breaks

pub val_type_again : {t : ValType} {w : List ℕ} → SpellsValType t w → (rest : List ℕ) → val_type_at (w ++ rest) ≡ Ok (t, rest)
unfolding val_type_at
val_type_again i32 rest = refl
val_type_again i64 rest = refl
val_type_again f32 rest = refl
val_type_again f64 rest = refl
val_type_again (reference func_ref) rest = refl
val_type_again (reference extern_ref) rest = refl

pub val_type_complete : IsComplete SpellsValType val_type_at
val_type_complete t w s rest = val_type_again s rest

pub val_type_told : (b : ℕ) (t : ValType) → val_type_of b ≡ Ok t → SpellsValType t (b ∷ [])
val_type_told b t e = elim (chosen (eqb b 0x7F) _ _ _ e) [
  | inl p ↦ byte_spells SpellsValType b 0x7F I32 t p.0 p.1 i32
  | inr p ↦ elim (chosen (eqb b 0x7E) _ _ _ p.1) [
    | inl q ↦ byte_spells SpellsValType b 0x7E I64 t q.0 q.1 i64
    | inr q ↦ elim (chosen (eqb b 0x7D) _ _ _ q.1) [
      | inl r ↦ byte_spells SpellsValType b 0x7D F32 t r.0 r.1 f32
      | inr r ↦ elim (chosen (eqb b 0x7C) _ _ _ r.1) [
        | inl s ↦ byte_spells SpellsValType b 0x7C F64 t s.0 s.1 f64
        | inr s ↦ reference (ref_type_told b t s.1)
      ]
    ]
  ]
]

pub val_type_sound : IsSound SpellsValType val_type_at
unfolding val_type_at
val_type_sound [] t rest e = absurd cc
val_type_sound (b ∷ bs) t rest e = one_byte_taken SpellsValType b bs (val_type_of b) t rest (val_type_told b) e

pub val_type_tells : (b : ℕ) → Plainly (val_type_of b)
val_type_tells b =
    plain_choice (eqb b 0x7F) _ _ (plain_ok _)
    (plain_choice (eqb b 0x7E) _ _ (plain_ok _) (plain_choice (eqb b 0x7D) _ _ (plain_ok _) (plain_choice (eqb b 0x7C) _ _ (plain_ok _) (ref_type_tells b))))

val_type_breaks : (text : List ℕ) → Plainly (val_type_at text)
unfolding val_type_at
val_type_breaks [] = plain_broken
val_type_breaks (b ∷ bs) = plain_bind (val_type_of b) _ (val_type_tells b) (λ t. plain_ok _)

pub val_type_plain : IsPlain val_type_at
val_type_plain = plain_is val_type_at val_type_breaks

-- function types

abbrev signature : List ValType → List ValType → FuncType
signature params results = record { params = params; results = results }

types_complete : IsComplete (SpellsVec SpellsValType) (vec_at val_type_at)
types_complete = vec_complete SpellsValType val_type_at val_type_complete

types_sound : IsSound (SpellsVec SpellsValType) (vec_at val_type_at)
types_sound = vec_sound SpellsValType val_type_at val_type_sound

func_type_again : {ty : FuncType} {w : List ℕ} → SpellsFuncType ty w → (rest : List ℕ) → func_type_at (w ++ rest) ≡ Ok (ty, rest)
unfolding func_type_at
func_type_again (function {ty} {w} {v} p q) rest =
    two_complete (SpellsVec SpellsValType) (SpellsVec SpellsValType) (vec_at val_type_at) (vec_at val_type_at) types_complete types_complete signature ty.params ty.results w v p q rest

pub func_type_complete : IsComplete SpellsFuncType func_type_at
func_type_complete ty w s rest = func_type_again s rest

pub func_type_sound : IsSound SpellsFuncType func_type_at
unfolding func_type_at
func_type_sound [] ty rest e = absurd cc
func_type_sound (b ∷ bs) ty rest e =
    let q = chosen_first (eqb b 0x60) _ _ _ e in
    let t = two_sound (SpellsVec SpellsValType) (SpellsVec SpellsValType) (vec_at val_type_at) (vec_at val_type_at) types_sound types_sound signature bs ty rest q.1 in
    let s : SpellsFuncType (signature t.first t.second) (0x60 ∷ t.word ++ t.end) = function t.spelled t.after in
    record { word = 0x60 ∷ t.word ++ t.end; spelled = subst (λ ty. SpellsFuncType ty (0x60 ∷ t.word ++ t.end)) t.is s; parts = ap (λ b. b ∷ bs) (eqb-true b 0x60 q.0) ∙ ap (λ l. 0x60 ∷ l) t.parts }

-- limits

abbrev minimum : ℕ → Limits
minimum least = record { min = least; max = None }

abbrev bounds : ℕ → ℕ → Limits
bounds least most = record { min = least; max = Some most }

abbrev with_max : ℕ → Option ℕ → Limits
with_max least max = record { min = least; max = max }

no_maximum : (limits : Limits) → limits.max ≡ None → minimum limits.min ≡ limits
no_maximum limits e = ap (λ (max : Option ℕ). with_max limits.min max) (sym e)

a_maximum : (limits : Limits) (max : ℕ) → limits.max ≡ Some max → bounds limits.min max ≡ limits
a_maximum limits max e = ap (λ (max : Option ℕ). with_max limits.min max) (sym e)

limits_again : {limits : Limits} {w : List ℕ} → SpellsLimits limits w → (rest : List ℕ) → limits_at (w ++ rest) ≡ Ok (limits, rest)
unfolding limits_at
limits_again (open_ended {limits} {w} e p) rest = rw (number_again p rest) (ap (λ (l : Limits). got l rest) (no_maximum limits e))
limits_again (bounded {limits} {max} {w} {v} e p q) rest =
    two_complete (SpellsUnsigned 32) (SpellsUnsigned 32) (number_at 32) (number_at 32) (number_complete 32) (number_complete 32) bounds limits.min max w v p q rest
    ∙ ap (λ (l : Limits). got l rest) (a_maximum limits max e)

pub limits_complete : IsComplete SpellsLimits limits_at
limits_complete limits w s rest = limits_again s rest

pub limits_sound : IsSound SpellsLimits limits_at
unfolding limits_at
limits_sound [] limits rest e = absurd cc
limits_sound (b ∷ bs) limits rest e = elim (chosen (eqb b 0x00) _ _ _ e) [
  | inl p ↦
      let t = one_sound (SpellsUnsigned 32) (number_at 32) (number_sound 32) minimum bs limits rest p.1 in
      let s : SpellsLimits (minimum t.first) (0x00 ∷ t.word) = open_ended refl t.spelled in
      record { word = 0x00 ∷ t.word; spelled = subst (λ l. SpellsLimits l (0x00 ∷ t.word)) t.is s; parts = ap (λ b. b ∷ bs) (eqb-true b 0x00 p.0) ∙ ap (λ l. 0x00 ∷ l) t.parts }
  | inr p ↦
      let q = chosen_first (eqb b 0x01) _ _ _ p.1 in
      let t = two_sound (SpellsUnsigned 32) (SpellsUnsigned 32) (number_at 32) (number_at 32) (number_sound 32) (number_sound 32) bounds bs limits rest q.1 in
      let s : SpellsLimits (bounds t.first t.second) (0x01 ∷ t.word ++ t.end) = bounded refl t.spelled t.after in
      record { word = 0x01 ∷ t.word ++ t.end; spelled = subst (λ l. SpellsLimits l (0x01 ∷ t.word ++ t.end)) t.is s; parts = ap (λ b. b ∷ bs) (eqb-true b 0x01 q.0) ∙ ap (λ l. 0x01 ∷ l) t.parts }
]

-- table types

abbrev table_type : ValType → Limits → TableType
table_type elem limits = record { elem = elem; limits = limits }

table_type_again : {ty : TableType} {w : List ℕ} → SpellsTableType ty w → (rest : List ℕ) → table_type_at (w ++ rest) ≡ Ok (ty, rest)
unfolding table_type_at
table_type_again (table {ty} {w} {v} p q) rest = two_complete SpellsRefType SpellsLimits ref_type_at limits_at ref_type_complete limits_complete table_type ty.elem ty.limits w v p q rest

pub table_type_complete : IsComplete SpellsTableType table_type_at
table_type_complete ty w s rest = table_type_again s rest

pub table_type_sound : IsSound SpellsTableType table_type_at
unfolding table_type_at
table_type_sound text ty rest e =
    let t = two_sound SpellsRefType SpellsLimits ref_type_at limits_at ref_type_sound limits_sound table_type text ty rest e in
    let s : SpellsTableType (table_type t.first t.second) (t.word ++ t.end) = table t.spelled t.after in
    record { word = t.word ++ t.end; spelled = subst (λ ty. SpellsTableType ty (t.word ++ t.end)) t.is s; parts = t.parts }

-- global types

mutability_again : {m : Bool} {w : List ℕ} → SpellsMutability m w → (rest : List ℕ) → mutability_at (w ++ rest) ≡ Ok (m, rest)
unfolding mutability_at
mutability_again constant rest = refl
mutability_again variable rest = refl

pub mutability_complete : IsComplete SpellsMutability mutability_at
mutability_complete m w s rest = mutability_again s rest

pub mutability_sound : IsSound SpellsMutability mutability_at
unfolding mutability_at
mutability_sound [] m rest e = absurd cc
mutability_sound (b ∷ bs) m rest e = elim (chosen (eqb b 0x00) _ _ _ e) [
  | inl p ↦ given SpellsMutability (b ∷ bs) false m bs rest p.1 (record { word = 0x00 ∷ []; spelled = constant; parts = ap (λ b. b ∷ bs) (eqb-true b 0x00 p.0) })
  | inr p ↦
      let q = chosen_first (eqb b 0x01) _ _ _ p.1 in
      given SpellsMutability (b ∷ bs) true m bs rest q.1 (record { word = 0x01 ∷ []; spelled = variable; parts = ap (λ b. b ∷ bs) (eqb-true b 0x01 q.0) })
]

abbrev global_type : ValType → Bool → GlobalType
global_type value mutable = record { value = value; mutable = mutable }

global_type_again : {ty : GlobalType} {w : List ℕ} → SpellsGlobalType ty w → (rest : List ℕ) → global_type_at (w ++ rest) ≡ Ok (ty, rest)
unfolding global_type_at
global_type_again (global {ty} {w} {v} p q) rest =
    two_complete SpellsValType SpellsMutability val_type_at mutability_at val_type_complete mutability_complete global_type ty.value ty.mutable w v p q rest

pub global_type_complete : IsComplete SpellsGlobalType global_type_at
global_type_complete ty w s rest = global_type_again s rest

pub global_type_sound : IsSound SpellsGlobalType global_type_at
unfolding global_type_at
global_type_sound text ty rest e =
    let t = two_sound SpellsValType SpellsMutability val_type_at mutability_at val_type_sound mutability_sound global_type text ty rest e in
    let s : SpellsGlobalType (global_type t.first t.second) (t.word ++ t.end) = global t.spelled t.after in
    record { word = t.word ++ t.end; spelled = subst (λ ty. SpellsGlobalType ty (t.word ++ t.end)) t.is s; parts = t.parts }
