-- How long constants and lists are spelled.
use Rattle.std.proofs.Common.{◌≡◌, ℕ, ◌+◌, ◌≤◌, List, [], ◌∷◌, ◌++◌, length, map, Option, Some, None, arith, length-append}
use denote.Hole.Carrier.{out}
use Rattle.wasm_form.specs.declared.instr.Instr.{Instr, out-Instr}
use Rattle.wasm_form.specs.declared.instr.Instr.TheOpen as Open
use Rattle.wasm_form.specs.declared.instr.Expr.{Expr}
use Rattle.wasm_form.specs.declared.runtime.Ref.{Ref}
use Rattle.spec_reading.specs.spec_binary.Sequence.{SpellsEach, SpellsVec, none, next, vec}
use Rattle.spec_reading.specs.spec_binary.Types as types
use Rattle.spec_reading.specs.spec_binary.Instructions.{SpellsInstr, SpellsInstrs}
use Rattle.spec_reading.specs.spec_binary.Instructions as spelled
use Rattle.spec_reading.specs.spec_binary.Parts.{SpellsConstant}
use Rattle.spec_reading.specs.spec_binary.Parts as parts
use Rattle.spec_reading.proofs.of_spec_binary.UnsignedSpelling.{unsigned_few}
use Rattle.spec_reading.proofs.of_spec_binary.SignedSpelling.{signed_length}
use Rattle.wasm_encode.specs.Weight.{sum_of}
use Rattle.wasm_encode.proofs.Units.{value_type_one}
use Rattle.merge_pieces.specs.Code.{number}
use Rattle.snap_module.specs.Held.{reference_instr, expr_of, offset_expr, entry_expr}

-- ---- constants

-- what constants of numbers of 32 bits and of references take
abbrev IsShort : Open.Instr-F Instr Expr → ℕ → Type 0
IsShort (Open.Index op k) len = len ≤ 6
IsShort (Open.I32Const k) len = len ≤ 6
IsShort (Open.RefNull t) len = len ≤ 6
IsShort _ len = Unit {0}

instr_short : {i : Instr} {w : List ℕ} → SpellsInstr i w → IsShort (out-Instr i) (length w)
unfolding out-Instr out
instr_short (spelled.index e s) = (let few = unsigned_few s in omega arith)
instr_short (spelled.i32_const e s) = (let few = signed_length (omega arith) s in omega arith)
instr_short (spelled.ref_type e s) = (let one = value_type_one (types.reference s) in omega arith)
instr_short other = tt

list_short : (i : Instr) (k : ℕ) → ((v : List ℕ) → SpellsInstr i v → length v ≤ k) → (w : List ℕ) → SpellsInstrs (i ∷ []) w → length w ≤ k
list_short i k short _ (spelled.next {w = w} one spelled.done) = (let here = short w one in omega (arith, length-append w []))

constant_short : (i : Instr) → ((v : List ℕ) → SpellsInstr i v → length v ≤ 6) → (w : List ℕ) → SpellsConstant (expr_of i) w → length w ≤ 7
constant_short i short _ (parts.constant flat (spelled.expr {w = w} s)) =
    (let here = list_short i 6 short w s in omega (arith, length-append w (0x0B ∷ [])))

pub offset_short : (k : ℕ) (w : List ℕ) → SpellsConstant (offset_expr k) w → length w ≤ 7
unfolding out-Instr out
offset_short k w s = constant_short (number k) (λ v t. instr_short t) w s

pub entry_short : (r : Option Ref) (w : List ℕ) → SpellsConstant (entry_expr r) w → length w ≤ 7
unfolding out-Instr out
entry_short None w s = constant_short (reference_instr None) (λ v t. instr_short t) w s
entry_short (Some r) w s = constant_short (reference_instr (Some r)) (λ v t. instr_short t) w s

-- ---- lists

pub record IsSplit {A : Type 0} (Spells : A → List ℕ → Type 0) (xs ys : List A) (w : List ℕ) : Type 0 where
  pub first : List ℕ
  pub second : List ℕ
  pub both : length w ≡ length first + length second
  pub one : SpellsEach Spells xs first
  pub other : SpellsEach Spells ys second

pub split : {A : Type 0} (Spells : A → List ℕ → Type 0) (xs ys : List A) (w : List ℕ) → SpellsEach Spells (xs ++ ys) w → IsSplit Spells xs ys w
split Spells [] ys w s = record { first = []; second = w; both = omega arith; one = none; other = s }
split Spells (x ∷ xs) ys _ (next {w = w} {v = v} here rest) =
    let later = split Spells xs ys v rest in
    let sum = length-append w v in
    let front = length-append w later.first in
    let both = later.both in
    record { first = w ++ later.first; second = later.second; both = omega arith; one = next here later.one; other = later.other }

pub one_most : {A : Type 0} (Spells : A → List ℕ → Type 0) (x : A) (k : ℕ) → ((w : List ℕ) → Spells x w → length w ≤ k) → (w : List ℕ)
    → SpellsEach Spells (x ∷ []) w → length w ≤ k
one_most Spells x k most _ (next {w = w} here none) = (let one = most w here in omega (arith, length-append w []))

-- each takes no more than this, so do all
pub mapped_most : {A B : Type 0} (Spells : B → List ℕ → Type 0) (f : A → B) (cost : A → ℕ) → ((x : A) (w : List ℕ) → Spells (f x) w → length w ≤ cost x)
    → (xs : List A) (w : List ℕ) → SpellsEach Spells (map f xs) w → length w ≤ sum_of cost xs
mapped_most Spells f cost most [] _ none = omega arith
mapped_most Spells f cost most (x ∷ xs) _ (next {w = w} {v = v} here rest) =
    let one = most x w here in
    let later = mapped_most Spells f cost most xs v rest in
    omega (arith, length-append w v)

pub vec_most : {A : Type 0} (Spells : A → List ℕ → Type 0) (xs : List A) (k : ℕ) → ((w : List ℕ) → SpellsEach Spells xs w → length w ≤ k) → (w : List ℕ)
    → SpellsVec Spells xs w → length w ≤ 5 + k
vec_most Spells xs k most _ (vec {count = count} {w = w} number each) =
    let few = unsigned_few number in
    let all = most w each in
    omega (arith, length-append count w)
