-- How long instructions are spelled: between as many bytes as they have units and 16 times as many.
use Rattle.std.proofs.Common.{◌≡◌, ℕ, ℤ, suc, ◌+◌, ◌*◌, ◌≤◌, List, [], ◌∷◌, ◌++◌, length, map, Some, None, refl, sym, ap, ◌∙◌, arith, length-append}
use Rattle.wasm_form.specs.declared.types.ValType.{ValType}
use Rattle.wasm_form.specs.declared.instr.BlockType.{BlockType}
use Rattle.wasm_form.specs.declared.instr.Instr.{Instr, Plain, Index, Block, Loop, If, BrTable, CallIndirect, Select, Access, MemorySize, MemoryGrow, I32Const, I64Const, F32Const, F64Const, RefNull, Prefixed, roll-Instr}
use Rattle.wasm_form.specs.declared.instr.Instr.TheOpen as Open
use Rattle.wasm_form.specs.declared.instr.Instr.TheVariants.{rolls-Plain, rolls-Index, rolls-Block, rolls-Loop, rolls-If, rolls-BrTable, rolls-CallIndirect, rolls-Select, rolls-Access, rolls-MemorySize, rolls-MemoryGrow, rolls-I32Const, rolls-I64Const, rolls-F32Const, rolls-F64Const, rolls-RefNull, rolls-Prefixed}
use Rattle.wasm_form.specs.declared.instr.Expr.{Expr}
use Rattle.spec_reading.specs.spec_binary.Number.{SpellsUnsigned}
use Rattle.spec_reading.specs.spec_binary.Sequence.{SpellsEach, SpellsVec, none, next, vec}
use Rattle.spec_reading.proofs.of_spec_binary.UnsignedSpelling.{unsigned_some, unsigned_few}
use Rattle.spec_reading.proofs.of_spec_binary.SignedSpelling.{signed_length}
use Rattle.spec_reading.proofs.of_spec_binary.SpelledItems.{items_within}
use Rattle.wasm_form.proofs.Levels.{with_inside, fold_rolled}
use Rattle.spec_reading.specs.spec_binary.Types.{SpellsValType}
use Rattle.spec_reading.specs.spec_binary.Types as types
use Rattle.spec_reading.specs.spec_binary.Instructions.{SpellsBlockType, SpellsBits, SpellsSecond, SpellsInstr, SpellsInstrs, SpellsExpr}
use Rattle.spec_reading.specs.spec_binary.Instructions as spelled
use Rattle.wasm_encode.specs.Weight.{all_units, units_here, units_inside, units, units_of, expr_weight}

lists_units : (is : List Instr) → all_units (map units is) ≡ units_of is
lists_units [] = refl
lists_units (i ∷ is) = ap (λ k. units i + k) (lists_units is)

pub units_level : (x : Open.Instr-F Instr Expr) → units (roll-Instr x) ≡ units_here (with_inside units_of x)
unfolding units
units_level x = fold_rolled units_here units_inside units_of lists_units x

pub units_then : (xs ys : List Instr) → units_of (xs ++ ys) ≡ units_of xs + units_of ys
units_then [] ys = omega arith
units_then (x ∷ xs) ys = (let later = units_then xs ys in omega arith)

pub units_rolled : (x : Open.Instr-F Instr Expr) (i : Instr) → roll-Instr x ≡ i → units i ≡ units_here (with_inside units_of x)
units_rolled x i e = ap units (sym e) ∙ units_level x

-- ---- each instruction that has no list

pub units-Plain : (op : ℕ) → units (Plain op) ≡ 1
units-Plain op = units_rolled (Open.Plain op) (Plain op) (rolls-Plain op)

pub units-Index : (op k : ℕ) → units (Index op k) ≡ 1
units-Index op k = units_rolled (Open.Index op k) (Index op k) (rolls-Index op k)

pub units-CallIndirect : (ty table : ℕ) → units (CallIndirect ty table) ≡ 1
units-CallIndirect ty table = units_rolled (Open.CallIndirect ty table) (CallIndirect ty table) (rolls-CallIndirect ty table)

pub units-Access : (op align offset : ℕ) → units (Access op align offset) ≡ 1
units-Access op align offset = units_rolled (Open.Access op align offset) (Access op align offset) (rolls-Access op align offset)

pub units-I32Const : (n : ℤ) → units (I32Const n) ≡ 1
units-I32Const n = units_rolled (Open.I32Const n) (I32Const n) (rolls-I32Const n)

pub units-If-else : (t : BlockType) (e f : Expr) → units (If t e (Some f)) ≡ suc (units_of e.list + units_of f.list)
units-If-else t e f = units_rolled (Open.If t e (Some f)) (If t e (Some f)) (rolls-If t e (Some f))

-- ---- operands

bits_long : {n v : ℕ} {w : List ℕ} → SpellsBits n v w → length w ≡ n
bits_long spelled.none = refl
bits_long (spelled.next low e rest) = ap suc (bits_long rest)

second_short : {op x y : ℕ} {w : List ℕ} → SpellsSecond op x y w → length w ≤ 10
second_short (spelled.no_number e) = omega arith
second_short (spelled.one_number e a) = (let one = unsigned_few a in omega arith)
second_short (spelled.two_numbers {w = w} {v = v} e a b) = (let one = unsigned_few a in let two = unsigned_few b in omega (arith, length-append w v))
second_short (spelled.number_and_zero {w = w} e a) = (let one = unsigned_few a in omega (arith, length-append w (0x00 ∷ [])))
second_short (spelled.one_zero e) = omega arith
second_short (spelled.two_zeros e) = omega arith

pub value_type_one : {t : ValType} {w : List ℕ} → SpellsValType t w → length w ≡ 1
value_type_one types.i32 = refl
value_type_one types.i64 = refl
value_type_one types.f32 = refl
value_type_one types.f64 = refl
value_type_one (types.reference types.func_ref) = refl
value_type_one (types.reference types.extern_ref) = refl

-- items of no more than k bytes each
pub items_short : {A : Type 0} (Spells : A → List ℕ → Type 0) (k : ℕ) → ((x : A) (w : List ℕ) → Spells x w → length w ≤ k) → (xs : List A) (w : List ℕ)
    → SpellsEach Spells xs w → length w ≤ k * length xs
items_short Spells k short [] _ none = omega arith
items_short Spells k short (x ∷ xs) _ (next {w = w} {v = v} one rest) =
    let here = short x w one in
    let later = items_short Spells k short xs v rest in
    let sum : k * suc (length xs) ≡ k + k * length xs = omega arith in
    omega (arith, length-append w v)

block_type_short : {t : BlockType} {w : List ℕ} → SpellsBlockType t w → length w ≤ 5
block_type_short spelled.empty = omega arith
block_type_short (spelled.value s) = (let one = value_type_one s in omega arith)
block_type_short (spelled.index s) = (let long = signed_length (omega arith) s in omega arith)

pub labels_within : {ls w : List ℕ} → SpellsVec (SpellsUnsigned 32) ls w → (length ls ≤ length w) × (length w ≤ 5 + 5 * length ls)
labels_within (vec {xs} {count} {w} number each) =
    let short = unsigned_few number in
    let most = items_short (SpellsUnsigned 32) 5 (λ x w s. unsigned_few s) xs w each in
    let least = items_within (SpellsUnsigned 32) (λ x w s. unsigned_some s) xs w each in
    let both = length-append count w in
    (omega arith, omega arith)

pub types_within : {ts : List ValType} {w : List ℕ} → SpellsVec SpellsValType ts w → (length ts ≤ length w) × (length w ≤ 5 + length ts)
types_within (vec {xs} {count} {w} number each) =
    let short = unsigned_few number in
    let most = items_short SpellsValType 1 (λ x w s. (let one = value_type_one s in omega arith)) xs w each in
    let least = items_within SpellsValType (λ x w s. (let one = value_type_one s in omega arith)) xs w each in
    let both = length-append count w in
    (omega arith, omega arith)

-- ---- instructions

pub record IsAbout (units : ℕ) (w : List ℕ) : Type 0 where
  pub least : units ≤ length w
  pub most : length w ≤ 16 * units

mutual
  pub instr_about : {i : Instr} {w : List ℕ} → SpellsInstr i w → IsAbout (units i) w
  instr_about (spelled.plain {b} e) = (let one = units-Plain b in record { least = omega arith; most = omega arith })
  instr_about (spelled.index {b} {n} {w} e s) =
      let one = units-Index b n in
      let short = unsigned_few s in
      record { least = omega arith; most = omega arith }
  instr_about (spelled.block {b} {t} {e = body} {w} {v} q s inner) =
      let one = units_rolled (Open.Block t body) (Block t body) (rolls-Block t body) in
      let short = block_type_short s in
      let inside = instrs_about inner in
      let least = inside.least in
      let most = inside.most in
      let sum = length-append w (v ++ 0x0B ∷ []) in
      let last = length-append v (0x0B ∷ []) in
      record { least = omega arith; most = omega arith }
  instr_about (spelled.loop {b} {t} {e = body} {w} {v} q s inner) =
      let one = units_rolled (Open.Loop t body) (Loop t body) (rolls-Loop t body) in
      let short = block_type_short s in
      let inside = instrs_about inner in
      let least = inside.least in
      let most = inside.most in
      let sum = length-append w (v ++ 0x0B ∷ []) in
      let last = length-append v (0x0B ∷ []) in
      record { least = omega arith; most = omega arith }
  instr_about (spelled.if_alone {b} {t} {e = body} {w} {v} q s inner) =
      let one = units_rolled (Open.If t body None) (If t body None) (rolls-If t body None) in
      let short = block_type_short s in
      let inside = instrs_about inner in
      let least = inside.least in
      let most = inside.most in
      let sum = length-append w (v ++ 0x0B ∷ []) in
      let last = length-append v (0x0B ∷ []) in
      record { least = omega arith; most = omega arith }
  instr_about (spelled.if_else {b} {t} {e = body} {other} {w} {v} {u} q s inner outer) =
      let one = units-If-else t body other in
      let short = block_type_short s in
      let inside = instrs_about inner in
      let least = inside.least in
      let most = inside.most in
      let beside = instrs_about outer in
      let least_other = beside.least in
      let most_other = beside.most in
      let sum = length-append w ((v ++ (0x05 ∷ u)) ++ 0x0B ∷ []) in
      let front = length-append v (0x05 ∷ u) in
      let last = length-append (v ++ (0x05 ∷ u)) (0x0B ∷ []) in
      record { least = omega arith; most = omega arith }
  instr_about (spelled.labels {b} {last} {ls} {w} {v} e s t) =
      let one = units_rolled (Open.BrTable ls last) (BrTable ls last) (rolls-BrTable ls last) in
      let within = labels_within s in
      let least = within.0 in
      let most = within.1 in
      let short = unsigned_few t in
      let sum = length-append w v in
      record { least = omega arith; most = omega arith }
  instr_about (spelled.type_and_table {b} {ty} {table} {w} {v} e s t) =
      let one = units-CallIndirect ty table in
      let short = unsigned_few s in
      let later = unsigned_few t in
      let sum = length-append w v in
      record { least = omega arith; most = omega arith }
  instr_about (spelled.value_types {b} {ts} {w} e s) =
      let one = units_rolled (Open.Select ts) (Select ts) (rolls-Select ts) in
      let within = types_within s in
      let least = within.0 in
      let most = within.1 in
      record { least = omega arith; most = omega arith }
  instr_about (spelled.ref_type {b} {t} {w} e s) =
      let one = units_rolled (Open.RefNull t) (RefNull t) (rolls-RefNull t) in
      let byte = value_type_one (types.reference s) in
      record { least = omega arith; most = omega arith }
  instr_about (spelled.memory_argument {b} {align} {offset} {w} {v} e s t) =
      let one = units-Access b align offset in
      let short = unsigned_few s in
      let later = unsigned_few t in
      let sum = length-append w v in
      record { least = omega arith; most = omega arith }
  instr_about (spelled.memory_size {b} e) = (let one = units_rolled Open.MemorySize MemorySize rolls-MemorySize in record { least = omega arith; most = omega arith })
  instr_about (spelled.memory_grow {b} e) = (let one = units_rolled Open.MemoryGrow MemoryGrow rolls-MemoryGrow in record { least = omega arith; most = omega arith })
  instr_about (spelled.i32_const {b} {n} {w} e s) =
      let one = units-I32Const n in
      let long = signed_length (omega arith) s in
      record { least = omega arith; most = omega arith }
  instr_about (spelled.i64_const {b} {n} {w} e s) =
      let one = units_rolled (Open.I64Const n) (I64Const n) (rolls-I64Const n) in
      let long = signed_length (omega arith) s in
      record { least = omega arith; most = omega arith }
  instr_about (spelled.f32_const {b} {bits} {w} e s) =
      let one = units_rolled (Open.F32Const bits) (F32Const bits) (rolls-F32Const bits) in
      let long = bits_long s in
      record { least = omega arith; most = omega arith }
  instr_about (spelled.f64_const {b} {bits} {w} e s) =
      let one = units_rolled (Open.F64Const bits) (F64Const bits) (rolls-F64Const bits) in
      let long = bits_long s in
      record { least = omega arith; most = omega arith }
  instr_about (spelled.second {b} {op} {x} {y} {w} {v} e s t) =
      let one = units_rolled (Open.Prefixed op x y) (Prefixed op x y) (rolls-Prefixed op x y) in
      let short = unsigned_few s in
      let later = second_short t in
      let sum = length-append w v in
      record { least = omega arith; most = omega arith }

  pub instrs_about : {is : List Instr} {w : List ℕ} → SpellsInstrs is w → IsAbout (units_of is) w
  instrs_about spelled.done = record { least = omega arith; most = omega arith }
  instrs_about (spelled.next {i} {is} {w} {v} s rest) =
      let here = instr_about s in
      let later = instrs_about rest in
      let least = here.least in
      let most = here.most in
      let least_later = later.least in
      let most_later = later.most in
      let sum = length-append w v in
      record { least = omega arith; most = omega arith }

-- an expression has one unit more
pub expr_about : {e : Expr} {w : List ℕ} → SpellsExpr e w → IsAbout (expr_weight e) w
expr_about (spelled.expr {w = w} s) =
    let inside = instrs_about s in
    let least = inside.least in
    let most = inside.most in
    let sum = length-append w (0x0B ∷ []) in
    record { least = omega arith; most = omega arith }
