-- What a search asks of a string, in steps.
use Rattle.std.proofs.Common.{◌≡◌, ℕ, zero, suc, ◌+◌, ◌^◌, ◌<◌, List, [], ◌∷◌, ◌++◌, length, drop, get_or, nat_eq, nat_lt, nat_le, not, slice_get, Some, Bool, true, false, refl, ap, subst, arith, append_assoc, mod-eq_of_lt}
use Rattle.std.proofs.lemmas.Bool.Decides.{nat_tests}
use Rattle.wasm_form.specs.declared.instr.Instr.{Instr, Plain, Index}
use Rattle.wasm_form.specs.declared.module.Module.{Module}
use Rattle.wasm_form.specs.declared.runtime.Value.{Value}
use Rattle.wasm_form.specs.declared.runtime.Value.TheVariants.{Num}
use Rattle.spec_execution.specs.spec_runtime.Memories.{MemoryInstance}
use Rattle.spec_execution.specs.spec_runtime.Numerics.{W32}
use Rattle.spec_execution.specs.Values.{low}
use Rattle.spec_execution.specs.Activations.{Level, Activation, one_if}
use Rattle.spec_execution.specs.Runs.{Frame}
use Rattle.spec_execution.specs.Instances.{ModuleParts}
use Rattle.spec_execution.specs.OneModule.{Starting}
use Rattle.merge_pieces.specs.Opcodes as op
use Rattle.merge_pieces.specs.Code.{number}
use Rattle.merge_find.specs.declared.key.Key.{Key}
use Rattle.merge_find.specs.declared.key.Key.TheVariants.{Size, Byte}
use Rattle.merge_find.specs.Decisions.{Goal, Nested, when, value, key_code, asked, either, exact_code}
use Rattle.merge_find.specs.Finding.{Begins, Lies}
use Rattle.merge_find.proofs.Steps.{Steps, steps_then, steps_nothing, steps_get, steps_number, steps_less, steps_least, steps_differ, steps_load, steps_stays, LeavesTo, Leads, leads_when, leads_over, leads_after, leads_off}

-- ---- the bytes of a string

begins_there : (bytes : List ℕ) (i b : ℕ) (bs : List ℕ) → drop i bytes ≡ b ∷ bs → (slice_get bytes i ≡ Some b) × (drop (i + 1) bytes ≡ bs)
begins_there [] zero b bs e = absurd cc
begins_there [] (suc i) b bs e = absurd cc
begins_there (y ∷ ys) zero b bs e =
    let first : y ≡ b = cc in
    let rest : ys ≡ bs = cc in
    (ap Some first, rest)
begins_there (y ∷ ys) (suc i) b bs e =
    let later = begins_there ys i b bs e in
    (later.0, (let same : suc (i + 1) ≡ suc i + 1 = omega arith in subst (λ k. drop k (y ∷ ys) ≡ bs) same later.1))

begins_at : (s all bytes : List ℕ) (a j : ℕ) → drop a all ≡ bytes → Begins s bytes → j < length s
    → (y : ℕ) × (slice_get all (a + j) ≡ Some y) × (low W32 y ≡ get_or s j 0)
begins_at [] all bytes a j e begins lt = absurd (omega (arith, lt))
begins_at (b ∷ s) all [] a j e begins lt = absurd begins
begins_at (b ∷ s) all (y ∷ bytes) a zero e begins lt =
    let here = begins_there all a y bytes e in
    let same : a + 0 ≡ a = omega arith in
    (y, rw same here.0, begins.0)
begins_at (b ∷ s) all (y ∷ bytes) a (suc j) e begins lt =
    let here = begins_there all a y bytes e in
    let later = begins_at s all bytes (a + 1) j here.1 begins.1 (omega arith) in
    let same : a + suc j ≡ a + 1 + j = omega arith in
    (later.0, rw same later.1, later.2)

low_word : (k : ℕ) → k < 2 ^ 32 → low W32 k ≡ k
low_word k small = mod-eq_of_lt small

-- the key can be asked of the string
abbrev pub InReach : Key → List ℕ → Type 0
InReach Size s = Unit {0}
InReach (Byte i) s = i < length s

-- What stands at the beginning of a search: the module, what it holds, the string, and where its address and length are.
pub record IsAsked (memory : MemoryInstance) (g : Goal) (p : ℕ) (s : List ℕ) (ls : List Value) : Type 0 where
  pub lies : Lies memory p s
  pub start : slice_get ls 0 ≡ Some (Num p)
  pub long : slice_get ls g.len ≡ Some (Num (length s))

module _ (wasm : Module) (us : ModuleParts) (memory : MemoryInstance) (g : Goal) (p : ℕ) (s : List ℕ) (ls : List Value) (is : IsAsked memory g p s ls) where
  abbrev bytes_here : List ℕ
  bytes_here = drop (low W32 p) memory.bytes

  -- ---- a key

  key_steps : (key : Key) → InReach key s → (a : ℕ) × (low W32 a ≡ value key s) × Steps wasm 2 (key_code g.len key) us memory ls [] (Num a ∷ [])
  key_steps Size reach =
      (length s, low_word (length s) is.lies.short, steps_then 0 2 (omega arith) (steps_get g.len (Num (length s)) [] is.long) steps_nothing)
  key_steps (Byte i) reach =
      let y = begins_at s memory.bytes bytes_here (low W32 p) i refl is.lies.begins reach in
      (y.0, y.2, steps_then 1 2 (omega arith) (steps_get 0 (Num p) [] is.start) (steps_load p i y.0 [] y.1))

  abbrev test : Key → ℕ → ℕ → List Instr
  test key operator b = key_code g.len key ++ number b ∷ Plain operator ∷ []

  less_steps : (key : Key) (b : ℕ) (z : Bool) → InReach key s → b < 2 ^ 32 → nat_lt (value key s) b ≡ z
      → Steps wasm 4 (test key op.i32_lt_u b) us memory ls [] (Num (one_if z) ∷ [])
  less_steps key b z reach small e =
      let a = key_steps key reach in
      let q : nat_lt (low W32 a.0) (low W32 b) ≡ z = rw (a.1, low_word b small) e in
      subst (λ t. Steps wasm 4 (test key op.i32_lt_u b) us memory ls [] (Num (one_if t) ∷ [])) q
      (steps_then 2 4 (omega arith) a.2 (steps_then 1 2 (omega arith) (steps_number b (Num a.0 ∷ []) small) (steps_less a.0 b [])))

  least_steps : (key : Key) (b : ℕ) (z : Bool) → InReach key s → b < 2 ^ 32 → nat_le b (value key s) ≡ z
      → Steps wasm 4 (test key op.i32_ge_u b) us memory ls [] (Num (one_if z) ∷ [])
  least_steps key b z reach small e =
      let a = key_steps key reach in
      let q : nat_le (low W32 b) (low W32 a.0) ≡ z = rw (a.1, low_word b small) e in
      subst (λ t. Steps wasm 4 (test key op.i32_ge_u b) us memory ls [] (Num (one_if t) ∷ [])) q
      (steps_then 2 4 (omega arith) a.2 (steps_then 1 2 (omega arith) (steps_number b (Num a.0 ∷ []) small) (steps_least a.0 b [])))

  -- ---- a question

  module _ (a : Activation) (under : List (Frame Starting)) where
    regroup : (key : Key) (operator b : ℕ) (code q : List Instr) → ((test key operator b) ++ when code ∷ []) ++ q ≡ asked g.len key operator b code ++ q
    unfolding asked
    regroup key operator b code q = ap (λ l. l ++ q) (append_assoc (key_code g.len key) (number b ∷ Plain operator ∷ []) (when code ∷ []))

    module _ (key : Key) (operator b : ℕ) (code q : List Instr) {In : List Level → Type 0} {end : List Instr} (k : ℕ) where
      asked_on : {Inner : List Level → Type 0} → ((l : Level) (lv : List Level) → In lv → Inner (l ∷ lv)) → Steps wasm 4 (test key operator b) us memory ls [] (Num 1 ∷ [])
          → Leads a under wasm k code us memory ls Inner end → Leads a under wasm (6 + k) (asked g.len key operator b code ++ q) us memory ls In end
      asked_on within steps x =
          subst (λ l. Leads a under wasm (6 + k) l us memory ls In end) (regroup key operator b code q) (leads_when a under q code 1 0 k (6 + k) (omega arith) refl within steps x)

      asked_over : Steps wasm 4 (test key operator b) us memory ls [] (Num 0 ∷ []) → Leads a under wasm k q us memory ls In end
          → Leads a under wasm (6 + k) (asked g.len key operator b code ++ q) us memory ls In end
      asked_over steps x = subst (λ l. Leads a under wasm (6 + k) l us memory ls In end) (regroup key operator b code q) (leads_over a under code 0 k (6 + k) (omega arith) refl steps x)

    least_below : (key : Key) (b : ℕ) → nat_lt (value key s) b ≡ true → nat_le b (value key s) ≡ false
    least_below key b e = grind (arith, nat_tests)

    least_above : (key : Key) (b : ℕ) → nat_lt (value key s) b ≡ false → nat_le b (value key s) ≡ true
    least_above key b e = grind (arith, nat_tests)

    -- where the code of either side leads to some code, by how deep it stands
    module _ (end : List Instr) (key : Key) (b k : ℕ) (low_code high_code : Nested) (reach : InReach key s) (small : b < 2 ^ 32) where
      abbrev Leading : Nested → Type 0
      Leading code = (deep : ℕ) → Leads a under wasm k (code deep) us memory ls (LeavesTo g.missed deep) end

      abbrev Either : Bool → Type 0
      Either first = (deep : ℕ) → Leads a under wasm (6 + k) (either g.len key b first low_code high_code deep) us memory ls (LeavesTo g.missed deep) end

      further : (deep : ℕ) (l : Level) (lv : List Level) → LeavesTo g.missed deep lv → LeavesTo g.missed (suc deep) (l ∷ lv)
      further deep l lv to = record { below = to.below; more = to.more; there = to.there }

      pub either_low : (first : Bool) → nat_lt (value key s) b ≡ true → Leading low_code → Either first
      either_low true e x deep =
          asked_on key op.i32_lt_u b (low_code (suc deep)) (high_code deep) k (further deep) (less_steps key b true reach small e) (x (suc deep))
      either_low false e x deep =
          asked_over key op.i32_ge_u b (high_code (suc deep)) (low_code deep) k (least_steps key b false reach small (least_below key b e)) (x deep)

      pub either_high : (first : Bool) → nat_lt (value key s) b ≡ false → Leading high_code → Either first
      either_high true e x deep = asked_over key op.i32_lt_u b (low_code (suc deep)) (high_code deep) k (less_steps key b false reach small e) (x deep)
      either_high false e x deep =
          asked_on key op.i32_ge_u b (high_code (suc deep)) (low_code deep) k (further deep) (least_steps key b true reach small (least_above key b e)) (x (suc deep))

  -- ---- a value

  differ_steps : (key : Key) (b : ℕ) (z : Bool) → InReach key s → b < 2 ^ 32 → nat_eq (value key s) b ≡ z
      → Steps wasm 4 (test key op.i32_ne b) us memory ls [] (Num (one_if (not z)) ∷ [])
  differ_steps key b z reach small e =
      let a = key_steps key reach in
      let q : nat_eq (low W32 a.0) (low W32 b) ≡ z = rw (a.1, low_word b small) e in
      subst (λ t. Steps wasm 4 (test key op.i32_ne b) us memory ls [] (Num (one_if (not t)) ∷ [])) q
      (steps_then 2 4 (omega arith) a.2 (steps_then 1 2 (omega arith) (steps_number b (Num a.0 ∷ []) small) (steps_differ a.0 b [])))

  module _ (a : Activation) (under : List (Frame Starting)) (key : Key) (b deep : ℕ) (q : List Instr) (reach : InReach key s) (small : b < 2 ^ 32) where
    together : ((test key op.i32_ne b) ++ Index op.br_if deep ∷ []) ++ q ≡ exact_code g.len key b deep ++ q
    unfolding exact_code
    together = ap (λ l. l ++ q) (append_assoc (key_code g.len key) (number b ∷ Plain op.i32_ne ∷ []) (Index op.br_if deep ∷ []))

    -- what is asked is this number
    pub exact_on : {In : List Level → Type 0} {end : List Instr} (k : ℕ) → nat_eq (value key s) b ≡ true → Leads a under wasm k q us memory ls In end
        → Leads a under wasm (5 + k) (exact_code g.len key b deep ++ q) us memory ls In end
    exact_on {In} {end} k e x =
        subst (λ l. Leads a under wasm (5 + k) l us memory ls In end) together
        (leads_after a under k (5 + k) (omega arith) (steps_then 1 5 (omega arith) (differ_steps key b true reach small e) (steps_stays 0 deep refl)) x)

    pub exact_off : nat_eq (value key s) b ≡ false → Leads a under wasm 5 (exact_code g.len key b deep ++ q) us memory ls (LeavesTo g.missed deep) g.missed
    exact_off e =
        subst (λ l. Leads a under wasm 5 l us memory ls (LeavesTo g.missed deep) g.missed) together
        (leads_off a under q 1 0 5 (omega arith) refl (differ_steps key b false reach small e))
