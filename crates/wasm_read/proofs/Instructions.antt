-- Reading instructions one after the other, as the loop does.
use Rattle.std.proofs.Common.{◌≡◌, ℕ, suc, ◌-◌, ◌≤◌, ◌<◌, true, false, List, [], ◌∷◌, ◌++◌, length, Ok, Err, refl, sym, ap, ◌∙◌, arith}
use Rattle.std.proofs.lemmas.List.{append-nil}
use Rattle.std.proofs.lemmas.Bool.{ne_eqb}
use Rattle.wasm_form.specs.declared.instr.Instr.{Instr}
use Rattle.wasm_read.specs.declared.broken.Break.{Break}
use Rattle.wasm_read.specs.declared.broken.Break.TheVariants as breaks
use Rattle.spec_reading.specs.Steps as steps
use Rattle.spec_reading.specs.Instructions.{instr_at, instrs_at, ends}
use Rattle.wasm_read.specs.Given.{Fails}
use Rattle.wasm_read.proofs.Loops.{with_front, regroup, front_nil}

-- what was read before, with what is still to be read, is the whole
abbrev pub Continues : List Instr → ℕ → List ℕ → List ℕ → Type 0
Continues front room rest bytes = (k : ℕ) → length bytes < k → (j : ℕ) × (length rest < j) × (with_front front (instrs_at j room rest) ≡ instrs_at k room bytes)

pub instrs_begin : (room : ℕ) (bytes : List ℕ) → Continues [] room bytes bytes
instrs_begin room bytes k h = (k, h, front_nil (instrs_at k room bytes))

pub instrs_end : (front : List Instr) (room b : ℕ) (rest after bytes : List ℕ) → rest ≡ b ∷ after → ends b ≡ true → Continues front room rest bytes
    → (k : ℕ) → length bytes < k → instrs_at k room bytes ≡ Ok (front, rest)
unfolding instrs_at
instrs_end front room b rest after bytes e h c k lt =
    let j = c k lt in
    let n : j.0 ≡ suc (j.0 - 1) = omega arith in
    let one : with_front front (instrs_at j.0 room rest) ≡ Ok (front, rest) = rw (n, e, h) (ap (λ (l : List Instr). Ok (l, b ∷ after)) (append-nil front)) in
    sym j.2 ∙ one

pub instrs_stop : (front : List Instr) (room : ℕ) (rest bytes : List ℕ) → rest ≡ [] → Continues front room rest bytes → (k : ℕ) → length bytes < k → instrs_at k room bytes ≡ Err steps.Broken
unfolding instrs_at
instrs_stop front room rest bytes e c k lt =
    let j = c k lt in
    let n : j.0 ≡ suc (j.0 - 1) = omega arith in
    let one : with_front front (instrs_at j.0 room rest) ≡ Err steps.Broken = rw (n, e) refl in
    sym j.2 ∙ one

instrs_break : (x : steps.Break) (front : List Instr) (room b m : ℕ) (rest after : List ℕ) → rest ≡ b ∷ after → ends b ≡ false → instr_at (instrs_at m) room b after ≡ Err x
    → with_front front (instrs_at (suc m) room rest) ≡ Err x
unfolding instrs_at
instrs_break x front room b m rest after e h f = rw (e, h, f) refl

broken : (x : steps.Break) (front : List Instr) (room b : ℕ) (rest after bytes : List ℕ) → rest ≡ b ∷ after → ends b ≡ false
    → ((k : ℕ) → length after < k → instr_at (instrs_at k) room b after ≡ Err x) → Continues front room rest bytes → (k : ℕ) → length bytes < k → instrs_at k room bytes ≡ Err x
broken x front room b rest after bytes e h f c k lt =
    let j = c k lt in
    let n : j.0 ≡ suc (j.0 - 1) = omega arith in
    let short : length after < j.0 - 1 = let l = ap length e in omega arith in
    let one = instrs_break x front room b (j.0 - 1) rest after e h (f (j.0 - 1) short) in
    sym j.2 ∙ ap (λ n. with_front front (instrs_at n room rest)) n ∙ one

-- where an instruction is not read, the instructions are not read either
pub instrs_fail : (e : Break) (front : List Instr) (room b : ℕ) (rest after bytes : List ℕ) → rest ≡ b ∷ after → ends b ≡ false
    → ((k : ℕ) → length after < k → Fails e (instr_at (instrs_at k) room b after)) → Continues front room rest bytes → (k : ℕ) → length bytes < k → Fails e (instrs_at k room bytes)
instrs_fail breaks.Memory front room b rest after bytes e h f c k lt = tt
instrs_fail breaks.Broken front room b rest after bytes e h f c k lt = broken steps.Broken front room b rest after bytes e h f c k lt
instrs_fail breaks.TooDeep front room b rest after bytes e h f c k lt = broken steps.TooDeep front room b rest after bytes e h f c k lt
instrs_fail breaks.TooManyLocals front room b rest after bytes e h f c k lt = broken steps.TooManyLocals front room b rest after bytes e h f c k lt

turn : (front : List Instr) (room b m : ℕ) (rest after more : List ℕ) (i : Instr) → rest ≡ b ∷ after → ends b ≡ false → instr_at (instrs_at m) room b after ≡ Ok (i, more)
    → with_front front (instrs_at (suc m) room rest) ≡ with_front (front ++ i ∷ []) (instrs_at m room more)
unfolding instrs_at
turn front room b m rest after more i e h f = rw (e, h, f) (regroup front i (instrs_at m room more))

pub instrs_go_on : (front : List Instr) (room b : ℕ) (rest after more bytes : List ℕ) (i : Instr) → rest ≡ b ∷ after → ends b ≡ false → length more ≤ length after
    → ((k : ℕ) → length after < k → instr_at (instrs_at k) room b after ≡ Ok (i, more)) → Continues front room rest bytes → Continues (front ++ i ∷ []) room more bytes
instrs_go_on front room b rest after more bytes i e h le f c k lt =
    let j = c k lt in
    let n : j.0 ≡ suc (j.0 - 1) = omega arith in
    let short : length after < j.0 - 1 = let l = ap length e in omega arith in
    let one = turn front room b (j.0 - 1) rest after more i e h (f (j.0 - 1) short) in
    (j.0 - 1, omega arith, sym (ap (λ n. with_front front (instrs_at n room rest)) n ∙ one) ∙ j.2)

-- a text with a byte, as its first and the others
pub no_end : (b : ℕ) → (b ≡ 0x05 → ⊥) → (b ≡ 0x0B → ⊥) → ends b ≡ false
no_end b h k = rw (ne_eqb b 0x05 h, ne_eqb b 0x0B k) refl

pub at_else : (b : ℕ) → b ≡ 0x05 → ends b ≡ true
at_else b e = rw e refl

pub at_end : (b : ℕ) → b ≡ 0x0B → ends b ≡ true
at_end b e = rw e refl
