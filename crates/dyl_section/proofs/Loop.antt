-- Reading one subsection after another, as the loop does.
use Rattle.std.proofs.Common.{◌≡◌, ℕ, suc, ◌-◌, ◌≤◌, List, [], ◌∷◌, length, Ok, Err, refl, sym, ap, ◌∙◌, arith}
use Rattle.spec_reading.specs.Steps as steps
use Rattle.wasm_read.specs.declared.broken.Break.{Break}
use Rattle.wasm_read.specs.declared.broken.Break.TheVariants as breaks
use Rattle.wasm_read.specs.Given.{Fails}
use Rattle.dyl_section.specs.declared.record.Dylink.{Dylink}
use Rattle.dyl_section.specs.Recorded.{fault_of}
use Rattle.dyl_section.specs.Reading.{part_at, one_more, subsections_at, nothing_said, Tells}

-- what was said before, with what is still to be read, is the whole
abbrev pub Continues : Dylink → ℕ → List ℕ → List ℕ → Type 0
Continues d count rest bytes = (k : ℕ) → length bytes ≤ k → (j : ℕ) × (length rest ≤ j) × (subsections_at j count d rest ≡ subsections_at k 0 nothing_said bytes)

pub loop_begins : (d : Dylink) (bytes : List ℕ) → d ≡ nothing_said → Continues d 0 bytes bytes
loop_begins d bytes e k h = (k, h, ap (λ (x : Dylink). subsections_at k 0 x bytes) e)

pub loop_ends : (d : Dylink) (count : ℕ) (rest bytes : List ℕ) → rest ≡ [] → Continues d count rest bytes → (k : ℕ) → length bytes ≤ k → Tells (Ok d) (subsections_at k 0 nothing_said bytes)
unfolding subsections_at
loop_ends d count rest bytes e so_far k h =
    let j = so_far k h in
    let one : subsections_at j.0 count d rest ≡ Ok d = rw e refl in
    sym j.2 ∙ one

turn : (d e : Dylink) (m count b : ℕ) (rest after next : List ℕ) → rest ≡ b ∷ after → part_at d b after ≡ Ok (e, next)
    → subsections_at (suc m) count d rest ≡ subsections_at m (one_more count) e next
unfolding subsections_at
turn d e m count b rest after next front read = rw (front, read) refl

pub loop_goes_on : (d e : Dylink) (count b : ℕ) (rest after next bytes : List ℕ) → rest ≡ b ∷ after → length next ≤ length after → part_at d b after ≡ Ok (e, next)
    → Continues d count rest bytes → Continues e (one_more count) next bytes
loop_goes_on d e count b rest after next bytes front short read so_far k h =
    let j = so_far k h in
    let l = ap length front in
    let n : j.0 ≡ suc (j.0 - 1) = omega arith in
    let one = ap (λ m. subsections_at m count d rest) n ∙ turn d e (j.0 - 1) count b rest after next front read in
    (j.0 - 1, omega arith, sym one ∙ j.2)

loop_stops : (d : Dylink) (error : steps.Break) (count b : ℕ) (rest after bytes : List ℕ) → rest ≡ b ∷ after → part_at d b after ≡ Err error
    → Continues d count rest bytes → (k : ℕ) → length bytes ≤ k → subsections_at k 0 nothing_said bytes ≡ Err count
unfolding subsections_at
loop_stops d error count b rest after bytes front read so_far k h =
    let j = so_far k h in
    let l = ap length front in
    let n : j.0 ≡ suc (j.0 - 1) = omega arith in
    let one : subsections_at j.0 count d rest ≡ Err count = rw (n, front, read) refl in
    sym j.2 ∙ one

pub loop_fails : (error : Break) (d : Dylink) (count b : ℕ) (rest after bytes : List ℕ) → rest ≡ b ∷ after → Fails error (part_at d b after)
    → Continues d count rest bytes → (k : ℕ) → length bytes ≤ k → Tells (Err (fault_of count error)) (subsections_at k 0 nothing_said bytes)
loop_fails breaks.Broken d count b rest after bytes front f so_far k h = loop_stops d steps.Broken count b rest after bytes front f so_far k h
loop_fails breaks.TooDeep d count b rest after bytes front f so_far k h = loop_stops d steps.TooDeep count b rest after bytes front f so_far k h
loop_fails breaks.TooManyLocals d count b rest after bytes front f so_far k h = loop_stops d steps.TooManyLocals count b rest after bytes front f so_far k h
loop_fails breaks.Memory d count b rest after bytes front f so_far k h = tt

-- a text with a byte, as its first and the others
