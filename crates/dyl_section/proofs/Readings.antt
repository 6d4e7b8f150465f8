-- Reading subsections finds what there is to say.
use Rattle.std.proofs.Common.{◌≡◌, ℕ, zero, suc, ◌+◌, ◌≤◌, List, [], ◌∷◌, ◌++◌, length, Result, Ok, Err, refl, sym, ap, subst, ◌∙◌, append_assoc, inl, inr, arith}
use Rattle.std.specs.Prelude.{◌≢◌}
use Rattle.spec_reading.specs.spec_binary.Saturated.{saturated}
use Rattle.spec_linking.specs.Records.{DylinkRecord, Subsection, Subsections, done, next}
use Rattle.spec_reading.specs.Steps.{Break}
use Rattle.spec_reading.proofs.Steps.{bind_ok, bind_err}
use Rattle.dyl_section.specs.declared.record.Dylink.{Dylink}
use Rattle.dyl_section.specs.Recorded.{record_of}
use Rattle.dyl_section.specs.Reading.{part_at, one_more, behind, subsections_at}
use Rattle.dyl_section.proofs.SameRecords.{info_of, record_back}
use Rattle.dyl_section.proofs.Parts.{part_read, PartTaken, part_sound, part_shorter, part_is}

behind_ok : {A : Type 0} (count : ℕ) (r : Result A Break) (x : A) → behind count r ≡ Ok x → r ≡ Ok x
behind_ok count (Ok y) x e = cc
behind_ok count (Err d) x e = absurd cc

behind_err : {A : Type 0} (count : ℕ) (r : Result A Break) (c : ℕ) → behind count r ≡ Err c → (d : Break) × (r ≡ Err d) × (count ≡ c)
behind_err count (Ok y) c e = absurd cc
behind_err count (Err d) c e = (d, refl, cc)

pub saturated_more : (count : ℕ) → one_more (saturated count) ≡ saturated (suc count)
saturated_more count = omega arith

-- one subsection before others
pub chain_next : {d e f : DylinkRecord} {n code : ℕ} {text rest : List ℕ} → PartTaken d code text e rest → Subsections e n rest f → Subsections d (suc n) (code ∷ text) f
chain_next {d} {f} {n} {code} t s = subst (λ l. Subsections d (suc n) (code ∷ l) f) (sym t.parts) (next t.spelled t.said s)

-- what is read whole is said
pub read_said : (fuel count : ℕ) (x : Dylink) (text : List ℕ) (y : Dylink) → subsections_at fuel count x text ≡ Ok y → (n : ℕ) × Subsections (record_of x) n text (record_of y)
unfolding subsections_at
read_said fuel count x [] y e = let same : x ≡ y = cc in (0, subst (λ (z : Dylink). Subsections (record_of x) 0 [] (record_of z)) same done)
read_said zero count x (b ∷ bs) y e = absurd cc
read_said (suc fuel) count x (b ∷ bs) y e =
    let a = bind_ok (behind count (part_at x b bs)) _ y e in
    let t = part_sound x b bs a.0.0 a.0.1 (behind_ok count (part_at x b bs) a.0 a.1) in
    let s = read_said fuel (one_more count) a.0.0 a.0.1 y a.2 in
    (suc s.0, chain_next t s.1)

-- a text begins with so many subsections, behind what is said before it
pub record Begins (d : DylinkRecord) (text : List ℕ) (count : ℕ) : Type 0 where
  pub front : List ℕ
  pub rest : List ℕ
  pub parts : text ≡ front ++ rest
  pub said : DylinkRecord
  pub spelled : Subsections d count front said

pub record Breaks (d : DylinkRecord) (text : List ℕ) (count : ℕ) : Type 0 where
  pub begins : Begins d text count
  pub more : begins.rest ≢ []
  pub greatest : (other : ℕ) → Begins d text other → other ≤ count

begins_next : {d e : DylinkRecord} {n code : ℕ} {text rest : List ℕ} → PartTaken d code text e rest → Begins e rest n → Begins d (code ∷ text) (suc n)
begins_next {code} {text} {rest} t b = record {
  front = code ∷ (t.size ++ (t.contents ++ b.front));
  rest = b.rest;
  parts =
      ap (λ l. code ∷ l)
      (t.parts ∙ ap (λ l. t.size ++ (t.contents ++ l)) b.parts ∙ ap (λ l. t.size ++ l) (sym (append_assoc t.contents b.front b.rest)) ∙ sym (append_assoc t.size (t.contents ++ b.front) b.rest));
  said = b.said;
  spelled = next t.spelled t.said b.spelled;
}

breaks_next : {d e : DylinkRecord} {n code : ℕ} {text rest : List ℕ} → PartTaken d code text e rest → Breaks e rest n → ((other : ℕ) → Begins d (code ∷ text) other → other ≤ suc n)
    → Breaks d (code ∷ text) (suc n)
unfolding begins_next
breaks_next t b greatest = record { begins = begins_next t b.begins; more = b.more; greatest = greatest }

-- the first of several subsections is read
record FirstRead (x : Dylink) (code : ℕ) (text : List ℕ) (n : ℕ) : Type 0 where
  after : Dylink
  rest : List ℕ
  read : part_at x code text ≡ Ok (after, rest)
  begins : Begins (record_of after) rest n

first_read : (x : Dylink) {d : DylinkRecord} (code : ℕ) {n : ℕ} (text : List ℕ) {front : List ℕ} (rest : List ℕ) → Subsections (record_of x) (suc n) front d → code ∷ text ≡ front ++ rest → FirstRead x code text n
first_read x code {n} text rest (next {e} {f} {code = b} {size} {contents} {rest = r} p q t) h =
    let same : text ≡ size ++ (contents ++ (r ++ rest)) = (let tail : text ≡ (size ++ (contents ++ r)) ++ rest = cc in tail ∙ append_assoc size (contents ++ r) rest ∙ ap (λ l. size ++ l) (append_assoc contents r rest)) in
    let head : b ≡ code = cc in
    record {
      after = info_of e;
      rest = r ++ rest;
      read = ap (part_at x code) same ∙ part_read x p (subst (λ c. Subsection (record_of x) c contents e) head q) (r ++ rest);
      begins = record { front = r; rest = rest; parts = refl; said = f; spelled = subst (λ (y : DylinkRecord). Subsections y n r f) (sym (record_back e)) t };
    }

none_begins : (x : Dylink) (b : ℕ) (bs : List ℕ) (d : Break) → part_at x b bs ≡ Err d → (other : ℕ) → Begins (record_of x) (b ∷ bs) other → other ≤ 0
none_begins x b bs d e zero k = omega arith
none_begins x b bs d e (suc n) k = let f = first_read x b bs k.rest k.spelled k.parts in let r = f.read in absurd cc

next_begins : (x y : Dylink) (b : ℕ) (bs rest : List ℕ) (n : ℕ) → part_at x b bs ≡ Ok (y, rest) → ((other : ℕ) → Begins (record_of y) rest other → other ≤ n)
    → (other : ℕ) → Begins (record_of x) (b ∷ bs) other → other ≤ suc n
next_begins x y b bs rest n e h zero k = omega arith
next_begins x y b bs rest n e h (suc o) k =
    let f = first_read x b bs k.rest k.spelled k.parts in
    let same = part_is f.after y f.rest rest (sym f.read ∙ e) in
    let less : o ≤ n = h o (subst (λ l. Begins (record_of y) l o) same.1 (subst (λ (z : Dylink). Begins (record_of z) f.rest o) same.0 f.begins)) in
    omega arith

-- what reading finds broken breaks there
pub read_breaks : (fuel before : ℕ) (x : Dylink) (text : List ℕ) (c : ℕ) → length text ≤ fuel → subsections_at fuel (saturated before) x text ≡ Err c
    → (n : ℕ) × (c ≡ saturated (before + n)) × Breaks (record_of x) text n
unfolding subsections_at
read_breaks fuel before x [] c h e = absurd cc
read_breaks zero before x (b ∷ bs) c h e = absurd (omega arith)
read_breaks (suc fuel) before x (b ∷ bs) c h e = elim (bind_err (behind (saturated before) (part_at x b bs)) _ c e) [
  | inl f ↦
      let a = behind_err (saturated before) (part_at x b bs) c f in
      let same : before + 0 ≡ before = omega arith in (
        0,
        sym a.2 ∙ ap saturated (sym same),
        record { begins = record { front = []; rest = b ∷ bs; parts = refl; said = record_of x; spelled = done }; more = λ nil. cc; greatest = none_begins x b bs a.0 a.1 },
      )
  | inr f ↦
      let r = behind_ok (saturated before) (part_at x b bs) f.0 f.1 in
      let t = part_sound x b bs f.0.0 f.0.1 r in
      let short = part_shorter t in
      let s = read_breaks fuel (suc before) f.0.0 f.0.1 c (omega arith) (subst (λ k. subsections_at fuel k f.0.0 f.0.1 ≡ Err c) (saturated_more before) f.2) in
      let same : suc before + s.0 ≡ before + suc s.0 = omega arith in (
        suc s.0,
        s.1 ∙ ap saturated same,
        breaks_next t s.2 (next_begins x f.0.0 b bs f.0.1 s.0 r s.2.greatest),
      )
]
