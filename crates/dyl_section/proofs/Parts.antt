-- Subsections with their sizes are read as they are spelled.
use Rattle.std.proofs.Common.{◌≡◌, ℕ, ◌≤◌, List, ◌∷◌, ◌++◌, length, Ok, refl, sym, ap, subst, ◌∙◌, arith, length-append}
use Rattle.spec_reading.specs.spec_binary.Number.{SpellsUnsigned}
use Rattle.spec_linking.specs.Records.{DylinkRecord, Subsection}
use Rattle.spec_reading.specs.Steps.{Break, Read}
use Rattle.spec_reading.specs.Values.{cut_at}
use Rattle.spec_reading.proofs.Steps.{bind_ok, ok_is}
use Rattle.spec_reading.proofs.Values.{cut_again, cut_sound}
use Rattle.dyl_section.specs.declared.record.Dylink.{Dylink}
use Rattle.dyl_section.specs.Recorded.{record_of}
use Rattle.dyl_section.specs.Reading.{subsection_at, part_at}
use Rattle.dyl_section.proofs.SameRecords.{info_of, record_back, info_back}
use Rattle.dyl_section.proofs.Fields.{subsection_again, subsection_sound}

pub part_again : {d e : DylinkRecord} {code : ℕ} {size contents : List ℕ} → SpellsUnsigned 32 (length contents) size → Subsection d code contents e
    → (rest : List ℕ) → part_at (info_of d) code (size ++ (contents ++ rest)) ≡ Ok (info_of e, rest)
unfolding part_at
part_again {size} {contents} n p rest = rw (cut_again size contents rest n, subsection_again p) refl

-- the same, where the record before is the code's
pub part_read : (x : Dylink) {e : DylinkRecord} {code : ℕ} {size contents : List ℕ} → SpellsUnsigned 32 (length contents) size → Subsection (record_of x) code contents e
    → (rest : List ℕ) → part_at x code (size ++ (contents ++ rest)) ≡ Ok (info_of e, rest)
part_read x {e} {code} {size} {contents} n p rest =
    subst (λ (y : Dylink). part_at y code (size ++ (contents ++ rest)) ≡ Ok (info_of e, rest)) (info_back x) (part_again n p rest)

-- the text is a size, contents that say this, and the rest
pub record PartTaken (d : DylinkRecord) (code : ℕ) (text : List ℕ) (e : DylinkRecord) (rest : List ℕ) : Type 0 where
  pub contents : List ℕ
  pub size : List ℕ
  pub spelled : SpellsUnsigned 32 (length contents) size
  pub said : Subsection d code contents e
  pub parts : text ≡ size ++ (contents ++ rest)

pub part_sound : (x : Dylink) (code : ℕ) (text : List ℕ) (y : Dylink) (rest : List ℕ) → part_at x code text ≡ Ok (y, rest) → PartTaken (record_of x) code text (record_of y) rest
unfolding part_at
part_sound x code text y rest e =
    let c = bind_ok (cut_at text) _ (y, rest) e in
    let s = bind_ok (subsection_at x code c.0.0) _ (y, rest) c.2 in
    let cuts = cut_sound text c.0.0 c.0.1 c.1 in
    subst (λ (p : Dylink × List ℕ). PartTaken (record_of x) code text (record_of p.0) p.1) (ok_is Break (s.0, c.0.1) (y, rest) s.2)
    (record { contents = c.0.0; size = cuts.size; spelled = cuts.count; said = subsection_sound x code c.0.0 s.0 s.1; parts = cuts.parts })

pub part_shorter : {d e : DylinkRecord} {code : ℕ} {text rest : List ℕ} → PartTaken d code text e rest → length rest ≤ length text
part_shorter {rest} t = let l = ap length t.parts in omega (arith, length-append t.size (t.contents ++ rest), length-append t.contents rest)

abbrev read_part : Dylink → List ℕ → Read Dylink
read_part y rest = Ok (y, rest)

pub part_is : (y z : Dylink) (r q : List ℕ) → read_part y r ≡ read_part z q → (y ≡ z) × (r ≡ q)
part_is y z r q e = let both = ok_is Break (y, r) (z, q) e in (ap (λ (p : Dylink × List ℕ). p.0) both, ap (λ (p : Dylink × List ℕ). p.1) both)

info_is : (d e : DylinkRecord) → info_of d ≡ info_of e → d ≡ e
info_is d e h = sym (record_back d) ∙ ap record_of h ∙ record_back e

cons_is : (a b : ℕ) (xs ys : List ℕ) → a ∷ xs ≡ b ∷ ys → (a ≡ b) × (xs ≡ ys)
cons_is a b xs ys e = (cc, cc)

-- one text begins with one subsection
pub same_part : {d e f : DylinkRecord} {a b : ℕ} {s k t l : List ℕ} → SpellsUnsigned 32 (length k) s → Subsection d a k e → SpellsUnsigned 32 (length l) t → Subsection d b l f
    → (r q : List ℕ) → a ∷ (s ++ (k ++ r)) ≡ b ∷ (t ++ (l ++ q)) → (e ≡ f) × (r ≡ q)
same_part {d} {e} {f} {a} {b} {s} {k} {t} {l} m p n o r q h =
    let heads = cons_is a b (s ++ (k ++ r)) (t ++ (l ++ q)) h in
    let same = part_is (info_of e) (info_of f) r q (sym (part_again m p r) ∙ ap (λ (c : ℕ). part_at (info_of d) c (s ++ (k ++ r))) heads.0 ∙ ap (part_at (info_of d) b) heads.1 ∙ part_again n o q) in
    (info_is e f same.0, same.1)
