-- There is something to say of each module's record.
use Rattle.std.proofs.Common.{◌≡◌, ℕ, Bool, true, false, eqb, eqb-true, List, [], ◌∷◌, length, Result, Ok, Err, refl, sym, ap, ◌∙◌}
use Rattle.std.specs.Prelude.{bytes_eq}
use Rattle.std.proofs.lemmas.Bool.{eqb-false}
use Rattle.std.proofs.lemmas.Slice.Eq.{bytes_eq-Decides}
use Rattle.wasm_form.specs.declared.module.Custom.{Custom}
use Rattle.wasm_form.specs.declared.module.Module.{Module}
use Rattle.spec_linking.specs.Records.{DylinkRecord, dylink_name, HasSection, RecordAnswer, recorded, none}
use Rattle.spec_linking.specs.declared.fault.RecordFault.{RecordFault}
use Rattle.spec_linking.specs.declared.fault.RecordFault.TheVariants.{NoDylink, BadDylink}
use Rattle.dyl_section.specs.declared.record.Dylink.{Dylink}
use Rattle.dyl_section.specs.Recorded.{record_of}
use Rattle.dyl_section.specs.Reading.{subsections_at, nothing_said}
use Rattle.dyl_section.specs.Laws.{SomeRecordAnswer}
use Rattle.dyl_section.proofs.Readings.{read_said}
use Rattle.dyl_section.proofs.RecordRead.{broken_answer}

first_is : (a b : Custom) (xs ys : List Custom) → a ∷ xs ≡ b ∷ ys → a ≡ b
first_is a b xs ys e = cc

module _ (m : Module) where
  abbrev Said : Type 0
  Said = (answer : Result DylinkRecord RecordFault) × RecordAnswer m answer

  -- the section is there, and reading finds this
  of_read : (bytes : List ℕ) → HasSection m bytes → (r : Result Dylink ℕ) → subsections_at (length bytes) 0 nothing_said bytes ≡ r → Said
  of_read bytes section (Ok d) e =
      let s = read_said (length bytes) 0 nothing_said bytes d e in
      (Ok (record_of d), recorded (record { bytes = bytes; section = section; count = s.0; said = s.1 }))
  of_read bytes section (Err subsection) e = (Err (BadDylink subsection), broken_answer m bytes subsection section e)

  -- by the first custom section
  module _ (x : Custom) (xs : List Custom) (first : m.customs ≡ x ∷ xs) where
    is_first : {bytes : List ℕ} (s : HasSection m bytes) → s.section ≡ x
    is_first s = first_is s.section x s.others xs (sym s.first ∙ first)

    of_custom : (b : Bool) → eqb x.rank 0 ≡ b → (c : Bool) → bytes_eq x.name dylink_name ≡ c → Said
    of_custom true rank true name =
        of_read x.bytes (record { section = x; others = xs; first = first; rank = eqb-true x.rank 0 rank; name = (bytes_eq-Decides x.name dylink_name).0 name; contents = refl })
        (subsections_at (length x.bytes) 0 nothing_said x.bytes) refl
    of_custom true rank false name = (
      Err NoDylink,
      none (λ bytes s.
          let same = (bytes_eq-Decides x.name dylink_name).1 (sym (ap (λ (y : Custom). y.name) (is_first s)) ∙ s.name) in
          cc),
    )
    of_custom false rank c name = (
      Err NoDylink,
      none (λ bytes s.
          absurd (eqb-false x.rank 0 rank (sym (ap (λ (y : Custom). y.rank) (is_first s)) ∙ s.rank))),
    )

  of_customs : (customs : List Custom) → m.customs ≡ customs → Said
  of_customs [] e = (Err NoDylink, none (λ bytes s. let both : [] ≡ s.section ∷ s.others = sym e ∙ s.first in cc))
  of_customs (x ∷ xs) e = of_custom x xs e (eqb x.rank 0) refl (bytes_eq x.name dylink_name) refl

pub some_answer : SomeRecordAnswer
some_answer m = of_customs m m.customs refl
