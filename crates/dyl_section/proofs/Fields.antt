-- The contents of a subsection are read as they are spelled.
use Rattle.std.proofs.Common.{◌≡◌, ℕ, ◌≤◌, Bool, true, false, eqb, ltb, List, ◌++◌, map, Ok, refl, sym, ap, subst, ◌∙◌, inl, inr, arith}
use Rattle.std.specs.Prelude.{IsTrue, ◌||◌, ◌⊎◌}
use Rattle.std.proofs.lemmas.Bool.{ne_eqb, eqb-true, eqb-false, lt-ltb, ltb-true}
use Rattle.std.proofs.lemmas.List.{map-append}
use Rattle.spec_reading.specs.spec_binary.Name.{SpellsName}
use Rattle.spec_reading.specs.spec_binary.Sequence.{SpellsVec}
use Rattle.spec_linking.specs.Records.{ExportNote, ImportNote, DylinkRecord, SpellsExportNote, SpellsImportNote, is_other_code, Subsection, memory_information, needed, export_notes, import_notes, runtime_paths, other}
use Rattle.spec_linking.specs.Records as records
use Rattle.spec_reading.specs.Steps.{Break, Read, whole}
use Rattle.spec_reading.specs.Values.{name_at, vec_at}
use Rattle.spec_reading.proofs.Steps.{bind_ok, chosen, ok_is, IsComplete, IsSound, whole_complete, whole_sound}
use Rattle.spec_reading.proofs.Values.{name_complete, name_sound}
use Rattle.spec_reading.proofs.Vectors.{vec_complete, vec_sound}
use Rattle.dyl_section.specs.declared.record.ExportInfo.{ExportInfo}
use Rattle.dyl_section.specs.declared.record.ImportInfo.{ImportInfo}
use Rattle.dyl_section.specs.declared.record.Dylink.{Dylink}
use Rattle.dyl_section.specs.declared.said.Regions.{Regions}
use Rattle.dyl_section.specs.Recorded.{export_note, import_note, record_of}
use Rattle.dyl_section.specs.Written.{SpellsExportInfo, SpellsImportInfo}
use Rattle.dyl_section.specs.Reading.{export_info_at, import_info_at, regions_at, with_regions, with_needed, with_exports, with_imports, with_paths, field_at, subsection_at}
use Rattle.dyl_section.proofs.SameRecords.{export_info, import_info, info_of, vec_mapped, vec_unmapped}
use Rattle.dyl_section.proofs.Notes.{export_complete, export_sound, import_complete, import_sound, SpellsRegions, regions, regions_complete, regions_sound}

-- what a field reads
module _ {A : Type 0} (Spells : A → List ℕ → Type 0) (read : List ℕ → Read A) (put : Dylink → A → Dylink) where
  field_complete : IsComplete Spells read → (d : Dylink) (x : A) (w : List ℕ) → Spells x w → field_at read put d w ≡ Ok (put d x)
  unfolding field_at
  field_complete complete d x w p = rw (whole_complete Spells read complete x w p) refl

  record Fills (d : Dylink) (w : List ℕ) (y : Dylink) : Type 0 where
    given : A
    spelled : Spells given w
    is : put d given ≡ y

  field_sound : IsSound Spells read → (d : Dylink) (w : List ℕ) (y : Dylink) → field_at read put d w ≡ Ok y → Fills d w y
  unfolding field_at
  field_sound sound d w y e =
      let a = bind_ok (whole (read w)) _ y e in
      record { given = a.0; spelled = whole_sound Spells read sound w a.0 a.1; is = ok_is Break _ _ a.2 }

names_complete : IsComplete (SpellsVec SpellsName) (vec_at name_at)
names_complete = vec_complete SpellsName name_at name_complete

names_sound : IsSound (SpellsVec SpellsName) (vec_at name_at)
names_sound = vec_sound SpellsName name_at name_sound

exports_complete : IsComplete (SpellsVec SpellsExportInfo) (vec_at export_info_at)
exports_complete = vec_complete SpellsExportInfo export_info_at export_complete

exports_sound : IsSound (SpellsVec SpellsExportInfo) (vec_at export_info_at)
exports_sound = vec_sound SpellsExportInfo export_info_at export_sound

imports_complete : IsComplete (SpellsVec SpellsImportInfo) (vec_at import_info_at)
imports_complete = vec_complete SpellsImportInfo import_info_at import_complete

imports_sound : IsSound (SpellsVec SpellsImportInfo) (vec_at import_info_at)
imports_sound = vec_sound SpellsImportInfo import_info_at import_sound

-- codes that say nothing
or_cases : (a b : Bool) → IsTrue (a || b) → (a ≡ true) ⊎ (b ≡ true)
or_cases true b h = inl refl
or_cases false true h = inr refl
or_cases false false h = absurd cc

other_code : (code k : ℕ) → IsTrue (is_other_code code) → 1 ≤ k → k ≤ 5 → eqb code k ≡ false
other_code code k h low high = ne_eqb code k (λ e. elim (or_cases (eqb code 0) (ltb 5 code) h) [
  | inl z ↦ let zero_is = eqb-true code 0 z in absurd (omega arith)
  | inr z ↦ let large = ltb-true 5 code z in absurd (omega arith)
])

or_right : (a b : Bool) → b ≡ true → IsTrue (a || b)
or_right true true e = refl
or_right false true e = refl
or_right a false e = absurd cc

or_left : (a b : Bool) → a ≡ true → IsTrue (a || b)
or_left true b e = refl
or_left false b e = absurd cc

is_other : (code : ℕ) → eqb code 1 ≡ false → eqb code 2 ≡ false → eqb code 3 ≡ false → eqb code 4 ≡ false → eqb code 5 ≡ false → IsTrue (is_other_code code)
is_other code e1 e2 e3 e4 e5 =
    let n1 = eqb-false code 1 e1 in
    let n2 = eqb-false code 2 e2 in
    let n3 = eqb-false code 3 e3 in
    let n4 = eqb-false code 4 e4 in
    let n5 = eqb-false code 5 e5 in
    elim (eqb code 0) as (λ t. eqb code 0 ≡ t → IsTrue (is_other_code code)) [
      | true ↦ λ e. or_left (eqb code 0) (ltb 5 code) e
      | false ↦ λ e. let n0 = eqb-false code 0 e in or_right (eqb code 0) (ltb 5 code) (lt-ltb 5 code (omega arith))
    ] refl

-- what is spelled so is read
pub subsection_again : {d e : DylinkRecord} {code : ℕ} {w : List ℕ} → Subsection d code w e → subsection_at (info_of d) code w ≡ Ok (info_of e)
unfolding subsection_at
subsection_again (memory_information {d} {mem_size} {mem_align} {table_size} {table_align} {w} {v} {u} {t} h k p q r s) =
    field_complete SpellsRegions regions_at with_regions regions_complete (info_of d) (record { mem_size = mem_size; mem_align = mem_align; table_size = table_size; table_align = table_align }) (w ++ (v ++ (u ++ t)))
    (regions p (record { spelled = q; within = h }) r (record { spelled = s; within = k }))
subsection_again (needed {d} {names} {w} p) = field_complete (SpellsVec SpellsName) (vec_at name_at) with_needed names_complete (info_of d) names w p
subsection_again (export_notes {d} {notes} {w} p) =
    field_complete (SpellsVec SpellsExportInfo) (vec_at export_info_at) with_exports exports_complete (info_of d) (map export_info notes) w (vec_unmapped SpellsExportNote export_note export_info (λ y. refl) p)
    ∙ ap (λ (xs : List ExportInfo). Ok (record (info_of d) { exports = xs })) (sym (map-append export_info d.exports notes))
subsection_again (import_notes {d} {notes} {w} p) =
    field_complete (SpellsVec SpellsImportInfo) (vec_at import_info_at) with_imports imports_complete (info_of d) (map import_info notes) w (vec_unmapped SpellsImportNote import_note import_info (λ y. refl) p)
    ∙ ap (λ (xs : List ImportInfo). Ok (record (info_of d) { imports = xs })) (sym (map-append import_info d.imports notes))
subsection_again (runtime_paths {d} {paths} {w} p) = field_complete (SpellsVec SpellsName) (vec_at name_at) with_paths names_complete (info_of d) paths w p
subsection_again (other {d} {code} w h) =
    let e1 = other_code code 1 h (omega arith) (omega arith) in
    let e2 = other_code code 2 h (omega arith) (omega arith) in
    let e3 = other_code code 3 h (omega arith) (omega arith) in
    let e4 = other_code code 4 h (omega arith) (omega arith) in
    let e5 = other_code code 5 h (omega arith) (omega arith) in
    rw (e1, e2, e3, e4, e5) refl

-- what is read is spelled so
module _ (x : Dylink) (code : ℕ) (w : List ℕ) (y : Dylink) where
  with_code : (k : ℕ) → eqb code k ≡ true → Subsection (record_of x) k w (record_of y) → Subsection (record_of x) code w (record_of y)
  with_code k e s = subst (λ c. Subsection (record_of x) c w (record_of y)) (sym (eqb-true code k e)) s

  said_as : (k : ℕ) (z : Dylink) → z ≡ y → Subsection (record_of x) k w (record_of z) → Subsection (record_of x) k w (record_of y)
  said_as k z e s = subst (λ (z : Dylink). Subsection (record_of x) k w (record_of z)) e s

regions_are : {r : Regions} {v : List ℕ} (x : Dylink) → SpellsRegions r v → Subsection (record_of x) 1 v (record_of (with_regions x r))
regions_are x (regions p q r s) = memory_information q.within s.within p q.spelled r s.spelled

regions_said : (x y : Dylink) (w : List ℕ) → field_at regions_at with_regions x w ≡ Ok y → Subsection (record_of x) 1 w (record_of y)
regions_said x y w e =
    let f = field_sound SpellsRegions regions_at with_regions regions_sound x w y e in
    said_as x 1 w y 1 (with_regions x f.given) f.is (regions_are x f.spelled)

needed_said : (x y : Dylink) (w : List ℕ) → field_at (vec_at name_at) with_needed x w ≡ Ok y → Subsection (record_of x) 2 w (record_of y)
needed_said x y w e =
    let f = field_sound (SpellsVec SpellsName) (vec_at name_at) with_needed names_sound x w y e in
    said_as x 2 w y 2 (with_needed x f.given) f.is (needed f.spelled)

exports_said : (x y : Dylink) (w : List ℕ) → field_at (vec_at export_info_at) with_exports x w ≡ Ok y → Subsection (record_of x) 3 w (record_of y)
exports_said x y w e =
    let f = field_sound (SpellsVec SpellsExportInfo) (vec_at export_info_at) with_exports exports_sound x w y e in
    let s : Subsection (record_of x) 3 w (records.with_exports (record_of x) (map export_note f.given)) = export_notes (vec_mapped SpellsExportNote export_note f.spelled) in
    said_as x 3 w y 3 (with_exports x f.given) f.is
    (subst (λ (xs : List ExportNote). Subsection (record_of x) 3 w (record (record_of x) { exports = xs })) (sym (map-append export_note x.exports f.given)) s)

imports_said : (x y : Dylink) (w : List ℕ) → field_at (vec_at import_info_at) with_imports x w ≡ Ok y → Subsection (record_of x) 4 w (record_of y)
imports_said x y w e =
    let f = field_sound (SpellsVec SpellsImportInfo) (vec_at import_info_at) with_imports imports_sound x w y e in
    let s : Subsection (record_of x) 4 w (records.with_imports (record_of x) (map import_note f.given)) = import_notes (vec_mapped SpellsImportNote import_note f.spelled) in
    said_as x 4 w y 4 (with_imports x f.given) f.is
    (subst (λ (xs : List ImportNote). Subsection (record_of x) 4 w (record (record_of x) { imports = xs })) (sym (map-append import_note x.imports f.given)) s)

paths_said : (x y : Dylink) (w : List ℕ) → field_at (vec_at name_at) with_paths x w ≡ Ok y → Subsection (record_of x) 5 w (record_of y)
paths_said x y w e =
    let f = field_sound (SpellsVec SpellsName) (vec_at name_at) with_paths names_sound x w y e in
    said_as x 5 w y 5 (with_paths x f.given) f.is (runtime_paths f.spelled)

pub subsection_sound : (x : Dylink) (code : ℕ) (w : List ℕ) (y : Dylink) → subsection_at x code w ≡ Ok y → Subsection (record_of x) code w (record_of y)
unfolding subsection_at
subsection_sound x code w y e = elim (chosen (eqb code 1) _ _ _ e) [
  | inl a ↦ with_code x code w y 1 a.0 (regions_said x y w a.1)
  | inr a ↦ elim (chosen (eqb code 2) _ _ _ a.1) [
    | inl b ↦ with_code x code w y 2 b.0 (needed_said x y w b.1)
    | inr b ↦ elim (chosen (eqb code 3) _ _ _ b.1) [
      | inl c ↦ with_code x code w y 3 c.0 (exports_said x y w c.1)
      | inr c ↦ elim (chosen (eqb code 4) _ _ _ c.1) [
        | inl d ↦ with_code x code w y 4 d.0 (imports_said x y w d.1)
        | inr d ↦ elim (chosen (eqb code 5) _ _ _ d.1) [
          | inl f ↦ with_code x code w y 5 f.0 (paths_said x y w f.1)
          | inr f ↦ said_as x code w y code x (ok_is Break x y f.1) (other w (is_other code a.0 b.0 c.0 d.0 f.0))
        ]
      ]
    ]
  ]
]
