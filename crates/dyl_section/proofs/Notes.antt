-- Notes and memory information are read as they are spelled.
use Rattle.std.proofs.Common.{◌≡◌, ℕ, ◌≤◌, List, ◌++◌, refl, sym, ap, subst, ◌∙◌, append_assoc, ltb}
use Rattle.std.proofs.lemmas.Bool.{ltb-false, le-ltb}
use Rattle.spec_reading.specs.spec_binary.Number.{SpellsUnsigned}
use Rattle.spec_reading.specs.spec_binary.Name.{SpellsName}
use Rattle.spec_linking.specs.Records.{most_align}
use Rattle.spec_linking.specs.Records as records
use Rattle.spec_reading.specs.Values.{number_at, name_at}
use Rattle.spec_reading.proofs.Steps.{bind_ok, chosen_second, IsComplete, IsSound, given, two_sound, two_complete}
use Rattle.spec_reading.proofs.Values.{number_complete, number_sound, name_complete, name_sound}
use Rattle.dyl_section.specs.declared.record.ExportInfo.{ExportInfo}
use Rattle.dyl_section.specs.declared.record.ImportInfo.{ImportInfo}
use Rattle.dyl_section.specs.declared.said.Regions.{Regions}
use Rattle.dyl_section.specs.Reading.{export_info_at, import_info_at, align_at, regions_at}
use Rattle.dyl_section.specs.Written.{SpellsExportInfo, SpellsImportInfo}

abbrev export_with : List ℕ → ℕ → ExportInfo
export_with name flags = record { name = name; flags = flags }

pub export_complete : IsComplete SpellsExportInfo export_info_at
unfolding export_info_at
export_complete x u (records.note {w} {v} p q) rest =
    two_complete SpellsName (SpellsUnsigned 32) name_at (number_at 32) name_complete (number_complete 32) export_with x.name x.flags w v p q rest

pub export_sound : IsSound SpellsExportInfo export_info_at
unfolding export_info_at
export_sound text x rest e =
    let t = two_sound SpellsName (SpellsUnsigned 32) name_at (number_at 32) name_sound (number_sound 32) export_with text x rest e in
    record { word = t.word ++ t.end; spelled = subst (λ y. SpellsExportInfo y (t.word ++ t.end)) t.is (records.note t.spelled t.after); parts = t.parts }

abbrev import_with : List ℕ → List ℕ → ℕ → ImportInfo
import_with from field flags = record { «module» = from; field = field; flags = flags }

pub import_complete : IsComplete SpellsImportInfo import_info_at
unfolding import_info_at
import_complete x u (records.note {w} {v} {u = t} p q r) rest =
    rw (append_assoc w (v ++ t) rest, name_complete x.«module» w p ((v ++ t) ++ rest), append_assoc v t rest, name_complete x.field v q (t ++ rest), number_complete 32 x.flags t r rest) refl

joined_three : (text w v u one two rest : List ℕ) → text ≡ w ++ one → one ≡ v ++ two → two ≡ u ++ rest → text ≡ (w ++ (v ++ u)) ++ rest
joined_three text w v u one two rest e f g = e ∙ ap (λ l. w ++ l) (f ∙ ap (λ l. v ++ l) g ∙ sym (append_assoc v u rest)) ∙ sym (append_assoc w (v ++ u) rest)

pub import_sound : IsSound SpellsImportInfo import_info_at
unfolding import_info_at
import_sound text x rest e =
    let a = bind_ok (name_at text) _ (x, rest) e in
    let b = bind_ok (name_at a.0.1) _ (x, rest) a.2 in
    let c = bind_ok (number_at 32 b.0.1) _ (x, rest) b.2 in
    let t = name_sound text a.0.0 a.0.1 a.1 in
    let u = name_sound a.0.1 b.0.0 b.0.1 b.1 in
    let v = number_sound 32 b.0.1 c.0.0 c.0.1 c.1 in
    given SpellsImportInfo text (import_with a.0.0 b.0.0 c.0.0) x c.0.1 rest c.2
    (record { word = t.word ++ (u.word ++ v.word); spelled = records.note t.spelled u.spelled v.spelled; parts = joined_three text t.word u.word v.word a.0.1 b.0.1 c.0.1 t.parts u.parts v.parts })

-- the exponent of an alignment
pub record SpellsAlign (n : ℕ) (w : List ℕ) : Type 0 where
  pub spelled : SpellsUnsigned 32 n w
  pub within : n ≤ most_align

align_complete : IsComplete SpellsAlign align_at
unfolding align_at
align_complete n w s rest = rw (number_complete 32 n w s.spelled rest, le-ltb most_align n s.within) refl

align_sound : IsSound SpellsAlign align_at
unfolding align_at
align_sound text n rest e =
    let a = bind_ok (number_at 32 text) _ (n, rest) e in
    let l = chosen_second (ltb most_align a.0.0) _ _ _ a.2 in
    let t = number_sound 32 text a.0.0 a.0.1 a.1 in
    given SpellsAlign text a.0.0 n a.0.1 rest l.1 (record { word = t.word; spelled = record { spelled = t.spelled; within = ltb-false _ _ l.0 }; parts = t.parts })

-- the four numbers of memory information
pub data SpellsRegions : Regions → List ℕ → Type 0 where
  regions : {r : Regions} {w v u t : List ℕ} → SpellsUnsigned 32 r.mem_size w → SpellsAlign r.mem_align v → SpellsUnsigned 32 r.table_size u → SpellsAlign r.table_align t
      → SpellsRegions r (w ++ (v ++ (u ++ t)))

pub regions_complete : IsComplete SpellsRegions regions_at
unfolding regions_at
regions_complete r x (regions {w} {v} {u} {t} p q s z) rest =
    rw (append_assoc w (v ++ (u ++ t)) rest, number_complete 32 r.mem_size w p ((v ++ (u ++ t)) ++ rest), append_assoc v (u ++ t) rest, align_complete r.mem_align v q ((u ++ t) ++ rest), append_assoc u t rest, number_complete 32 r.table_size u s (t ++ rest), align_complete r.table_align t z rest) refl

abbrev regions_with : ℕ → ℕ → ℕ → ℕ → Regions
regions_with mem_size mem_align table_size table_align = record { mem_size = mem_size; mem_align = mem_align; table_size = table_size; table_align = table_align }

joined_four : (text w v u t one two three rest : List ℕ) → text ≡ w ++ one → one ≡ v ++ two → two ≡ u ++ three → three ≡ t ++ rest → text ≡ (w ++ (v ++ (u ++ t))) ++ rest
joined_four text w v u t one two three rest e f g h = joined_three text w v (u ++ t) one two rest e f (g ∙ ap (λ l. u ++ l) h ∙ sym (append_assoc u t rest))

pub regions_sound : IsSound SpellsRegions regions_at
unfolding regions_at
regions_sound text x rest e =
    let a = bind_ok (number_at 32 text) _ (x, rest) e in
    let b = bind_ok (align_at a.0.1) _ (x, rest) a.2 in
    let c = bind_ok (number_at 32 b.0.1) _ (x, rest) b.2 in
    let d = bind_ok (align_at c.0.1) _ (x, rest) c.2 in
    let t = number_sound 32 text a.0.0 a.0.1 a.1 in
    let u = align_sound a.0.1 b.0.0 b.0.1 b.1 in
    let v = number_sound 32 b.0.1 c.0.0 c.0.1 c.1 in
    let w = align_sound c.0.1 d.0.0 d.0.1 d.1 in
    given SpellsRegions text (regions_with a.0.0 b.0.0 c.0.0 d.0.0) x d.0.1 rest d.2
    (record {
      word = t.word ++ (u.word ++ (v.word ++ w.word));
      spelled = regions t.spelled u.spelled v.spelled w.spelled;
      parts = joined_four text t.word u.word v.word w.word a.0.1 b.0.1 c.0.1 d.0.1 t.parts u.parts v.parts w.parts;
    })
