-- What the writers of subsections do, and the whole that they write.
use Rattle.std.proofs.Common.{◌≡◌, ℕ, suc, ◌^◌, ◌<◌, ◌≤◌, List, [], ◌∷◌, ◌++◌, length, length-append, map, refl, sym, ap, ◌∙◌, subst, append_assoc, append-nil, arith}
use Rattle.std.specs.Prelude.{◌≢◌}
use Rattle.spec_reading.specs.spec_binary.Number.{SpellsUnsigned, IsShortest, Appends}
use Rattle.spec_reading.specs.spec_binary.Name.{SpellsName}
use Rattle.spec_reading.specs.spec_binary.Sequence.{SpellsVec}
use Rattle.spec_reading.proofs.of_spec_binary.UnsignedSpelling.{unsigned_few}
use Rattle.spec_reading.proofs.of_spec_binary.Lists.{empty_list}
use Rattle.spec_linking.specs.Records.{most_align, DylinkRecord, empty_record, SpellsExportNote, SpellsImportNote, Subsection, memory_information, needed, export_notes, import_notes, runtime_paths, Subsections, done, next}
use Rattle.spec_linking.specs.Records as records
use Rattle.dyl_section.specs.declared.record.ExportInfo.{ExportInfo}
use Rattle.dyl_section.specs.declared.record.ImportInfo.{ImportInfo}
use Rattle.dyl_section.specs.declared.record.Dylink.{Dylink}
use Rattle.dyl_section.specs.Recorded.{export_note, import_note, record_of}
use Rattle.dyl_section.specs.Written.{IsSpelled, IsShortlySpelled, SpellsExportInfo, SpellsImportInfo, IsFramed, SpellsRegions, regions, IsRegionsWord, IsListWord, nothing, list, IsWritten}
use Rattle.dyl_section.proofs.SameRecords.{export_info, import_info, exports_forth, imports_forth, vec_mapped, vec_unmapped}

-- the contents of a list are short
pub list_short : {Spells : List ℕ → Type 0} (contents : List ℕ) → IsShortlySpelled Spells → Appends (IsShortest Spells) [] contents → length contents < 2 ^ 32
list_short contents s (w, p, e) =
    let least : length w ≤ length s.word = p.least s.word s.spelled in
    let short = s.short in
    let long = ap length e in
    omega arith

no_longer : {Spells : List ℕ → Type 0} (contents : List ℕ) → Appends (IsShortest Spells) [] contents → IsShortest Spells contents
no_longer {Spells} contents (w, p, e) = subst (IsShortest Spells) (sym e) p

not_empty : {A : Type 0} (xs : List A) → length xs ≢ 0 → xs ≢ []
not_empty xs h e = h (ap length e)

pub list_added : {A : Type 0} {Spells : A → List ℕ → Type 0} (xs : List A) (code : ℕ) (contents old new : List ℕ) → length xs ≢ 0 → Appends (IsShortest (SpellsVec Spells xs)) [] contents
    → Appends (IsFramed code contents) old new → Appends (IsListWord Spells code xs) old new
list_added xs code contents old new h p (w, framed, e) = (w, list (not_empty xs h) (no_longer contents p) framed, e)

pub nothing_added : {A : Type 0} {Spells : A → List ℕ → Type 0} (code : ℕ) (xs : List A) (old : List ℕ) → length xs ≡ 0 → Appends (IsListWord Spells code xs) old old
nothing_added code xs old e = ([], nothing (empty_list xs e), sym (append-nil old))

-- the contents of memory information
record RegionsWritten (d : Dylink) (contents : List ℕ) : Type 0 where
  spelled : SpellsRegions d contents
  short : length contents ≤ 20

regions_in : (d : Dylink) (a b c e : List ℕ) → Appends (IsShortest (SpellsUnsigned 32 d.mem_size)) [] a → Appends (IsShortest (SpellsUnsigned 32 d.mem_align)) a b
    → Appends (IsShortest (SpellsUnsigned 32 d.table_size)) b c → Appends (IsShortest (SpellsUnsigned 32 d.table_align)) c e → RegionsWritten d e
regions_in d a b c e (w, p, f) (v, q, g) (u, r, h) (t, s, i) =
    let whole : e ≡ w ++ (v ++ (u ++ t)) =
    (i ∙ ap (λ l. l ++ t) h ∙ ap (λ l. (l ++ u) ++ t) g ∙ ap (λ l. ((l ++ v) ++ u) ++ t) f ∙ append_assoc (w ++ v) u t ∙ append_assoc w v (u ++ t)) in
    let l1 = unsigned_few p.spelled in
    let l2 = unsigned_few q.spelled in
    let l3 = unsigned_few r.spelled in
    let l4 = unsigned_few s.spelled in
    let long = ap length whole in
    record {
      spelled = subst (SpellsRegions d) (sym whole) (regions p q r s);
      short = omega (arith, length-append w (v ++ (u ++ t)), length-append v (u ++ t), length-append u t);
    }

module _ (d : Dylink) (a b c e : List ℕ) (p : Appends (IsShortest (SpellsUnsigned 32 d.mem_size)) [] a) (q : Appends (IsShortest (SpellsUnsigned 32 d.mem_align)) a b)
    (r : Appends (IsShortest (SpellsUnsigned 32 d.table_size)) b c) (s : Appends (IsShortest (SpellsUnsigned 32 d.table_align)) c e) where
  pub regions_short : length e < 2 ^ 32
  regions_short = let w = regions_in d a b c e p q r s in omega (arith, w.short)

  pub regions_added : (old new : List ℕ) → Appends (IsFramed 1 e) old new → Appends (IsRegionsWord d) old new
  regions_added old new (w, framed, f) = let r = regions_in d a b c e p q r s in (w, record { contents = e; spelled = r.spelled; framed = framed }, f)

-- the bytes say this so far
abbrev pub Says : DylinkRecord → List ℕ → Type 0
Says said bytes = (count : ℕ) × Subsections empty_record count bytes said

chain_last : {d e f : DylinkRecord} {n code : ℕ} {w contents size : List ℕ} → Subsections d n w e → SpellsUnsigned 32 (length contents) size → Subsection e code contents f
    → Subsections d (suc n) (w ++ (code ∷ size ++ contents)) f
chain_last {d} {f} {code} {contents} {size} done s p = subst (λ l. Subsections d 1 (code ∷ size ++ l) f) (append-nil contents) (next s p done)
chain_last {f} {n = suc n} {code} {contents} {size} (next {d} {count = m} {code = b} {size = z} {contents = k} {rest} t q more) s p =
    subst (λ l. Subsections d (suc (suc m)) l f) (sym (ap (λ l. b ∷ l) (append_assoc z (k ++ rest) (code ∷ size ++ contents) ∙ ap (λ l. z ++ l) (append_assoc k rest (code ∷ size ++ contents)))))
    (next t q (chain_last more s p))

says_more : (e f : DylinkRecord) (code : ℕ) (old word contents : List ℕ) → Says e old → IsFramed code contents word → Subsection e code contents f → Says f (old ++ word)
says_more e f code old word contents (n, chain) framed say =
    (suc n, subst (λ l. Subsections empty_record (suc n) l f) (ap (λ l. old ++ l) (sym framed.parts)) (chain_last chain framed.shortest.spelled say))

says_list : {A : Type 0} (Spells : A → List ℕ → Type 0) (e : DylinkRecord) (put : List A → DylinkRecord) (code : ℕ) (xs : List A) (old word : List ℕ) → put [] ≡ e → Says e old → IsListWord Spells code xs word
    → ((w : List ℕ) → SpellsVec Spells xs w → Subsection e code w (put xs)) → Says (put xs) (old ++ word)
says_list Spells e put code xs old word same (n, chain) (nothing none) say =
    (n, subst (λ l. Subsections empty_record n l (put xs)) (sym (append-nil old)) (subst (λ (f : DylinkRecord). Subsections empty_record n old f) (sym same ∙ ap put (sym none)) chain))
says_list Spells e put code xs old word same says (list {contents} some p framed) say = says_more e (put xs) code old word contents says framed (say contents p.spelled)

regions_say : (d : Dylink) → d.mem_align ≤ most_align → d.table_align ≤ most_align → {w : List ℕ} → SpellsRegions d w
    → Subsection empty_record 1 w (records.with_regions empty_record d.mem_size d.mem_align d.table_size d.table_align)
regions_say d h k (regions p q r s) = memory_information h k p.spelled q.spelled r.spelled s.spelled

joined_five : (a b c d e : List ℕ) → a ++ (b ++ (c ++ (d ++ e))) ≡ ((((a ++ b) ++ c) ++ d) ++ e)
joined_five a b c d e = simp append_assoc

-- what is written says the record
pub written_says : (d : Dylink) (bytes : List ℕ) → d.mem_align ≤ most_align → d.table_align ≤ most_align → IsWritten d bytes → Says (record_of d) bytes
written_says d bytes mem table w =
    let e1 : DylinkRecord = records.with_regions empty_record d.mem_size d.mem_align d.table_size d.table_align in
    let e2 : DylinkRecord = records.with_needed e1 d.needed in
    let e3 : DylinkRecord = records.with_exports e2 (map export_note d.exports) in
    let e4 : DylinkRecord = records.with_imports e3 (map import_note d.imports) in
    let b1 : List ℕ = w.regions_word in
    let b2 : List ℕ = b1 ++ w.needed_word in
    let b3 : List ℕ = b2 ++ w.exports_word in
    let b4 : List ℕ = b3 ++ w.imports_word in
    let s1 : Says e1 b1 = says_more empty_record e1 1 [] b1 w.regions.contents (0, done) w.regions.framed (regions_say d mem table w.regions.spelled) in
    let s2 : Says e2 b2 = says_list SpellsName e1 (λ xs. records.with_needed e1 xs) 2 d.needed b1 w.needed_word refl s1 w.needed (λ w p. needed p) in
    let s3 : Says e3 b3 = says_list SpellsExportInfo e2 (λ xs. records.with_exports e2 (map export_note xs)) 3 d.exports b2 w.exports_word refl s2 w.exports (λ w p. export_notes (vec_mapped SpellsExportNote export_note p)) in
    let s4 : Says e4 b4 = says_list SpellsImportInfo e3 (λ xs. records.with_imports e3 (map import_note xs)) 4 d.imports b3 w.imports_word refl s3 w.imports (λ w p. import_notes (vec_mapped SpellsImportNote import_note p)) in
    let s5 : Says (record_of d) (b4 ++ w.paths_word) = says_list SpellsName e4 (λ xs. records.with_paths e4 xs) 5 d.paths b4 w.paths_word refl s4 w.paths (λ w p. runtime_paths p) in
    subst (Says (record_of d)) (sym (w.parts ∙ joined_five b1 w.needed_word w.exports_word w.imports_word w.paths_word)) s5

pub written_whole : (d : Dylink) (b0 b1 b2 b3 b4 b5 : List ℕ) → b0 ≡ [] → Appends (IsRegionsWord d) b0 b1 → Appends (IsListWord SpellsName 2 d.needed) b1 b2
    → Appends (IsListWord SpellsExportInfo 3 d.exports) b2 b3 → Appends (IsListWord SpellsImportInfo 4 d.imports) b3 b4 → Appends (IsListWord SpellsName 5 d.paths) b4 b5 → IsWritten d b5
written_whole d b0 b1 b2 b3 b4 b5 e (w1, p1, e1) (w2, p2, e2) (w3, p3, e3) (w4, p4, e4) (w5, p5, e5) =
    record {
      regions_word = w1;
      regions = p1;
      needed_word = w2;
      needed = p2;
      exports_word = w3;
      exports = p3;
      imports_word = w4;
      imports = p4;
      paths_word = w5;
      paths = p5;
      parts =
          e5 ∙ ap (λ l. l ++ w5) (e4 ∙ ap (λ l. l ++ w4) (e3 ∙ ap (λ l. l ++ w3) (e2 ∙ ap (λ l. l ++ w2) (e1 ∙ ap (λ l. l ++ w1) e))))
          ∙ sym (joined_five w1 w2 w3 w4 w5);
    }

-- lists that are short as the definition has them
pub exports_short : (xs : List ExportInfo) → IsShortlySpelled (SpellsVec SpellsExportNote (map export_note xs)) → IsShortlySpelled (SpellsVec SpellsExportInfo xs)
exports_short xs s = record {
  word = s.word;
  spelled = subst (λ ys. SpellsVec SpellsExportInfo ys s.word) (exports_forth xs) (vec_unmapped SpellsExportNote export_note export_info (λ y. refl) s.spelled);
  short = s.short;
}

pub imports_short : (xs : List ImportInfo) → IsShortlySpelled (SpellsVec SpellsImportNote (map import_note xs)) → IsShortlySpelled (SpellsVec SpellsImportInfo xs)
imports_short xs s = record {
  word = s.word;
  spelled = subst (λ ys. SpellsVec SpellsImportInfo ys s.word) (imports_forth xs) (vec_unmapped SpellsImportNote import_note import_info (λ y. refl) s.spelled);
  short = s.short;
}

pub list_spelled : {Spells : List ℕ → Type 0} → IsShortlySpelled Spells → IsSpelled Spells
list_spelled s = record { word = s.word; spelled = s.spelled }
