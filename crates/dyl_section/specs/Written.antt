-- Which records are written, and what writing them does.
-- By DynamicLinking.md, "The dylink.0 section", with each number in its shortest form.
use Rattle.std.specs.Prelude.{◌≡◌, ◌≢◌, ℕ, ◌^◌, ◌<◌, ◌≤◌, List, [], ◌∷◌, ◌++◌, length, map}
use Rattle.spec_reading.specs.spec_binary.Number.{SpellsUnsigned, IsShortest}
use Rattle.spec_reading.specs.spec_binary.Name.{SpellsName}
use Rattle.spec_reading.specs.spec_binary.Sequence.{SpellsVec}
use Rattle.spec_linking.specs.Records.{most_align, SpellsExportNote, SpellsImportNote}
use Rattle.dyl_section.specs.declared.record.ExportInfo.{ExportInfo}
use Rattle.dyl_section.specs.declared.record.ImportInfo.{ImportInfo}
use Rattle.dyl_section.specs.declared.record.Dylink.{Dylink}
use Rattle.dyl_section.specs.Recorded.{export_note, import_note}

-- some word is of this kind
pub record IsSpelled (Spells : List ℕ → Type 0) : Type 0 where
  pub word : List ℕ
  pub spelled : Spells word

-- some word of fewer than 2 ^ 28 bytes is of this kind
pub record IsShortlySpelled (Spells : List ℕ → Type 0) : Type 0 where
  pub word : List ℕ
  pub spelled : Spells word
  pub short : length word < 2 ^ 28

-- the alignments are at most 2 ^ 31, and each list has a spelling of fewer than 2 ^ 28 bytes
pub record IsWritable (d : Dylink) : Type 0 where
  pub mem_align : d.mem_align ≤ most_align
  pub table_align : d.table_align ≤ most_align
  pub needed : IsShortlySpelled (SpellsVec SpellsName d.needed)
  pub exports : IsShortlySpelled (SpellsVec SpellsExportNote (map export_note d.exports))
  pub imports : IsShortlySpelled (SpellsVec SpellsImportNote (map import_note d.imports))
  pub paths : IsShortlySpelled (SpellsVec SpellsName d.paths)

abbrev pub SpellsExportInfo : ExportInfo → List ℕ → Type 0
SpellsExportInfo x = SpellsExportNote (export_note x)

abbrev pub SpellsImportInfo : ImportInfo → List ℕ → Type 0
SpellsImportInfo x = SpellsImportNote (import_note x)

-- the word is the code, the shortest size of the contents, and the contents
pub record IsFramed (code : ℕ) (contents word : List ℕ) : Type 0 where
  pub size : List ℕ
  pub shortest : IsShortest (SpellsUnsigned 32 (length contents)) size
  pub parts : word ≡ code ∷ (size ++ contents)

-- the contents of memory information, each number in its shortest form
pub data SpellsRegions (d : Dylink) : List ℕ → Type 0 where
  regions : {w v u t : List ℕ} → IsShortest (SpellsUnsigned 32 d.mem_size) w → IsShortest (SpellsUnsigned 32 d.mem_align) v
      → IsShortest (SpellsUnsigned 32 d.table_size) u → IsShortest (SpellsUnsigned 32 d.table_align) t → SpellsRegions d (w ++ (v ++ (u ++ t)))

-- the word is memory information
pub record IsRegionsWord (d : Dylink) (word : List ℕ) : Type 0 where
  pub contents : List ℕ
  pub spelled : SpellsRegions d contents
  pub framed : IsFramed 1 contents word

-- the word is a subsection with the shortest spelling of this list; or it is empty, where the list is
pub data IsListWord {A : Type 0} (Spells : A → List ℕ → Type 0) (code : ℕ) : List A → List ℕ → Type 0 where
  nothing : {xs : List A} → xs ≡ [] → IsListWord Spells code xs []
  list : {xs : List A} {contents word : List ℕ} → xs ≢ [] → IsShortest (SpellsVec Spells xs) contents → IsFramed code contents word → IsListWord Spells code xs word

-- the bytes are memory information, and then the lists that aren't empty
pub record IsWritten (d : Dylink) (bytes : List ℕ) : Type 0 where
  pub regions_word : List ℕ
  pub regions : IsRegionsWord d regions_word
  pub needed_word : List ℕ
  pub needed : IsListWord SpellsName 2 d.needed needed_word
  pub exports_word : List ℕ
  pub exports : IsListWord SpellsExportInfo 3 d.exports exports_word
  pub imports_word : List ℕ
  pub imports : IsListWord SpellsImportInfo 4 d.imports imports_word
  pub paths_word : List ℕ
  pub paths : IsListWord SpellsName 5 d.paths paths_word
  pub parts : bytes ≡ regions_word ++ (needed_word ++ (exports_word ++ (imports_word ++ paths_word)))
