-- A record that can be written.
use Rattle.std.proofs.Common.{rules, ◌≡◌, ℕ, ◌<◌, List, [], ◌∷◌, ◌++◌, length, append-nil, arith}
use Rattle.std.specs.Prelude.{codes, map}
use Rattle.std.specs.Str.{IsAscii}
use Rattle.std.proofs.lemmas.Str.{IsUtf8-from_ascii}
use Rattle.spec_linking.specs.spec_binary.Number.{last, more}
use Rattle.spec_linking.specs.spec_binary.Name.{SpellsName, name}
use Rattle.spec_linking.specs.spec_binary.Sequence.{none, next, SpellsVec, vec}
use Rattle.spec_linking.specs.Records.{SpellsExportNote, SpellsImportNote}
use Rattle.spec_linking.specs.Records as records
use Rattle.dyl_section.specs.declared.record.ExportInfo.{ExportInfo}
use Rattle.dyl_section.specs.declared.record.ImportInfo.{ImportInfo}
use Rattle.dyl_section.specs.Recorded.{export_note, import_note}
use Rattle.dyl_section.specs.Written.{IsShortlySpelled, IsWritable}

abbrev one_export : List ℕ → List ExportInfo
one_export text = record { name = text; flags = 257 } ∷ []

abbrev one_import : List ℕ → List ℕ → List ImportInfo
one_import from text = record { «module» = from; field = text; flags = 16 } ∷ []

short_name : (text : List ℕ) → IsAscii text → length text < 128 → SpellsName text (length text ∷ text)
short_name text a h = name (last h (omega arith)) (IsUtf8-from_ascii text a)

-- a list of one, spelled by a word of fewer than 128 bytes
one_short : {A : Type 0} {Spells : A → List ℕ → Type 0} (x : A) (w : List ℕ) → Spells x w → length w < 128 → IsShortlySpelled (SpellsVec Spells (x ∷ []))
one_short x w s h = record { word = 1 ∷ (w ++ []); spelled = vec (last (omega arith) (omega arith)) (next s none); short = simp append-nil (omega arith) }

needed_short : IsShortlySpelled (SpellsVec SpellsName (codes "libc.so" ∷ []))
needed_short = one_short (codes "libc.so") (7 ∷ codes "libc.so") (short_name (codes "libc.so") (search rules) (omega arith)) (omega arith)

exports_short : IsShortlySpelled (SpellsVec SpellsExportNote (map export_note (one_export (codes "x"))))
exports_short =
    one_short (record { name = codes "x"; flags = 257 }) (1 ∷ 120 ∷ 129 ∷ 2 ∷ [])
    (records.note (short_name (codes "x") (search rules) (omega arith)) (more (omega arith) (omega arith) (omega arith) (omega arith) (last {n = 25} {b = 2} (omega arith) (omega arith)))) (omega arith)

imports_short : IsShortlySpelled (SpellsVec SpellsImportNote (map import_note (one_import (codes "env") (codes "f"))))
imports_short =
    one_short (record { from_module = codes "env"; field = codes "f"; flags = 16 }) (3 ∷ codes "env" ++ (1 ∷ 102 ∷ 16 ∷ []))
    (records.note (short_name (codes "env") (search rules) (omega arith)) (short_name (codes "f") (search rules) (omega arith)) (last (omega arith) (omega arith))) (omega arith)

paths_short : IsShortlySpelled (SpellsVec SpellsName [])
paths_short = record { word = 0 ∷ []; spelled = vec (last (omega arith) (omega arith)) none; short = omega arith }

pub sample_writable : (needed : List (List ℕ)) (exports : List ExportInfo) (imports : List ImportInfo) (paths : List (List ℕ))
    → needed ≡ codes "libc.so" ∷ [] → exports ≡ one_export (codes "x") → imports ≡ one_import (codes "env") (codes "f") → paths ≡ []
    → IsWritable (record { mem_size = 65536; mem_align = 4; table_size = 300; table_align = 0; needed = needed; exports = exports; imports = imports; paths = paths })
sample_writable needed exports imports paths en ee ei ep =
    record {
      mem_align = omega arith;
      table_align = omega arith;
      needed = rw en needed_short;
      exports = rw ee exports_short;
      imports = rw ei imports_short;
      paths = rw ep paths_short;
    }
