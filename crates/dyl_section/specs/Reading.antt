-- Reading the subsections of a record from left to right.
-- Serves the contracts of this crate, which follow Records of `spec_linking`.
use Rattle.std.specs.Prelude.{◌≡◌, ℕ, zero, suc, ◌+◌, ◌-◌, ◌^◌, min, List, [], ◌∷◌, ◌++◌, Result, Ok, Err, nat_lt, nat_eq, if◌then◌else◌}
use Rattle.spec_linking.specs.Records.{most_align}
use Rattle.spec_reading.specs.Steps.{Break, Broken, ◌>>=◌, Read, whole}
use Rattle.spec_reading.specs.Values.{number_at, cut_at, name_at, vec_at}
use Rattle.dyl_section.specs.declared.record.ExportInfo.{ExportInfo}
use Rattle.dyl_section.specs.declared.record.ImportInfo.{ImportInfo}
use Rattle.dyl_section.specs.declared.record.Dylink.{Dylink}
use Rattle.dyl_section.specs.declared.said.Regions.{Regions}
use Rattle.dyl_section.specs.declared.said.Said.{Said}
use Rattle.spec_linking.specs.declared.fault.RecordFault.{RecordFault}
use Rattle.spec_linking.specs.declared.fault.RecordFault.TheVariants as faults

unfoldable pub export_info_at : List ℕ → Read ExportInfo
export_info_at text = do
  name ← name_at text
  flags ← number_at 32 name.1
  Ok (record { name = name.0; flags = flags.0 }, flags.1)

unfoldable pub import_info_at : List ℕ → Read ImportInfo
import_info_at text = do
  from ← name_at text
  field ← name_at from.1
  flags ← number_at 32 field.1
  Ok (record { «module» = from.0; field = field.0; flags = flags.0 }, flags.1)

-- the exponent of an alignment
unfoldable pub align_at : List ℕ → Read ℕ
align_at text = do
  n ← number_at 32 text
  if nat_lt most_align n.0 then Err Broken else Ok n

unfoldable pub regions_at : List ℕ → Read Regions
regions_at text = do
  mem_size ← number_at 32 text
  mem_align ← align_at mem_size.1
  table_size ← number_at 32 mem_align.1
  table_align ← align_at table_size.1
  Ok (record { mem_size = mem_size.0; mem_align = mem_align.0; table_size = table_size.0; table_align = table_align.0 }, table_align.1)

abbrev pub with_regions : Dylink → Regions → Dylink
with_regions d r = record d { mem_size = r.mem_size; mem_align = r.mem_align; table_size = r.table_size; table_align = r.table_align }

abbrev pub with_needed : Dylink → List (List ℕ) → Dylink
with_needed d names = record d { needed = d.needed ++ names }

abbrev pub with_exports : Dylink → List ExportInfo → Dylink
with_exports d notes = record d { exports = d.exports ++ notes }

abbrev pub with_imports : Dylink → List ImportInfo → Dylink
with_imports d notes = record d { imports = d.imports ++ notes }

abbrev pub with_paths : Dylink → List (List ℕ) → Dylink
with_paths d paths = record d { paths = d.paths ++ paths }

-- contents that are read so and take all of the text
unfoldable pub field_at : {A : Type 0} → (List ℕ → Read A) → (Dylink → A → Dylink) → Dylink → List ℕ → Result Dylink Break
field_at read put d text = whole (read text) >>= λ x. Ok (put d x)

-- the contents of the subsection with this code
unfoldable pub subsection_at : Dylink → ℕ → List ℕ → Result Dylink Break
subsection_at d code text =
    if nat_eq code 1 then field_at regions_at with_regions d text
    else if nat_eq code 2 then field_at (vec_at name_at) with_needed d text
    else if nat_eq code 3 then field_at (vec_at export_info_at) with_exports d text
    else if nat_eq code 4 then field_at (vec_at import_info_at) with_imports d text
    else if nat_eq code 5 then field_at (vec_at name_at) with_paths d text
    else Ok d

-- a subsection without its code
unfoldable pub part_at : Dylink → ℕ → List ℕ → Read Dylink
part_at d code text = do
  contents ← cut_at text
  e ← subsection_at d code contents.0
  Ok (e, contents.1)

-- one more, as far as 32 bits hold it
abbrev pub one_more : ℕ → ℕ
one_more count = min (count + 1) (2 ^ 32 - 1)

-- behind so many subsections nothing more is well spelled
abbrev pub behind : {A : Type 0} → ℕ → Result A Break → Result A ℕ
behind count (Ok x) = Ok x
behind count (Err e) = Err count

-- fewer than `fuel` subsections up to the end of the text, behind `count` of them
unfoldable pub subsections_at : ℕ → ℕ → Dylink → List ℕ → Result Dylink ℕ
subsections_at fuel count d [] = Ok d
subsections_at zero count d (b ∷ bs) = Err count
subsections_at (suc fuel) count d (b ∷ bs) = do
  e ← behind count (part_at d b bs)
  subsections_at fuel (one_more count) e.0 e.1

-- nothing is said
abbrev pub nothing_said : Dylink
nothing_said = record { mem_size = 0; mem_align = 0; table_size = 0; table_align = 0; needed = []; exports = []; imports = []; paths = [] }

-- what is said so far
abbrev pub seen : Said → Dylink
seen s = record { mem_size = s.regions.mem_size; mem_align = s.regions.mem_align; table_size = s.regions.table_size; table_align = s.regions.table_align; needed = s.needed.items; exports = s.exports.items; imports = s.imports.items; paths = s.paths.items }

-- what was returned is what reading gives, unless memory ran out
abbrev pub Tells : Result Dylink RecordFault → Result Dylink ℕ → Type 0
Tells (Ok d) read = read ≡ Ok d
Tells (Err faults.NoDylink) read = ⊥
Tells (Err (faults.BadDylink subsection)) read = read ≡ Err subsection
Tells (Err faults.Memory) read = Unit {0}
