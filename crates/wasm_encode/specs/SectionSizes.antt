-- When a section is too long to be written: its contents take 2 ^ 32 bytes or more, and their size is a number of 32 bits.
-- By WebAssembly Core 2.0, sections 5.5.2, 5.5.3 and 5.5.13.
use Rattle.std.specs.Prelude.{ℕ, ◌+◌, ◌*◌, ◌^◌, ◌<◌, ◌≤◌, List, ◌++◌, length, Contains, nat_eq, if◌then◌else◌}
use Rattle.wasm_form.specs.declared.module.Code.{Code}
use Rattle.wasm_form.specs.declared.module.Custom.{Custom}
use Rattle.wasm_form.specs.declared.module.Module.{Module}
use Rattle.spec_reading.specs.spec_binary.Number.{SpellsUnsigned}
use Rattle.spec_reading.specs.spec_binary.Name.{SpellsName}
use Rattle.spec_reading.specs.spec_binary.Sequence.{SpellsVec}
use Rattle.spec_reading.specs.spec_binary.Types.{SpellsFuncType, SpellsLimits, SpellsTableType}
use Rattle.spec_reading.specs.spec_binary.Parts.{SpellsImport, SpellsGlobal, SpellsExport, SpellsElem, SpellsFunc, SpellsCode, SpellsData}

-- The contents of the section of a module with this number, for the sections that can be long. A start section and a data count section
-- hold one number.
pub data IsContents (m : Module) : ℕ → List ℕ → Type 0 where
  types : {w : List ℕ} → SpellsVec SpellsFuncType m.types w → IsContents m 1 w
  imports : {w : List ℕ} → SpellsVec SpellsImport m.imports w → IsContents m 2 w
  funcs : {w : List ℕ} → SpellsVec (SpellsUnsigned 32) m.funcs w → IsContents m 3 w
  tables : {w : List ℕ} → SpellsVec SpellsTableType m.tables w → IsContents m 4 w
  memories : {w : List ℕ} → SpellsVec SpellsLimits m.memories w → IsContents m 5 w
  globals : {w : List ℕ} → SpellsVec SpellsGlobal m.globals w → IsContents m 6 w
  exports : {w : List ℕ} → SpellsVec SpellsExport m.exports w → IsContents m 7 w
  elems : {w : List ℕ} → SpellsVec SpellsElem m.elems w → IsContents m 9 w
  codes : {w : List ℕ} → SpellsVec SpellsCode m.codes w → IsContents m 10 w
  datas : {w : List ℕ} → SpellsVec SpellsData m.datas w → IsContents m 11 w

-- the rank of the section with this number
abbrev pub rank_of : ℕ → ℕ
rank_of id = if nat_eq id 12 then 10 else if nat_eq id 10 then 11 else if nat_eq id 11 then 12 else id

-- The locals and the body take 2 ^ 32 bytes or more together, however they are spelled, so their size is no number of 32 bits.
pub record IsTooLongBody (c : Code) : Type 0 where
  pub word : List ℕ
  pub spelled : SpellsFunc c word
  pub long : (w : List ℕ) → SpellsFunc c w → 2 ^ 32 ≤ length w

-- The name and the bytes of a custom section take 2 ^ 32 bytes or more together, however the name is spelled.
pub record IsTooLongCustom (c : Custom) : Type 0 where
  pub word : List ℕ
  pub spelled : SpellsName c.name word
  pub long : (w : List ℕ) → SpellsName c.name w → 2 ^ 32 ≤ length (w ++ c.bytes)

-- The contents of the section with this number take 2 ^ 32 bytes or more, however they are spelled, or a body of the code section does. The
-- section stands at this place: that of a section that isn't custom is twice its rank, and custom sections of a rank follow it.
pub data IsTooLong (m : Module) : ℕ → ℕ → Type 0 where
  contents : {id : ℕ} {w : List ℕ} → IsContents m id w → ((v : List ℕ) → IsContents m id v → 2 ^ 32 ≤ length v) → IsTooLong m id (2 * rank_of id)
  body : {c : Code} → Contains m.codes c → IsTooLongBody c → IsTooLong m 10 22
  custom : {c : Custom} → Contains m.customs c → IsTooLongCustom c → IsTooLong m 0 (2 * c.rank + 1)

-- The section with this number is too long, and none before it is.
pub record IsFirstTooLong (m : Module) (id : ℕ) : Type 0 where
  pub place : ℕ
  pub long : IsTooLong m id place
  pub first : (other earlier : ℕ) → earlier < place → IsTooLong m other earlier → ⊥
