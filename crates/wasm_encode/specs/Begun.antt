-- The bytes of a module so far.
-- Serves the contracts of this crate, which follow Sections of `spec_binary`.
use Rattle.std.specs.Prelude.{◌≡◌, ℕ, zero, suc, ◌+◌, ◌*◌, ◌≤◌, Bool, true, false, List, [], ◌++◌, length, Contains, Option, None, nat_lt, ◌⊎◌}
use Rattle.wasm_form.specs.declared.module.Custom.{Custom}
use Rattle.wasm_form.specs.declared.module.Module.{Module}
use Rattle.spec_reading.specs.spec_binary.Number.{SpellsUnsigned}
use Rattle.spec_reading.specs.spec_binary.Sequence.{SpellsEach, SpellsVec}
use Rattle.spec_reading.specs.spec_binary.Types.{SpellsFuncType, SpellsLimits, SpellsTableType}
use Rattle.spec_reading.specs.spec_binary.Parts.{SpellsImport, SpellsGlobal, SpellsExport, SpellsElem, SpellsCode, SpellsData}
use Rattle.spec_reading.specs.spec_binary.Sections.{Progress, at_start, IsSection, Chain}
use Rattle.spec_reading.specs.spec_binary.Modules.{header}
use Rattle.spec_reading.specs.spec_binary.WellFormed.{HasRank, ArePlaced}
use Rattle.wasm_encode.specs.SectionSizes.{IsTooLong, IsTooLongCustom}
use Rattle.wasm_encode.specs.Written.{SpellsSome, SpellsCustom}

abbrev pub kept : {A : Type 0} → Bool → List A → List A
kept true xs = xs
kept false xs = []

abbrev pub kept_number : Bool → Option ℕ → Option ℕ
kept_number true n = n
kept_number false n = None

-- the fields of a module that the sections up to this rank write, and these custom sections
abbrev pub so_far : Module → ℕ → List Custom → Module
so_far m rank customs = record {
  types = kept (nat_lt 0 rank) m.types;
  imports = kept (nat_lt 1 rank) m.imports;
  funcs = kept (nat_lt 2 rank) m.funcs;
  tables = kept (nat_lt 3 rank) m.tables;
  memories = kept (nat_lt 4 rank) m.memories;
  globals = kept (nat_lt 5 rank) m.globals;
  exports = kept (nat_lt 6 rank) m.exports;
  start = kept_number (nat_lt 7 rank) m.start;
  elems = kept (nat_lt 8 rank) m.elems;
  data_count = kept_number (nat_lt 9 rank) m.data_count;
  codes = kept (nat_lt 10 rank) m.codes;
  datas = kept (nat_lt 11 rank) m.datas;
  customs = customs;
}

-- what a section costs, which is left out or has such contents
pub data Costs (IsLeftOut : Type 0) (Holds : List ℕ → Type 0) (id cost : ℕ) : Type 0 where
  nothing : IsLeftOut → Costs IsLeftOut Holds id cost
  section : {contents word : List ℕ} → Holds contents → IsSection id contents word → length word ≤ cost → Costs IsLeftOut Holds id cost

-- the costs of the sections up to a rank
abbrev pub paid : (ℕ → ℕ) → ℕ → ℕ
paid cost zero = 0
paid cost (suc rank) = paid cost rank + cost (suc rank)

-- So many bytes are enough for sections that write these fields, where the section of each rank takes what it costs.
pub record Accounts (fields : Module) (bytes : ℕ) : Type 0 where
  pub cost : ℕ → ℕ
  pub types : Costs (fields.types ≡ []) (SpellsVec SpellsFuncType fields.types) 1 (cost 1)
  pub imports : Costs (fields.imports ≡ []) (SpellsVec SpellsImport fields.imports) 2 (cost 2)
  pub funcs : Costs (fields.funcs ≡ []) (SpellsVec (SpellsUnsigned 32) fields.funcs) 3 (cost 3)
  pub tables : Costs (fields.tables ≡ []) (SpellsVec SpellsTableType fields.tables) 4 (cost 4)
  pub memories : Costs (fields.memories ≡ []) (SpellsVec SpellsLimits fields.memories) 5 (cost 5)
  pub globals : Costs (fields.globals ≡ []) (SpellsVec SpellsGlobal fields.globals) 6 (cost 6)
  pub exports : Costs (fields.exports ≡ []) (SpellsVec SpellsExport fields.exports) 7 (cost 7)
  pub start : Costs (fields.start ≡ None) (SpellsSome fields.start) 8 (cost 8)
  pub elems : Costs (fields.elems ≡ []) (SpellsVec SpellsElem fields.elems) 9 (cost 9)
  pub data_count : Costs (fields.data_count ≡ None) (SpellsSome fields.data_count) 12 (cost 10)
  pub codes : Costs (fields.codes ≡ []) (SpellsVec SpellsCode fields.codes) 10 (cost 11)
  pub datas : Costs (fields.datas ≡ []) (SpellsVec SpellsData fields.datas) 11 (cost 12)
  pub customs_word : List ℕ
  pub customs : SpellsEach SpellsCustom fields.customs customs_word
  pub enough : paid cost 12 + length customs_word ≤ bytes

-- The bytes are the header and the shortest sections that write the fields of the module up to a rank. Custom sections of ranks below another
-- one are written too, and these are left.
pub record IsBegun (m : Module) (rank next : ℕ) (customs : List Custom) (bytes : List ℕ) : Type 0 where
  pub sections : List ℕ
  pub parts : bytes ≡ header ++ sections
  pub count : ℕ
  pub end : Progress
  pub chain : Chain at_start count sections end
  pub before : List Custom
  pub all : m.customs ≡ before ++ customs
  pub fields : end.fields ≡ so_far m rank before
  pub last : end.last ≤ rank
  pub ranked : HasRank m rank ⊎ (rank ≡ 0) → end.rank ≡ rank
  pub placed : ArePlaced m next customs
  pub least : (n : ℕ) (a : Accounts m n) (w : List ℕ) → SpellsEach SpellsCustom before w → length sections ≤ paid a.cost rank + length w
  pub sections_fit : (id k : ℕ) → k ≤ rank → IsTooLong m id (2 * k) → ⊥
  pub customs_fit : (c : Custom) → Contains before c → IsTooLongCustom c → ⊥
