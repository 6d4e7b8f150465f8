-- Each section of a module, in the order of their ranks.
use Rattle.std.proofs.Common.{◌≡◌, ◌≢◌, ℕ, ◌<◌, List, [], ◌∷◌, None, Option, refl, sym, ap, arith}
use Rattle.std.specs.Prelude.{suc}
use Rattle.wasm_form.specs.declared.types.FuncType.{FuncType}
use Rattle.wasm_form.specs.declared.types.TableType.{TableType}
use Rattle.wasm_form.specs.declared.types.Limits.{Limits}
use Rattle.wasm_form.specs.declared.module.Import.{Import}
use Rattle.wasm_form.specs.declared.module.GlobalDef.{GlobalDef}
use Rattle.wasm_form.specs.declared.module.Export.{Export}
use Rattle.wasm_form.specs.declared.module.Elem.{Elem}
use Rattle.wasm_form.specs.declared.module.Code.{Code}
use Rattle.wasm_form.specs.declared.module.Data.{Data}
use Rattle.wasm_form.specs.declared.module.Module.{Module}
use Rattle.wasm_form.specs.declared.module.Custom.{Custom}
use Rattle.spec_reading.specs.spec_binary.Number.{SpellsUnsigned}
use Rattle.spec_reading.specs.spec_binary.Sequence.{SpellsVec}
use Rattle.spec_reading.specs.spec_binary.Types.{SpellsFuncType, SpellsLimits, SpellsTableType}
use Rattle.spec_reading.specs.spec_binary.Parts.{SpellsImport, SpellsGlobal, SpellsExport, SpellsElem, SpellsCode, SpellsData}
use Rattle.spec_reading.specs.spec_binary.Sections as chain
use Rattle.spec_reading.specs.spec_binary.Sections.{Progress, Contents, rank_with, with_types, with_imports, with_funcs, with_tables, with_memories, with_globals, with_exports, with_elems, with_codes, with_datas}
use Rattle.spec_reading.specs.spec_binary.WellFormed as formed
use Rattle.spec_reading.specs.spec_binary.WellFormed.{HasRank, ArePlaced}
use Rattle.wasm_encode.specs.SectionSizes.{IsContents, types, imports, funcs, tables, memories, globals, exports, elems, codes, datas, IsTooLongBody, body}
use Rattle.wasm_encode.specs.Written.{AddsSection, SpellsSome, some}
use Rattle.wasm_encode.specs.Begun.{so_far, IsBegun}
use Rattle.wasm_encode.proofs.Begun.{placed_over}
use Rattle.wasm_encode.specs.ListSections.{IsStep, IsListStep}
use Rattle.wasm_encode.proofs.SectionSteps.{section_begun, list_fits, code_list_fits, start_fits, data_count_fits, section_too_long, list_too_long}

rank_there : {A : Type 0} (before rank : ℕ) (xs : List A) → xs ≢ [] → rank_with before rank xs ≡ rank
rank_there before rank [] h = absurd (h refl)
rank_there before rank (x ∷ xs) h = refl

start_contents : {number : Option ℕ} (s : Progress) (w : List ℕ) → s.last < 8 → SpellsSome number w
    → Contents s 8 w (record { fields = record s.fields { start = number }; last = 8; rank = s.rank })
start_contents s w h (some p) = chain.start h p

pub no_start : {m : Module} → HasRank m 8 → ⊥
no_start h = elim h [ ]

data_count_contents : {number : Option ℕ} (s : Progress) (w : List ℕ) → s.last < 10 → SpellsSome number w
    → Contents s 12 w (record { fields = record s.fields { data_count = number }; last = 10; rank = s.rank })
data_count_contents s w h (some p) = chain.data_count h p

pub no_data_count : {m : Module} → HasRank m 10 → ⊥
no_data_count h = elim h [ ]

module _ (m : Module) where
  has_types : HasRank m 1 → m.types ≢ []
  has_types (formed.types h) = h

  types_step : IsStep m 0 1 (m.types ≡ []) (SpellsVec SpellsFuncType m.types)
  types_step = record {
    after = λ s. with_types s m.types;
    contents = λ s w h p. chain.types h p;
    left_out = λ e cs. ap {A = List FuncType} (λ xs. record (so_far m 0 cs) { types = xs }) (sym e);
    written = λ s cs e. ap {A = Module} (λ f. record f { types = m.types }) e;
    last = λ s. refl;
    there = has_types;
    rank = λ h s. rank_there s.rank 1 m.types (has_types h);
    costs = λ n a. a.types;
    fits = list_fits m 1 1 {Spells = SpellsFuncType} {xs = m.types} refl (λ w s. types s) (λ e. omega arith);
  }

  has_imports : HasRank m 2 → m.imports ≢ []
  has_imports (formed.imports h) = h

  imports_step : IsStep m 1 2 (m.imports ≡ []) (SpellsVec SpellsImport m.imports)
  imports_step = record {
    after = λ s. with_imports s m.imports;
    contents = λ s w h p. chain.imports h p;
    left_out = λ e cs. ap {A = List Import} (λ xs. record (so_far m 1 cs) { imports = xs }) (sym e);
    written = λ s cs e. ap {A = Module} (λ f. record f { imports = m.imports }) e;
    last = λ s. refl;
    there = has_imports;
    rank = λ h s. rank_there s.rank 2 m.imports (has_imports h);
    costs = λ n a. a.imports;
    fits = list_fits m 2 2 {Spells = SpellsImport} {xs = m.imports} refl (λ w s. imports s) (λ e. omega arith);
  }

  has_funcs : HasRank m 3 → m.funcs ≢ []
  has_funcs (formed.funcs h) = h

  funcs_step : IsStep m 2 3 (m.funcs ≡ []) (SpellsVec (SpellsUnsigned 32) m.funcs)
  funcs_step = record {
    after = λ s. with_funcs s m.funcs;
    contents = λ s w h p. chain.funcs h p;
    left_out = λ e cs. ap {A = List ℕ} (λ xs. record (so_far m 2 cs) { funcs = xs }) (sym e);
    written = λ s cs e. ap {A = Module} (λ f. record f { funcs = m.funcs }) e;
    last = λ s. refl;
    there = has_funcs;
    rank = λ h s. rank_there s.rank 3 m.funcs (has_funcs h);
    costs = λ n a. a.funcs;
    fits = list_fits m 3 3 {Spells = (SpellsUnsigned 32)} {xs = m.funcs} refl (λ w s. funcs s) (λ e. omega arith);
  }

  has_tables : HasRank m 4 → m.tables ≢ []
  has_tables (formed.tables h) = h

  tables_step : IsStep m 3 4 (m.tables ≡ []) (SpellsVec SpellsTableType m.tables)
  tables_step = record {
    after = λ s. with_tables s m.tables;
    contents = λ s w h p. chain.tables h p;
    left_out = λ e cs. ap {A = List TableType} (λ xs. record (so_far m 3 cs) { tables = xs }) (sym e);
    written = λ s cs e. ap {A = Module} (λ f. record f { tables = m.tables }) e;
    last = λ s. refl;
    there = has_tables;
    rank = λ h s. rank_there s.rank 4 m.tables (has_tables h);
    costs = λ n a. a.tables;
    fits = list_fits m 4 4 {Spells = SpellsTableType} {xs = m.tables} refl (λ w s. tables s) (λ e. omega arith);
  }

  has_memories : HasRank m 5 → m.memories ≢ []
  has_memories (formed.memories h) = h

  memories_step : IsStep m 4 5 (m.memories ≡ []) (SpellsVec SpellsLimits m.memories)
  memories_step = record {
    after = λ s. with_memories s m.memories;
    contents = λ s w h p. chain.memories h p;
    left_out = λ e cs. ap {A = List Limits} (λ xs. record (so_far m 4 cs) { memories = xs }) (sym e);
    written = λ s cs e. ap {A = Module} (λ f. record f { memories = m.memories }) e;
    last = λ s. refl;
    there = has_memories;
    rank = λ h s. rank_there s.rank 5 m.memories (has_memories h);
    costs = λ n a. a.memories;
    fits = list_fits m 5 5 {Spells = SpellsLimits} {xs = m.memories} refl (λ w s. memories s) (λ e. omega arith);
  }

  has_globals : HasRank m 6 → m.globals ≢ []
  has_globals (formed.globals h) = h

  globals_step : IsStep m 5 6 (m.globals ≡ []) (SpellsVec SpellsGlobal m.globals)
  globals_step = record {
    after = λ s. with_globals s m.globals;
    contents = λ s w h p. chain.globals h p;
    left_out = λ e cs. ap {A = List GlobalDef} (λ xs. record (so_far m 5 cs) { globals = xs }) (sym e);
    written = λ s cs e. ap {A = Module} (λ f. record f { globals = m.globals }) e;
    last = λ s. refl;
    there = has_globals;
    rank = λ h s. rank_there s.rank 6 m.globals (has_globals h);
    costs = λ n a. a.globals;
    fits = list_fits m 6 6 {Spells = SpellsGlobal} {xs = m.globals} refl (λ w s. globals s) (λ e. omega arith);
  }

  has_exports : HasRank m 7 → m.exports ≢ []
  has_exports (formed.exports h) = h

  exports_step : IsStep m 6 7 (m.exports ≡ []) (SpellsVec SpellsExport m.exports)
  exports_step = record {
    after = λ s. with_exports s m.exports;
    contents = λ s w h p. chain.exports h p;
    left_out = λ e cs. ap {A = List Export} (λ xs. record (so_far m 6 cs) { exports = xs }) (sym e);
    written = λ s cs e. ap {A = Module} (λ f. record f { exports = m.exports }) e;
    last = λ s. refl;
    there = has_exports;
    rank = λ h s. rank_there s.rank 7 m.exports (has_exports h);
    costs = λ n a. a.exports;
    fits = list_fits m 7 7 {Spells = SpellsExport} {xs = m.exports} refl (λ w s. exports s) (λ e. omega arith);
  }

  has_elems : HasRank m 9 → m.elems ≢ []
  has_elems (formed.elems h) = h

  elems_step : IsStep m 8 9 (m.elems ≡ []) (SpellsVec SpellsElem m.elems)
  elems_step = record {
    after = λ s. with_elems s m.elems;
    contents = λ s w h p. chain.elems h p;
    left_out = λ e cs. ap {A = List Elem} (λ xs. record (so_far m 8 cs) { elems = xs }) (sym e);
    written = λ s cs e. ap {A = Module} (λ f. record f { elems = m.elems }) e;
    last = λ s. refl;
    there = has_elems;
    rank = λ h s. rank_there s.rank 9 m.elems (has_elems h);
    costs = λ n a. a.elems;
    fits = list_fits m 9 9 {Spells = SpellsElem} {xs = m.elems} refl (λ w s. elems s) (λ e. omega arith);
  }

  has_codes : HasRank m 11 → m.codes ≢ []
  has_codes (formed.codes h) = h

  codes_step : IsStep m 10 10 (m.codes ≡ []) (SpellsVec SpellsCode m.codes)
  codes_step = record {
    after = λ s. with_codes s m.codes;
    contents = λ s w h p. chain.codes h p;
    left_out = λ e cs. ap {A = List Code} (λ xs. record (so_far m 10 cs) { codes = xs }) (sym e);
    written = λ s cs e. ap {A = Module} (λ f. record f { codes = m.codes }) e;
    last = λ s. refl;
    there = has_codes;
    rank = λ h s. rank_there s.rank 11 m.codes (has_codes h);
    costs = λ n a. a.codes;
    fits = (λ a. code_list_fits m a);
  }

  has_datas : HasRank m 12 → m.datas ≢ []
  has_datas (formed.datas h) = h

  datas_step : IsStep m 11 11 (m.datas ≡ []) (SpellsVec SpellsData m.datas)
  datas_step = record {
    after = λ s. with_datas s m.datas;
    contents = λ s w h p. chain.datas h p;
    left_out = λ e cs. ap {A = List Data} (λ xs. record (so_far m 11 cs) { datas = xs }) (sym e);
    written = λ s cs e. ap {A = Module} (λ f. record f { datas = m.datas }) e;
    last = λ s. refl;
    there = has_datas;
    rank = λ h s. rank_there s.rank 12 m.datas (has_datas h);
    costs = λ n a. a.datas;
    fits = list_fits m 12 11 {Spells = SpellsData} {xs = m.datas} refl (λ w s. datas s) (λ e. omega arith);
  }

  pub start_step : IsStep m 7 8 (m.start ≡ None) (SpellsSome m.start)
  start_step = record {
    after = λ s. record { fields = record s.fields { start = m.start }; last = 8; rank = s.rank };
    contents = λ s w h p. start_contents s w h p;
    left_out = λ e cs. ap {A = Option ℕ} (λ n. record (so_far m 7 cs) { start = n }) (sym e);
    written = λ s cs e. ap {A = Module} (λ f. record f { start = m.start }) e;
    last = λ s. refl;
    there = λ h. absurd (no_start h);
    rank = λ h s. absurd (no_start h);
    costs = λ n a. a.start;
    fits = λ a other p e long. start_fits e long;
  }

  pub data_count_step : IsStep m 9 12 (m.data_count ≡ None) (SpellsSome m.data_count)
  data_count_step = record {
    after = λ s. record { fields = record s.fields { data_count = m.data_count }; last = 10; rank = s.rank };
    contents = λ s w h p. data_count_contents s w h p;
    left_out = λ e cs. ap {A = Option ℕ} (λ n. record (so_far m 9 cs) { data_count = n }) (sym e);
    written = λ s cs e. ap {A = Module} (λ f. record f { data_count = m.data_count }) e;
    last = λ s. refl;
    there = λ h. absurd (no_data_count h);
    rank = λ h s. absurd (no_data_count h);
    costs = λ n a. a.data_count;
    fits = λ a other p e long. data_count_fits e long;
  }

types_of : (m : Module) (w : List ℕ) → IsContents m 1 w → SpellsVec SpellsFuncType m.types w
types_of m w (types s) = s

imports_of : (m : Module) (w : List ℕ) → IsContents m 2 w → SpellsVec SpellsImport m.imports w
imports_of m w (imports s) = s

funcs_of : (m : Module) (w : List ℕ) → IsContents m 3 w → SpellsVec (SpellsUnsigned 32) m.funcs w
funcs_of m w (funcs s) = s

tables_of : (m : Module) (w : List ℕ) → IsContents m 4 w → SpellsVec SpellsTableType m.tables w
tables_of m w (tables s) = s

memories_of : (m : Module) (w : List ℕ) → IsContents m 5 w → SpellsVec SpellsLimits m.memories w
memories_of m w (memories s) = s

globals_of : (m : Module) (w : List ℕ) → IsContents m 6 w → SpellsVec SpellsGlobal m.globals w
globals_of m w (globals s) = s

exports_of : (m : Module) (w : List ℕ) → IsContents m 7 w → SpellsVec SpellsExport m.exports w
exports_of m w (exports s) = s

elems_of : (m : Module) (w : List ℕ) → IsContents m 9 w → SpellsVec SpellsElem m.elems w
elems_of m w (elems s) = s

codes_of : (m : Module) (w : List ℕ) → IsContents m 10 w → SpellsVec SpellsCode m.codes w
codes_of m w (codes s) = s

datas_of : (m : Module) (w : List ℕ) → IsContents m 11 w → SpellsVec SpellsData m.datas w
datas_of m w (datas s) = s

-- the sections of lists
pub types_list : (m : Module) → IsListStep m 0 1 SpellsFuncType (λ _. ⊥) m.types
types_list m = record {
  step = types_step m;
  too_long = λ b long. section_too_long b 1 (list_too_long m 1 (λ w s. types s) (types_of m) (λ x has never. absurd never) long);
}

pub imports_list : (m : Module) → IsListStep m 1 2 SpellsImport (λ _. ⊥) m.imports
imports_list m = record {
  step = imports_step m;
  too_long = λ b long. section_too_long b 2 (list_too_long m 2 (λ w s. imports s) (imports_of m) (λ x has never. absurd never) long);
}

pub funcs_list : (m : Module) → IsListStep m 2 3 (SpellsUnsigned 32) (λ _. ⊥) m.funcs
funcs_list m = record {
  step = funcs_step m;
  too_long = λ b long. section_too_long b 3 (list_too_long m 3 (λ w s. funcs s) (funcs_of m) (λ x has never. absurd never) long);
}

pub tables_list : (m : Module) → IsListStep m 3 4 SpellsTableType (λ _. ⊥) m.tables
tables_list m = record {
  step = tables_step m;
  too_long = λ b long. section_too_long b 4 (list_too_long m 4 (λ w s. tables s) (tables_of m) (λ x has never. absurd never) long);
}

pub memories_list : (m : Module) → IsListStep m 4 5 SpellsLimits (λ _. ⊥) m.memories
memories_list m = record {
  step = memories_step m;
  too_long = λ b long. section_too_long b 5 (list_too_long m 5 (λ w s. memories s) (memories_of m) (λ x has never. absurd never) long);
}

pub globals_list : (m : Module) → IsListStep m 5 6 SpellsGlobal (λ _. ⊥) m.globals
globals_list m = record {
  step = globals_step m;
  too_long = λ b long. section_too_long b 6 (list_too_long m 6 (λ w s. globals s) (globals_of m) (λ x has never. absurd never) long);
}

pub exports_list : (m : Module) → IsListStep m 6 7 SpellsExport (λ _. ⊥) m.exports
exports_list m = record {
  step = exports_step m;
  too_long = λ b long. section_too_long b 7 (list_too_long m 7 (λ w s. exports s) (exports_of m) (λ x has never. absurd never) long);
}

pub elems_list : (m : Module) → IsListStep m 8 9 SpellsElem (λ _. ⊥) m.elems
elems_list m = record {
  step = elems_step m;
  too_long = λ b long. section_too_long b 9 (list_too_long m 9 (λ w s. elems s) (elems_of m) (λ x has never. absurd never) long);
}

pub codes_list : (m : Module) → IsListStep m 10 10 SpellsCode IsTooLongBody m.codes
codes_list m = record {
  step = codes_step m;
  too_long = λ b long. section_too_long b 10 (list_too_long m 10 (λ w s. codes s) (codes_of m) (λ c has long. body has long) long);
}

pub datas_list : (m : Module) → IsListStep m 11 11 SpellsData (λ _. ⊥) m.datas
datas_list m = record {
  step = datas_step m;
  too_long = λ b long. section_too_long b 11 (list_too_long m 11 (λ w s. datas s) (datas_of m) (λ x has never. absurd never) long);
}

-- the same bytes, where custom sections of a rank are none
over_next : {m : Module} {cs : List Custom} {bytes : List ℕ} (r : ℕ) → IsBegun m r r cs bytes → ArePlaced m (suc r) cs → IsBegun m r (suc r) cs bytes
over_next r b placed = record {
  sections = b.sections;
  parts = b.parts;
  count = b.count;
  end = b.end;
  chain = b.chain;
  before = b.before;
  all = b.all;
  fields = b.fields;
  last = b.last;
  ranked = b.ranked;
  placed = placed;
  least = b.least;
  sections_fit = b.sections_fit;
  customs_fit = b.customs_fit;
}

pub start_begun : {m : Module} {cs : List Custom} {old new : List ℕ} → IsBegun m 7 8 cs old → AddsSection (m.start ≡ None) (SpellsSome m.start) 8 old new → IsBegun m 8 9 cs new
start_begun {m} b a = let step = section_begun (start_step m) b a in over_next 8 step (placed_over (omega arith) no_start step.placed)

pub data_count_begun : {m : Module} {cs : List Custom} {old new : List ℕ} → IsBegun m 9 10 cs old → AddsSection (m.data_count ≡ None) (SpellsSome m.data_count) 12 old new → IsBegun m 10 11 cs new
data_count_begun {m} b a = let step = section_begun (data_count_step m) b a in over_next 10 step (placed_over (omega arith) no_data_count step.placed)
