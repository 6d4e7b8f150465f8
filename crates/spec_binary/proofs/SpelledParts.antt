-- What is spelled of each part of a module: each of its items, in no more bytes than there are.
use Rattle.std.proofs.Common.{◌≡◌, ℕ, ◌+◌, ◌≤◌, List, [], ◌++◌, length, Result, Ok, ap, subst, arith, length-append}
use Rattle.spec_binary.specs.wasm_form.declared.module.Module.{Module}
use Rattle.spec_binary.specs.Number.{SpellsUnsigned}
use Rattle.spec_binary.specs.Sequence.{SpellsEach, SpellsVec, none, vec}
use Rattle.spec_binary.specs.Types.{SpellsFuncType, SpellsTableType}
use Rattle.spec_binary.specs.Parts.{SpellsImport, SpellsGlobal, SpellsExport, SpellsElem, SpellsCode, SpellsData}
use Rattle.spec_binary.specs.Sections.{Progress, at_start, Contents, IsSection, Chain, custom, types, imports, funcs, tables, memories, globals, exports, start, elems, data_count, codes, datas, section}
use Rattle.spec_binary.specs.Sections as sections
use Rattle.spec_binary.specs.Modules.{header, SpellsModule}
use Rattle.spec_binary.specs.declared.fault.DecodeFault.{DecodeFault}
use Rattle.spec_binary.specs.DecodeAnswers.{DecodeAnswer, spelled}

-- each of these, one after the other
pub record Part {A : Type 0} (Spells : A → List ℕ → Type 0) (xs : List A) : Type 0 where
  pub word : List ℕ
  pub spelled : SpellsEach Spells xs word

pub record AreSpelled (m : Module) (size : ℕ) : Type 0 where
  pub types : Part SpellsFuncType m.types
  pub imports : Part SpellsImport m.imports
  pub funcs : Part (SpellsUnsigned 32) m.funcs
  pub tables : Part SpellsTableType m.tables
  pub globals : Part SpellsGlobal m.globals
  pub exports : Part SpellsExport m.exports
  pub elems : Part SpellsElem m.elems
  pub codes : Part SpellsCode m.codes
  pub datas : Part SpellsData m.datas
  pub few : length types.word + length imports.word + length funcs.word + length tables.word + length globals.word + length exports.word
      + length elems.word + length codes.word + length datas.word ≤ size

record PartIn {A : Type 0} (Spells : A → List ℕ → Type 0) (xs : List A) (w : List ℕ) : Type 0 where
  part : Part Spells xs
  few : length part.word ≤ length w

part_in : {A : Type 0} {Spells : A → List ℕ → Type 0} {xs : List A} {w : List ℕ} → SpellsVec Spells xs w → PartIn Spells xs w
part_in (vec {xs} {count} {w} number each) = record { part = record { word = w; spelled = each }; few = omega (arith, length-append count w) }

none_spelled : AreSpelled at_start.fields 0
none_spelled = record {
  types = record { word = []; spelled = none };
  imports = record { word = []; spelled = none };
  funcs = record { word = []; spelled = none };
  tables = record { word = []; spelled = none };
  globals = record { word = []; spelled = none };
  exports = record { word = []; spelled = none };
  elems = record { word = []; spelled = none };
  codes = record { word = []; spelled = none };
  datas = record { word = []; spelled = none };
  few = omega arith;
}

more_room : (m : Module) (n k : ℕ) → n ≤ k → AreSpelled m n → AreSpelled m k
more_room m n k le is = (let few = is.few in record { types = is.types; imports = is.imports; funcs = is.funcs; tables = is.tables; globals = is.globals; exports = is.exports; elems = is.elems; codes = is.codes; datas = is.datas; few = omega arith })

contents_spelled : {s t : Progress} {id : ℕ} {w : List ℕ} → Contents s id w t → (n : ℕ) → AreSpelled s.fields n → AreSpelled t.fields (n + length w)
contents_spelled (custom bytes named) n is = (let few = is.few in record { types = is.types; imports = is.imports; funcs = is.funcs; tables = is.tables; globals = is.globals; exports = is.exports; elems = is.elems; codes = is.codes; datas = is.datas; few = omega arith })
contents_spelled (types order v) n is = (let few = is.few in let new = part_in v in let room = new.few in record { types = new.part; imports = is.imports; funcs = is.funcs; tables = is.tables; globals = is.globals; exports = is.exports; elems = is.elems; codes = is.codes; datas = is.datas; few = omega arith })
contents_spelled (imports order v) n is = (let few = is.few in let new = part_in v in let room = new.few in record { types = is.types; imports = new.part; funcs = is.funcs; tables = is.tables; globals = is.globals; exports = is.exports; elems = is.elems; codes = is.codes; datas = is.datas; few = omega arith })
contents_spelled (funcs order v) n is = (let few = is.few in let new = part_in v in let room = new.few in record { types = is.types; imports = is.imports; funcs = new.part; tables = is.tables; globals = is.globals; exports = is.exports; elems = is.elems; codes = is.codes; datas = is.datas; few = omega arith })
contents_spelled (tables order v) n is = (let few = is.few in let new = part_in v in let room = new.few in record { types = is.types; imports = is.imports; funcs = is.funcs; tables = new.part; globals = is.globals; exports = is.exports; elems = is.elems; codes = is.codes; datas = is.datas; few = omega arith })
contents_spelled (memories order v) n is = (let few = is.few in record { types = is.types; imports = is.imports; funcs = is.funcs; tables = is.tables; globals = is.globals; exports = is.exports; elems = is.elems; codes = is.codes; datas = is.datas; few = omega arith })
contents_spelled (globals order v) n is = (let few = is.few in let new = part_in v in let room = new.few in record { types = is.types; imports = is.imports; funcs = is.funcs; tables = is.tables; globals = new.part; exports = is.exports; elems = is.elems; codes = is.codes; datas = is.datas; few = omega arith })
contents_spelled (exports order v) n is = (let few = is.few in let new = part_in v in let room = new.few in record { types = is.types; imports = is.imports; funcs = is.funcs; tables = is.tables; globals = is.globals; exports = new.part; elems = is.elems; codes = is.codes; datas = is.datas; few = omega arith })
contents_spelled (start order v) n is = (let few = is.few in record { types = is.types; imports = is.imports; funcs = is.funcs; tables = is.tables; globals = is.globals; exports = is.exports; elems = is.elems; codes = is.codes; datas = is.datas; few = omega arith })
contents_spelled (elems order v) n is = (let few = is.few in let new = part_in v in let room = new.few in record { types = is.types; imports = is.imports; funcs = is.funcs; tables = is.tables; globals = is.globals; exports = is.exports; elems = new.part; codes = is.codes; datas = is.datas; few = omega arith })
contents_spelled (data_count order v) n is = (let few = is.few in record { types = is.types; imports = is.imports; funcs = is.funcs; tables = is.tables; globals = is.globals; exports = is.exports; elems = is.elems; codes = is.codes; datas = is.datas; few = omega arith })
contents_spelled (codes order v) n is = (let few = is.few in let new = part_in v in let room = new.few in record { types = is.types; imports = is.imports; funcs = is.funcs; tables = is.tables; globals = is.globals; exports = is.exports; elems = is.elems; codes = new.part; datas = is.datas; few = omega arith })
contents_spelled (datas order v) n is = (let few = is.few in let new = part_in v in let room = new.few in record { types = is.types; imports = is.imports; funcs = is.funcs; tables = is.tables; globals = is.globals; exports = is.exports; elems = is.elems; codes = is.codes; datas = new.part; few = omega arith })

section_room : {id : ℕ} {contents w : List ℕ} → IsSection id contents w → length contents ≤ length w
section_room (section {id} {size} {contents} number) = omega (arith, length-append size contents)

chain_spelled : {s u : Progress} {k : ℕ} {w : List ℕ} → Chain s k w u → (n : ℕ) → AreSpelled s.fields n → AreSpelled u.fields (n + length w)
chain_spelled (sections.done {s}) n is = more_room s.fields n (n + 0) (omega arith) is
chain_spelled (sections.next {s} {t} {u} {k} {id} {contents} {w} {v} framed held chain) n is =
    let room = section_room framed in
    let both = length-append w v in
    let later = chain_spelled chain (n + length contents) (contents_spelled held n is) in
    more_room u.fields (n + length contents + length v) (n + length (w ++ v)) (omega arith) later

pub module_spelled : (m : Module) (bytes : List ℕ) → SpellsModule m bytes → AreSpelled m (length bytes)
module_spelled m bytes is =
    let all = chain_spelled is.chain 0 none_spelled in
    let room : 0 + length is.sections ≤ length bytes = (let parts = ap length is.parts in let both = length-append header is.sections in omega arith) in
    subst (λ x. AreSpelled x (length bytes)) is.fields (more_room is.end.fields (0 + length is.sections) (length bytes) room all)

pub decoded_text : (bytes : List ℕ) (r : Result Module DecodeFault) → DecodeAnswer bytes r → (m : Module) → r ≡ Ok m → SpellsModule m bytes
decoded_text bytes _ (spelled {m = n} text within counts) m e = (let same : n ≡ m = cc in subst (λ x. SpellsModule x bytes) same text)
decoded_text bytes _ _ m e = absurd cc
