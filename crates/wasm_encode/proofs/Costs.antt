-- What the sections of a chain cost.
use Rattle.std.proofs.Common.{◌≡◌, ℕ, ◌+◌, ◌≤◌, List, [], ◌++◌, length, length-append, None, refl, subst, arith}
use Rattle.std.specs.Prelude.{nat_eq, if◌then◌else◌}
use Rattle.wasm_form.specs.declared.module.Module.{Module}
use Rattle.spec_reading.specs.spec_binary.Number.{SpellsUnsigned, IsShortest}
use Rattle.spec_reading.specs.spec_binary.Sequence.{SpellsEach, none, SpellsVec}
use Rattle.spec_reading.specs.spec_binary.Types.{SpellsFuncType, SpellsLimits, SpellsTableType}
use Rattle.spec_reading.specs.spec_binary.Parts.{SpellsImport, SpellsGlobal, SpellsExport, SpellsElem, SpellsCode, SpellsData}
use Rattle.spec_reading.specs.spec_binary.Sections.{Progress, with_custom, with_types, with_imports, with_funcs, with_tables, with_memories, with_globals, with_exports, with_start, with_elems, with_data_count, with_codes, with_datas, at_start, empty_module, Contents, custom, types, imports, funcs, tables, memories, globals, exports, start, elems, data_count, codes, datas, IsSection, Chain, done, next as chain_next}
use Rattle.wasm_encode.specs.Written.{SpellsSome, some, SpellsCustom, custom as custom_section}
use Rattle.wasm_encode.specs.Begun.{Costs, nothing, section, paid, Accounts}
use Rattle.spec_reading.proofs.of_spec_binary.Joined.{each_joined, each_one}
use Rattle.wasm_encode.proofs.SectionForms.{shorter_contents}

-- a section that is no longer than any
pub costs_least : {IsLeftOut : Type 0} {Holds : List ℕ → Type 0} {id cost : ℕ} (contents word : List ℕ) → ¬ IsLeftOut → IsShortest Holds contents → IsShortest (IsSection id contents) word
    → Costs IsLeftOut Holds id cost → length word ≤ cost
costs_least contents word there p q (nothing out) = absurd (there out)
costs_least {id} contents word there p q (section {contents = other} {word = text} s is le) =
    let least : length word ≤ length text = shorter_contents id contents word q (p.least other s) is in
    omega arith

abbrev with_cost : (ℕ → ℕ) → ℕ → ℕ → ℕ → ℕ
with_cost cost rank n = λ k. if nat_eq k rank then n else cost k

nothing_yet : Accounts empty_module 0
nothing_yet = record {
  cost = λ k. 0;
  types = nothing refl;
  imports = nothing refl;
  funcs = nothing refl;
  tables = nothing refl;
  memories = nothing refl;
  globals = nothing refl;
  exports = nothing refl;
  start = nothing refl;
  elems = nothing refl;
  data_count = nothing refl;
  codes = nothing refl;
  datas = nothing refl;
  customs_word = [];
  customs = none;
  enough = omega arith;
}

-- the costs one by one
account : (f : Module) (n : ℕ) (cost : ℕ → ℕ) → Costs (f.types ≡ []) (SpellsVec SpellsFuncType f.types) 1 (cost 1) → Costs (f.imports ≡ []) (SpellsVec SpellsImport f.imports) 2 (cost 2) → Costs (f.funcs ≡ []) (SpellsVec (SpellsUnsigned 32) f.funcs) 3 (cost 3)
    → Costs (f.tables ≡ []) (SpellsVec SpellsTableType f.tables) 4 (cost 4) → Costs (f.memories ≡ []) (SpellsVec SpellsLimits f.memories) 5 (cost 5) → Costs (f.globals ≡ []) (SpellsVec SpellsGlobal f.globals) 6 (cost 6)
    → Costs (f.exports ≡ []) (SpellsVec SpellsExport f.exports) 7 (cost 7) → Costs (f.start ≡ None) (SpellsSome f.start) 8 (cost 8) → Costs (f.elems ≡ []) (SpellsVec SpellsElem f.elems) 9 (cost 9)
    → Costs (f.data_count ≡ None) (SpellsSome f.data_count) 12 (cost 10) → Costs (f.codes ≡ []) (SpellsVec SpellsCode f.codes) 10 (cost 11) → Costs (f.datas ≡ []) (SpellsVec SpellsData f.datas) 11 (cost 12)
    → (w : List ℕ) → SpellsEach SpellsCustom f.customs w → paid cost 12 + length w ≤ n → Accounts f n
account f n cost a1 a2 a3 a4 a5 a6 a7 a8 a9 a10 a11 a12 w customs enough =
    record { cost = cost; types = a1; imports = a2; funcs = a3; tables = a4; memories = a5; globals = a6; exports = a7; start = a8; elems = a9; data_count = a10; codes = a11; datas = a12; customs_word = w; customs = customs; enough = enough }

-- one more section
accounts_after : {s t : Progress} {n id : ℕ} {contents w : List ℕ} → Accounts s.fields n → IsSection id contents w → Contents s id contents t → Accounts t.fields (n + length w)
accounts_after {n} {w} a is (custom {s} {name} bytes named) =
    account (with_custom s name bytes).fields (n + length w) a.cost a.types a.imports a.funcs a.tables a.memories a.globals a.exports a.start a.elems a.data_count a.codes a.datas (a.customs_word ++ w) (each_joined a.customs (each_one (custom_section named is)))
    (omega (arith, a.enough, length-append a.customs_word w))
accounts_after {n} {w} a is (types {s = before} {xs} h s) =
    account (with_types before xs).fields (n + length w) (with_cost a.cost 1 (length w)) (section s is (omega arith)) a.imports a.funcs a.tables a.memories a.globals a.exports a.start a.elems a.data_count a.codes a.datas a.customs_word a.customs (omega (arith, a.enough))
accounts_after {n} {w} a is (imports {s = before} {xs} h s) =
    account (with_imports before xs).fields (n + length w) (with_cost a.cost 2 (length w)) a.types (section s is (omega arith)) a.funcs a.tables a.memories a.globals a.exports a.start a.elems a.data_count a.codes a.datas a.customs_word a.customs (omega (arith, a.enough))
accounts_after {n} {w} a is (funcs {s = before} {xs} h s) =
    account (with_funcs before xs).fields (n + length w) (with_cost a.cost 3 (length w)) a.types a.imports (section s is (omega arith)) a.tables a.memories a.globals a.exports a.start a.elems a.data_count a.codes a.datas a.customs_word a.customs (omega (arith, a.enough))
accounts_after {n} {w} a is (tables {s = before} {xs} h s) =
    account (with_tables before xs).fields (n + length w) (with_cost a.cost 4 (length w)) a.types a.imports a.funcs (section s is (omega arith)) a.memories a.globals a.exports a.start a.elems a.data_count a.codes a.datas a.customs_word a.customs (omega (arith, a.enough))
accounts_after {n} {w} a is (memories {s = before} {xs} h s) =
    account (with_memories before xs).fields (n + length w) (with_cost a.cost 5 (length w)) a.types a.imports a.funcs a.tables (section s is (omega arith)) a.globals a.exports a.start a.elems a.data_count a.codes a.datas a.customs_word a.customs (omega (arith, a.enough))
accounts_after {n} {w} a is (globals {s = before} {xs} h s) =
    account (with_globals before xs).fields (n + length w) (with_cost a.cost 6 (length w)) a.types a.imports a.funcs a.tables a.memories (section s is (omega arith)) a.exports a.start a.elems a.data_count a.codes a.datas a.customs_word a.customs (omega (arith, a.enough))
accounts_after {n} {w} a is (exports {s = before} {xs} h s) =
    account (with_exports before xs).fields (n + length w) (with_cost a.cost 7 (length w)) a.types a.imports a.funcs a.tables a.memories a.globals (section s is (omega arith)) a.start a.elems a.data_count a.codes a.datas a.customs_word a.customs (omega (arith, a.enough))
accounts_after {n} {w} a is (start {s = before} {n = number} h s) =
    account (with_start before number).fields (n + length w) (with_cost a.cost 8 (length w)) a.types a.imports a.funcs a.tables a.memories a.globals a.exports (section (some s) is (omega arith)) a.elems a.data_count a.codes a.datas a.customs_word a.customs (omega (arith, a.enough))
accounts_after {n} {w} a is (elems {s = before} {xs} h s) =
    account (with_elems before xs).fields (n + length w) (with_cost a.cost 9 (length w)) a.types a.imports a.funcs a.tables a.memories a.globals a.exports a.start (section s is (omega arith)) a.data_count a.codes a.datas a.customs_word a.customs (omega (arith, a.enough))
accounts_after {n} {w} a is (data_count {s = before} {n = number} h s) =
    account (with_data_count before number).fields (n + length w) (with_cost a.cost 10 (length w)) a.types a.imports a.funcs a.tables a.memories a.globals a.exports a.start a.elems (section (some s) is (omega arith)) a.codes a.datas a.customs_word a.customs (omega (arith, a.enough))
accounts_after {n} {w} a is (codes {s = before} {xs} h s) =
    account (with_codes before xs).fields (n + length w) (with_cost a.cost 11 (length w)) a.types a.imports a.funcs a.tables a.memories a.globals a.exports a.start a.elems a.data_count (section s is (omega arith)) a.datas a.customs_word a.customs (omega (arith, a.enough))
accounts_after {n} {w} a is (datas {s = before} {xs} h s) =
    account (with_datas before xs).fields (n + length w) (with_cost a.cost 12 (length w)) a.types a.imports a.funcs a.tables a.memories a.globals a.exports a.start a.elems a.data_count a.codes (section s is (omega arith)) a.customs_word a.customs (omega (arith, a.enough))

accounts_along : {s t : Progress} {k n : ℕ} {w : List ℕ} → Accounts s.fields n → Chain s k w t → Accounts t.fields (n + length w)
accounts_along {t} {n} a done = subst (Accounts t.fields) (omega arith) a
accounts_along {t} {n} a (chain_next {w} {v} is c rest) = subst (Accounts t.fields) (omega (arith, length-append w v)) (accounts_along (accounts_after a is c) rest)

-- a whole chain
pub accounts_of : {t : Progress} {k : ℕ} {w : List ℕ} → Chain at_start k w t → Accounts t.fields (length w)
accounts_of {t} {w} c = subst (Accounts t.fields) (omega arith) (accounts_along nothing_yet c)
