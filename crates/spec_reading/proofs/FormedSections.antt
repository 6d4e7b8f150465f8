-- A module that bytes spell is well formed: each list is short and its parts are formed, and a section that may still come has written
-- nothing.
use Rattle.std.proofs.Common.{◌≡◌, ℕ, ◌<◌, ◌≤◌, List, [], ◌∷◌, ◌++◌, Some, refl, subst, arith, inl, rules}
use Rattle.std.specs.Prelude.{All}
use Rattle.std.proofs.lemmas.List.Elements.{All-nil}
use Rattle.spec_binary.specs.wasm_form.declared.types.Limits.{Limits}
use Rattle.spec_binary.specs.wasm_form.declared.module.Code.{Code}
use Rattle.spec_binary.specs.wasm_form.declared.module.Custom.{Custom}
use Rattle.spec_binary.specs.wasm_form.declared.module.Module.{Module}
use Rattle.spec_binary.specs.Sequence.{SpellsVec}
use Rattle.spec_binary.specs.BodyLimits.{IsWithinLimits}
use Rattle.spec_binary.specs.Sections.{Progress, at_start, empty_module, Contents, custom, types, imports, funcs, tables, memories, globals, exports, elems, codes, datas, start, data_count, Chain, done, next as next_section}
use Rattle.spec_binary.specs.Modules.{SpellsModule}
use Rattle.spec_binary.specs.WellFormed.{IsShort, IsFormedType, IsFormedTable, IsFormedImport, IsFormedGlobal, IsFormedExport, IsFormedElem, IsFormedCode, IsFormedData, CountsAgree, IsWellFormed}
use Rattle.spec_binary.specs.WellFormed as has
use Rattle.spec_reading.proofs.FormedInstructions.{name_short, vec_short, vec_all}
use Rattle.spec_reading.proofs.FormedParts.{type_formed, table_formed, import_formed, global_formed, export_formed, elem_formed, code_formed, data_formed, IsFormedWithoutLimits}
use Rattle.spec_reading.proofs.Placed.{HasRankUpTo, AreRanked, custom_ranked, passed_ranked, list_ranked}

-- the list that a section of this rank writes, behind sections up to one of the rank `last`
pub record IsFormedList {A : Type 0} (IsFormed : A → Type 0) (rank last : ℕ) (xs : List A) : Type 0 where
  pub short : IsShort xs
  pub formed : All IsFormed xs
  pub ahead : last < rank → xs ≡ []

module _ {A : Type 0} (IsFormed : A → Type 0) (rank : ℕ) where
  none_formed : IsFormedList IsFormed rank 0 []
  none_formed = record { short = omega arith; formed = All-nil IsFormed; ahead = λ h. refl }

  later : {last next : ℕ} {xs : List A} → last ≤ next → IsFormedList IsFormed rank last xs → IsFormedList IsFormed rank next xs
  later {last} {next} le f = record { short = f.short; formed = f.formed; ahead = λ h. f.ahead (omega arith) }

  written : {S : A → List ℕ → Type 0} {xs : List A} {w : List ℕ} → ((x : A) (w : List ℕ) → S x w → IsFormed x) → SpellsVec S xs w → IsFormedList IsFormed rank rank xs
  written formed s = record { short = vec_short s; formed = vec_all IsFormed formed s; ahead = λ h. absurd (omega arith) }

abbrev IsAnyNumber : ℕ → Type 0
IsAnyNumber n = Unit {0}

abbrev AreAnyLimits : Limits → Type 0
AreAnyLimits limits = Unit {0}

-- each list of the module, and the rank of its section
pub record AreFormedLists (m : Module) (last : ℕ) : Type 0 where
  pub types : IsFormedList IsFormedType 1 last m.types
  pub imports : IsFormedList IsFormedImport 2 last m.imports
  pub funcs : IsFormedList IsAnyNumber 3 last m.funcs
  pub tables : IsFormedList IsFormedTable 4 last m.tables
  pub memories : IsFormedList AreAnyLimits 5 last m.memories
  pub globals : IsFormedList IsFormedGlobal 6 last m.globals
  pub exports : IsFormedList IsFormedExport 7 last m.exports
  pub elems : IsFormedList IsFormedElem 9 last m.elems
  pub codes : IsFormedList IsFormedWithoutLimits 11 last m.codes
  pub datas : IsFormedList IsFormedData 12 last m.datas

no_lists : AreFormedLists empty_module 0
no_lists = record {
  types = none_formed IsFormedType 1;
  imports = none_formed IsFormedImport 2;
  funcs = none_formed IsAnyNumber 3;
  tables = none_formed IsFormedTable 4;
  memories = none_formed AreAnyLimits 5;
  globals = none_formed IsFormedGlobal 6;
  exports = none_formed IsFormedExport 7;
  elems = none_formed IsFormedElem 9;
  codes = none_formed IsFormedWithoutLimits 11;
  datas = none_formed IsFormedData 12;
}

lists_later : (m : Module) (last next : ℕ) → last ≤ next → AreFormedLists m last → AreFormedLists m next
lists_later m last next le a = search (rules, later)

-- the lists, and the ranks of the custom sections
pub record IsFormedProgress (s : Progress) : Type 0 where
  pub lists : AreFormedLists s.fields s.last
  pub ranked : AreRanked s.fields s.fields.customs s.last s.rank

start_formed : IsFormedProgress at_start
start_formed = record { lists = no_lists; ranked = record { placed = has.none; bounded = All-nil (HasRankUpTo 0); known = inl refl; reached = omega arith } }

-- one section more
contents_formed : {s t : Progress} {id : ℕ} {w : List ℕ} → Contents s id w t → IsFormedProgress s → IsFormedProgress t
contents_formed (custom {s} {name} bytes p) a =
    let old = a.lists in
    let more : Custom = record { rank = s.rank; name = name; bytes = bytes } in
    record {
      lists = assumption;
      ranked = custom_ranked s.fields (record s.fields { customs = s.fields.customs ++ more ∷ [] }) s.fields.customs s.last more (search rules) (name_short p) a.ranked;
    }
contents_formed (start {s} {n} lt p) a =
    let old = lists_later s.fields s.last 8 (omega arith) a.lists in
    record { lists = assumption; ranked = passed_ranked s.fields (record s.fields { start = Some n }) s.fields.customs s.last 8 s.rank (search rules) (omega arith) a.ranked }
contents_formed (data_count {s} {n} lt p) a =
    let old = lists_later s.fields s.last 10 (omega arith) a.lists in
    record { lists = assumption; ranked = passed_ranked s.fields (record s.fields { data_count = Some n }) s.fields.customs s.last 10 s.rank (search rules) (omega arith) a.ranked }
contents_formed (types {s} {xs} lt p) a =
    let old = lists_later s.fields s.last 1 (omega arith) a.lists in
    let new = written IsFormedType 1 (λ x w p. type_formed p) p in
    let before = a.lists.types.ahead lt in
    record { lists = assumption; ranked = list_ranked s.fields (record s.fields { types = xs }) s.fields.customs s.last 1 s.rank xs (search rules) has.types lt a.ranked }
contents_formed (imports {s} {xs} lt p) a =
    let old = lists_later s.fields s.last 2 (omega arith) a.lists in
    let new = written IsFormedImport 2 (λ x w p. import_formed p) p in
    let before = a.lists.imports.ahead lt in
    record { lists = assumption; ranked = list_ranked s.fields (record s.fields { imports = xs }) s.fields.customs s.last 2 s.rank xs (search rules) has.imports lt a.ranked }
contents_formed (funcs {s} {xs} lt p) a =
    let old = lists_later s.fields s.last 3 (omega arith) a.lists in
    let new = written IsAnyNumber 3 (λ x w p. tt) p in
    let before = a.lists.funcs.ahead lt in
    record { lists = assumption; ranked = list_ranked s.fields (record s.fields { funcs = xs }) s.fields.customs s.last 3 s.rank xs (search rules) has.funcs lt a.ranked }
contents_formed (tables {s} {xs} lt p) a =
    let old = lists_later s.fields s.last 4 (omega arith) a.lists in
    let new = written IsFormedTable 4 (λ x w p. table_formed p) p in
    let before = a.lists.tables.ahead lt in
    record { lists = assumption; ranked = list_ranked s.fields (record s.fields { tables = xs }) s.fields.customs s.last 4 s.rank xs (search rules) has.tables lt a.ranked }
contents_formed (memories {s} {xs} lt p) a =
    let old = lists_later s.fields s.last 5 (omega arith) a.lists in
    let new = written AreAnyLimits 5 (λ x w p. tt) p in
    let before = a.lists.memories.ahead lt in
    record { lists = assumption; ranked = list_ranked s.fields (record s.fields { memories = xs }) s.fields.customs s.last 5 s.rank xs (search rules) has.memories lt a.ranked }
contents_formed (globals {s} {xs} lt p) a =
    let old = lists_later s.fields s.last 6 (omega arith) a.lists in
    let new = written IsFormedGlobal 6 (λ x w p. global_formed p) p in
    let before = a.lists.globals.ahead lt in
    record { lists = assumption; ranked = list_ranked s.fields (record s.fields { globals = xs }) s.fields.customs s.last 6 s.rank xs (search rules) has.globals lt a.ranked }
contents_formed (exports {s} {xs} lt p) a =
    let old = lists_later s.fields s.last 7 (omega arith) a.lists in
    let new = written IsFormedExport 7 (λ x w p. export_formed p) p in
    let before = a.lists.exports.ahead lt in
    record { lists = assumption; ranked = list_ranked s.fields (record s.fields { exports = xs }) s.fields.customs s.last 7 s.rank xs (search rules) has.exports lt a.ranked }
contents_formed (elems {s} {xs} lt p) a =
    let old = lists_later s.fields s.last 9 (omega arith) a.lists in
    let new = written IsFormedElem 9 (λ x w p. elem_formed p) p in
    let before = a.lists.elems.ahead lt in
    record { lists = assumption; ranked = list_ranked s.fields (record s.fields { elems = xs }) s.fields.customs s.last 9 s.rank xs (search rules) has.elems lt a.ranked }
contents_formed (codes {s} {xs} lt p) a =
    let old = lists_later s.fields s.last 11 (omega arith) a.lists in
    let new = written IsFormedWithoutLimits 11 (λ x w p. code_formed p) p in
    let before = a.lists.codes.ahead lt in
    record { lists = assumption; ranked = list_ranked s.fields (record s.fields { codes = xs }) s.fields.customs s.last 11 s.rank xs (search rules) has.codes lt a.ranked }
contents_formed (datas {s} {xs} lt p) a =
    let old = lists_later s.fields s.last 12 (omega arith) a.lists in
    let new = written IsFormedData 12 (λ x w p. data_formed p) p in
    let before = a.lists.datas.ahead lt in
    record { lists = assumption; ranked = list_ranked s.fields (record s.fields { datas = xs }) s.fields.customs s.last 12 s.rank xs (search rules) has.datas lt a.ranked }

-- sections one after the other
chain_formed : {s u : Progress} {k : ℕ} {w : List ℕ} → Chain s k w u → IsFormedProgress s → IsFormedProgress u
chain_formed done a = a
chain_formed (next_section frame c rest) a = chain_formed rest (contents_formed c a)

codes_formed : (cs : List Code) → All IsFormedWithoutLimits cs → All IsWithinLimits cs → All IsFormedCode cs
codes_formed cs f l k d lt = record { locals = (f k d lt).locals; body = (f k d lt).body; limits = l k d lt }

well_formed : (s : Progress) → IsFormedProgress s → All IsWithinLimits s.fields.codes → CountsAgree s.fields → IsWellFormed s.fields
well_formed s a limits counts =
    let l = a.lists in
    record {
      types = (l.types.short, l.types.formed);
      imports = (l.imports.short, l.imports.formed);
      funcs = l.funcs.short;
      tables = (l.tables.short, l.tables.formed);
      memories = l.memories.short;
      globals = (l.globals.short, l.globals.formed);
      exports = (l.exports.short, l.exports.formed);
      elems = (l.elems.short, l.elems.formed);
      codes = (l.codes.short, codes_formed s.fields.codes l.codes.formed limits);
      datas = (l.datas.short, l.datas.formed);
      customs = a.ranked.placed;
      counts = counts;
    }

pub spelled_formed : (m : Module) (bytes : List ℕ) → SpellsModule m bytes → All IsWithinLimits m.codes → CountsAgree m → IsWellFormed m
spelled_formed m bytes s = subst (λ m. All IsWithinLimits m.codes → CountsAgree m → IsWellFormed m) s.fields (well_formed s.end (chain_formed s.chain start_formed))
