-- How many bytes are written of a module, by how much there is of it.
use Rattle.std.proofs.Common.{ℕ, ◌+◌, ◌*◌, ◌≤◌, List, length, length-append, sym, ap, subst, arith}
use Rattle.std.specs.Prelude.{nat_eq, if◌then◌else◌}
use Rattle.wasm_form.specs.declared.module.Custom.{Custom}
use Rattle.wasm_form.specs.declared.module.Module.{Module}
use Rattle.spec_reading.specs.spec_binary.Sequence.{SpellsEach}
use Rattle.spec_reading.proofs.of_spec_binary.UnsignedSpelling.{unsigned_few}
use Rattle.spec_reading.specs.spec_binary.Sections.{IsSection, section as one_section}
use Rattle.spec_reading.specs.spec_binary.Modules.{header}
use Rattle.wasm_encode.specs.SectionSizes.{types, imports, funcs, tables, memories, globals, exports, elems, codes, datas, IsContents}
use Rattle.wasm_encode.specs.Written.{SpellsSome, some, SpellsCustom}
use Rattle.wasm_encode.specs.Begun.{Costs, nothing, section, paid, Accounts, IsBegun}
use Rattle.wasm_encode.specs.Weight.{custom_weight, section_weight, weight}
use Rattle.wasm_encode.proofs.Lengths.{each_about, contents_about, custom_about}
use Rattle.wasm_encode.proofs.SectionSteps.{all_written, accounts_whole}

-- a section of contents that take at most so many bytes
framed : {id : ℕ} {contents word : List ℕ} (most : ℕ) → IsSection id contents word → length contents ≤ most → length word ≤ 6 + most
framed most (one_section {size} {contents} number) few = (let short = unsigned_few number in omega (arith, length-append size contents))

tight : {Left : Type 0} {Holds : List ℕ → Type 0} {id cost : ℕ} (most : ℕ) → Costs Left Holds id cost → ((w : List ℕ) → Holds w → length w ≤ most) → Costs Left Holds id (6 + most)
tight most (nothing out) short = nothing out
tight most (section {contents} s is le) short = section s is (framed most is (short contents s))

some_short : {n : _} {w : List ℕ} → SpellsSome n w → length w ≤ 5
some_short (some s) = unsigned_few s

-- the most that the section of each rank takes
abbrev most_of : Module → ℕ → ℕ
most_of m k =
    if nat_eq k 8 then 5
    else if nat_eq k 10 then 5
    else if nat_eq k 11 then 16 + 16 * section_weight m 10
    else if nat_eq k 12 then 16 + 16 * section_weight m 11
    else 16 + 16 * section_weight m k

abbrev cost_of : Module → ℕ → ℕ
cost_of m k = 6 + most_of m k

contents_most : (m : Module) {id : ℕ} {w : List ℕ} → IsContents m id w → length w ≤ 16 + 16 * section_weight m id
contents_most m s = (let most = (contents_about s).most in omega arith)

module _ {m : Module} {n : ℕ} (a : Accounts m n) where
  abbrev tight_all : Accounts m (paid (cost_of m) 12 + length a.customs_word)
  tight_all = record {
    cost = cost_of m;
    types = tight (most_of m 1) a.types (λ w s. contents_most m (types s));
    imports = tight (most_of m 2) a.imports (λ w s. contents_most m (imports s));
    funcs = tight (most_of m 3) a.funcs (λ w s. contents_most m (funcs s));
    tables = tight (most_of m 4) a.tables (λ w s. contents_most m (tables s));
    memories = tight (most_of m 5) a.memories (λ w s. contents_most m (memories s));
    globals = tight (most_of m 6) a.globals (λ w s. contents_most m (globals s));
    exports = tight (most_of m 7) a.exports (λ w s. contents_most m (exports s));
    start = tight (most_of m 8) a.start (λ w s. some_short s);
    elems = tight (most_of m 9) a.elems (λ w s. contents_most m (elems s));
    data_count = tight (most_of m 10) a.data_count (λ w s. some_short s);
    codes = tight (most_of m 11) a.codes (λ w s. contents_most m (codes s));
    datas = tight (most_of m 12) a.datas (λ w s. contents_most m (datas s));
    customs_word = a.customs_word;
    customs = a.customs;
    enough = omega arith;
  }

pub whole_size : {m : Module} {cs : List Custom} {bytes : List ℕ} → IsBegun m 12 13 cs bytes → length bytes ≤ 16 * weight m + 256
whole_size {m} {bytes} b =
    let found = accounts_whole b in
    let a = tight_all found in
    let customs = subst (λ l. SpellsEach SpellsCustom l found.customs_word) (sym (all_written b)) found.customs in
    let least = b.least (paid (cost_of m) 12 + length found.customs_word) a found.customs_word customs in
    let short = (each_about SpellsCustom custom_weight custom_about m.customs found.customs_word found.customs).most in
    omega (arith, ap length b.parts, length-append header b.sections)
