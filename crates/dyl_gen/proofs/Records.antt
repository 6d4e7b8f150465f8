-- The records of the set can be written.
use Rattle.std.proofs.Common.{rules, ◌≡◌, ℕ, ◌+◌, ◌<◌, ◌≤◌, List, [], ◌∷◌, ◌++◌, Bool, true, false, cond, length, length-append, refl, ap, arith}
use Rattle.std.specs.Str.{IsAscii}
use Rattle.std.proofs.lemmas.Bool.{eqb-false}
use Rattle.std.proofs.lemmas.Str.{IsUtf8-from_ascii}
use Rattle.spec_reading.specs.spec_binary.Number.{last}
use Rattle.spec_reading.specs.spec_binary.Name.{SpellsName, name}
use Rattle.spec_reading.specs.spec_binary.Sequence.{none, next, SpellsVec, vec}
use Rattle.spec_reading.proofs.of_spec_binary.UnsignedSpelling.{some_shortest_unsigned, unsigned_few}
use Rattle.spec_linking.specs.Records.{SpellsExportNote, SpellsImportNote}
use Rattle.dyl_section.specs.declared.record.Dylink.{Dylink}
use Rattle.dyl_section.specs.Written.{IsShortlySpelled, IsWritable, SpellsExportInfo, SpellsImportInfo, IsFramed, SpellsRegions, regions, IsListWord, nothing, list, IsWritten}
use Rattle.dyl_gen.specs.Generated.{is_main, is_last, file_name, further_name, dylink, no_dylink}
use Rattle.dyl_gen.specs.Generated as made
use Rattle.dyl_gen.proofs.MemberNames.{file_short, file_ascii}

-- some word of few bytes is of this kind
record IsBrief (Spells : List ℕ → Type 0) : Type 0 where
  word : List ℕ
  spelled : Spells word
  short : length word ≤ 30

-- a name of ASCII that isn't long
record IsNamed (text : List ℕ) : Type 0 where
  word : List ℕ
  spelled : SpellsName text word
  short : length word ≤ 12

named : (text : List ℕ) → IsAscii text → length text ≤ 7 → IsNamed text
named text ascii lt =
    let count = some_shortest_unsigned 32 (length text) (omega arith) (omega arith) in
    let few = unsigned_few count.1.spelled in
    record { word = count.0 ++ text; spelled = name count.1.spelled (IsUtf8-from_ascii text ascii); short = omega (arith, length-append count.0 text) }

one_name : (a : List ℕ) → IsNamed a → IsBrief (SpellsVec SpellsName (a ∷ []))
one_name a x = (let few = x.short in record {
  word = (1 ∷ []) ++ (x.word ++ []);
  spelled = vec (last (omega arith) (omega arith)) (next x.spelled none);
  short = omega (arith, length-append x.word []);
})

two_names : (a b : List ℕ) → IsNamed a → IsNamed b → IsBrief (SpellsVec SpellsName (a ∷ b ∷ []))
two_names a b x y = (let few = x.short in let also = y.short in record {
  word = (2 ∷ []) ++ (x.word ++ (y.word ++ []));
  spelled = vec (last (omega arith) (omega arith)) (next x.spelled (next y.spelled none));
  short = omega (arith, length-append x.word (y.word ++ []), length-append y.word []);
})

nothing_brief : {A : Type 0} (Spells : A → List ℕ → Type 0) → IsBrief (SpellsVec Spells [])
nothing_brief Spells = record { word = 0 ∷ []; spelled = vec (last (omega arith) (omega arith)) none; short = omega arith }

further_named : IsNamed further_name
further_named = named further_name (search rules) (omega arith)

needed_by : (b : Bool) (a : List ℕ) → IsNamed a → IsBrief (SpellsVec SpellsName (a ∷ cond b (further_name ∷ []) []))
needed_by true a x = two_names a further_name x further_named
needed_by false a x = one_name a x

pub next_below : (n k : ℕ) → k < n → made.next n k < n
next_below n k lt = by (is_last n k) refl
  where
    by : (b : Bool) → is_last n k ≡ b → cond b 0 (k + 1) < n
    by true e = omega arith
    by false e = (let differs = eqb-false (k + 1) n e in omega arith)

needed_brief : (n k : ℕ) → k < n → n ≤ 255 → IsBrief (SpellsVec SpellsName (dylink n k).needed)
needed_brief n k lt few =
    let below = next_below n k lt in
    let x = made.next n k in
    needed_by (is_main k) (file_name x) (named (file_name x) (file_ascii x (omega arith)) (file_short x (omega arith)))

-- ---- what is written

writable : {A : Type 0} {Spells : A → List ℕ → Type 0} {xs : List A} → IsBrief (SpellsVec Spells xs) → IsShortlySpelled (SpellsVec Spells xs)
writable b = (let few = b.short in record { word = b.word; spelled = b.spelled; short = omega arith })

align_by : (b : Bool) → cond b 16 2 ≤ 31
align_by true = omega arith
align_by false = omega arith

pub member_writable : (n k : ℕ) → k < n → n ≤ 255 → IsWritable (dylink n k)
member_writable n k lt few = record {
  mem_align = align_by (is_last n k);
  table_align = omega arith;
  needed = writable (needed_brief n k lt few);
  exports = writable (nothing_brief SpellsExportNote);
  imports = writable (nothing_brief SpellsImportNote);
  paths = writable (nothing_brief SpellsName);
}

pub no_dylink_writable : IsWritable no_dylink
no_dylink_writable = record {
  mem_align = omega arith;
  table_align = omega arith;
  needed = writable (nothing_brief SpellsName);
  exports = writable (nothing_brief SpellsExportNote);
  imports = writable (nothing_brief SpellsImportNote);
  paths = writable (nothing_brief SpellsName);
}

-- ---- what is written is short

framed_short : (code : ℕ) (contents word : List ℕ) → IsFramed code contents word → length word ≤ 6 + length contents
framed_short code contents word is = (let few = unsigned_few is.shortest.spelled in omega (arith, ap length is.parts, length-append is.size contents))

numbers_short : {d : Dylink} {contents : List ℕ} → SpellsRegions d contents → length contents ≤ 20
numbers_short (regions {w} {v} {u} {t} a b c e) =
    let one = unsigned_few a.spelled in
    let two = unsigned_few b.spelled in
    let three = unsigned_few c.spelled in
    let four = unsigned_few e.spelled in
    omega (arith, length-append w (v ++ (u ++ t)), length-append v (u ++ t), length-append u t)

list_short : {A : Type 0} {Spells : A → List ℕ → Type 0} {code : ℕ} {xs : List A} {word : List ℕ} → IsListWord Spells code xs word → IsBrief (SpellsVec Spells xs) → length word ≤ 36
list_short (nothing e) b = omega arith
list_short {code} (list {contents} {word} some p framed) b =
    let least = p.least b.word b.spelled in
    let few = b.short in
    let all = framed_short code contents word framed in
    omega arith

note_short : (d : Dylink) (note : List ℕ) → IsBrief (SpellsVec SpellsName d.needed) → d.exports ≡ [] → d.imports ≡ [] → d.paths ≡ [] → IsWritten d note → length note ≤ 200
note_short d note brief exports imports paths is =
    let one = framed_short 1 is.regions.contents is.regions_word is.regions.framed in
    let numbers = numbers_short is.regions.spelled in
    let two = list_short is.needed brief in
    let three = list_short is.exports (rw exports (nothing_brief SpellsExportInfo)) in
    let four = list_short is.imports (rw imports (nothing_brief SpellsImportInfo)) in
    let five = list_short is.paths (rw paths (nothing_brief SpellsName)) in
    omega (
      arith,
      ap length is.parts,
      length-append is.regions_word (is.needed_word ++ (is.exports_word ++ (is.imports_word ++ is.paths_word))),
      length-append is.needed_word (is.exports_word ++ (is.imports_word ++ is.paths_word)),
      length-append is.exports_word (is.imports_word ++ is.paths_word),
      length-append is.imports_word is.paths_word,
    )

pub member_note : (n k : ℕ) (note : List ℕ) → k < n → n ≤ 255 → IsWritten (dylink n k) note → length note ≤ 200
member_note n k note lt few is = note_short (dylink n k) note (needed_brief n k lt few) refl refl refl is

pub further_note : (note : List ℕ) → IsWritten no_dylink note → length note ≤ 200
further_note note is = note_short no_dylink note (nothing_brief SpellsName) refl refl refl is
