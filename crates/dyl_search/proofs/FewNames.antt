-- How many names a module's record needs, and how many names have numbers once members are found: no more than files have bytes.
use Rattle.std.proofs.Common.{ℕ, ◌+◌, ◌≤◌, Bool, true, false, List, [], ◌∷◌, ◌++◌, length, Ok, Option, refl, sym, ap, subst, arith, length-append, if◌then◌else◌}
use Rattle.std.specs.Prelude.{sum_by, nat_eq}
use Rattle.std.specs.List.{All}
use Rattle.std.proofs.lemmas.List.{length-map}
use Rattle.std.proofs.lemmas.List.Elements.{All-nil, All-push, All-head, All-tail}
use Rattle.std.proofs.lemmas.List.Sums.{sum_by-append}
use Rattle.wasm_form.specs.declared.module.Custom.{Custom}
use Rattle.wasm_form.specs.declared.module.Module.{Module}
use Rattle.spec_reading.specs.spec_binary.Name.{SpellsName, name}
use Rattle.spec_reading.specs.spec_binary.Sequence.{vec}
use Rattle.spec_reading.specs.spec_binary.Sections.{Progress, Contents, Chain, custom, section}
use Rattle.spec_reading.specs.spec_binary.Sections as sections
use Rattle.spec_reading.specs.spec_binary.Modules.{header, SpellsModule}
use Rattle.spec_reading.specs.spec_binary.DecodeAnswers.{DecodeAnswer}
use Rattle.spec_reading.proofs.of_spec_binary.UnsignedSpelling.{unsigned_some}
use Rattle.spec_reading.proofs.of_spec_binary.SpelledItems.{items_within}
use Rattle.spec_reading.proofs.of_spec_binary.SpelledParts.{decoded_text}
use Rattle.spec_linking.specs.Records.{DylinkRecord, Subsection, Subsections, HasRecord}
use Rattle.spec_linking.specs.Records as records
use Rattle.spec_linking.specs.Sets.{Member, SetOptions}
use Rattle.spec_linking.specs.Gathering.{Lookup, Reaches, start, next, total_size, IsMember}
use Rattle.spec_linking.specs.Wanted.{Wanted, has_number, with_name, with_names, with_one_of, with_later, wanted_from, wanted}
use Rattle.spec_linking.proofs.FewParts.{total_cons}
use Rattle.dyl_outside.specs.FileMap.{FileMap}
use Rattle.dyl_section.specs.Recorded.{record_of}
use Rattle.dyl_search.specs.declared.set.SetOptions as search
use Rattle.dyl_search.specs.declared.load.Loaded.{Loaded}
use Rattle.dyl_search.specs.declared.progress.Progress as gathered
use Rattle.dyl_search.specs.Loaded.{IsModule, Holds}
use Rattle.dyl_search.specs.Gathers.{options_of, member_of, members_of, Stands}

-- ---- custom sections

abbrev bytes_of : Custom → ℕ
bytes_of c = length c.bytes

abbrev custom_bytes : Progress → ℕ
custom_bytes s = sum_by bytes_of s.fields.customs

contents_bytes : {s t : Progress} {id : ℕ} {w : List ℕ} → Contents s id w t → custom_bytes t ≤ custom_bytes s + length w
contents_bytes (custom {s} {name} {w} bytes named) =
    let sum = sum_by-append bytes_of s.fields.customs (record { rank = s.rank; name = name; bytes = bytes } ∷ []) in
    let both = length-append w bytes in
    omega arith
contents_bytes _ = omega arith

chain_bytes : {s u : Progress} {k : ℕ} {w : List ℕ} → Chain s k w u → custom_bytes u ≤ custom_bytes s + length w
chain_bytes sections.done = omega arith
chain_bytes (sections.next {v = v} (section {id} {size} {contents} number) held chain) =
    let here = contents_bytes held in
    let later = chain_bytes chain in
    let one = length-append size contents in
    let all = length-append (id ∷ size ++ contents) v in
    omega arith

module_bytes : (m : Module) (bytes : List ℕ) → SpellsModule m bytes → sum_by bytes_of m.customs ≤ length bytes
module_bytes m bytes is =
    let all = chain_bytes is.chain in
    let parts = ap length is.parts in
    let both = length-append header is.sections in
    let room : custom_bytes is.end ≤ length bytes = omega arith in
    subst (λ (x : Module). sum_by bytes_of x.customs ≤ length bytes) is.fields room

-- ---- needed names

name_some : (text w : List ℕ) → SpellsName text w → 1 ≤ length w
name_some text _ (name {count = count} number utf8) = (let long = unsigned_some number in omega (arith, length-append count text))

subsection_needed : {d e : DylinkRecord} {code : ℕ} {w : List ℕ} → Subsection d code w e → length e.needed ≤ length d.needed + length w
subsection_needed (records.needed {d} {names} (vec {count = count} {w = w} number each)) =
    let many = items_within SpellsName name_some names w each in
    omega (arith, length-append d.needed names, length-append count w)
subsection_needed _ = omega arith

subsections_needed : {d f : DylinkRecord} {k : ℕ} {w : List ℕ} → Subsections d k w f → length f.needed ≤ length d.needed + length w
subsections_needed records.done = omega arith
subsections_needed (records.next {size = size} {contents = contents} {rest = rest} number said more) =
    let here = subsection_needed said in
    let later = subsections_needed more in
    omega (arith, length-append size (contents ++ rest), length-append contents rest)

-- a module that these bytes spell needs no more names than there are bytes
needed_few : (bytes : List ℕ) (m : Module) (d : DylinkRecord) → DecodeAnswer bytes (Ok m) → HasRecord m d → length d.needed ≤ length bytes
needed_few bytes m d told is =
    let has = is.section in
    let said = subsections_needed is.said in
    let all = module_bytes m bytes (decoded_text bytes (Ok m) told m refl) in
    let first = ap (sum_by bytes_of) has.first in
    let sum = sum_by-append bytes_of (has.section ∷ []) has.others in
    let same = ap (λ (bs : List ℕ). length bs) has.contents in
    omega arith

-- ---- names that have numbers

name_few : (m : ℕ) (known : List Wanted) (x : List ℕ) → length (with_name m known x) ≤ length known + 1
name_few m known x = by (has_number x known)
  where
    by : (b : Bool) → length (if b then known else (known ++ record { name = x; needed_by = m } ∷ [])) ≤ length known + 1
    by true = omega arith
    by false = omega (arith, length-append known (record { name = x; needed_by = m } ∷ []))

pub names_few : (m : ℕ) (known : List Wanted) (names : List (List ℕ)) → length (with_names m known names) ≤ length known + length names
names_few m known [] = omega arith
names_few m known (x ∷ xs) = (let one = name_few m known x in let more = names_few m (with_name m known x) xs in omega arith)

one_few : (names : List (List ℕ)) (known : List Wanted) → length (with_one_of names known) ≤ length known + 1
one_few [] known = omega arith
one_few (x ∷ xs) known = by (has_number x known) (one_few xs known)
  where
    by : (b : Bool) → length (with_one_of xs known) ≤ length known + 1
        → length (if b then with_one_of xs known else (known ++ record { name = x; needed_by = 0 } ∷ [])) ≤ length known + 1
    by true more = more
    by false more = omega (arith, length-append known (record { name = x; needed_by = 0 } ∷ []))

later_few : (o : SetOptions) (n : ℕ) (known : List Wanted) → length (with_later o n known) ≤ length known + 1
later_few o n known = by (nat_eq (length known) n)
  where
    by : (b : Bool) → length (if b then with_one_of o.dl known else known) ≤ length known + 1
    by true = one_few o.dl known
    by false = omega arith

member_needs : (m : Member) → IsMember m → length m.dylink.needed ≤ m.size
member_needs m is = subst (λ n. length m.dylink.needed ≤ n) (sym is.read.size) (needed_few is.bytes m.wasm m.dylink is.read.told is.read.dylink)

more_wanted : (o : SetOptions) (n : ℕ) (known : List Wanted) (ms : List Member) → All IsMember ms → length (wanted_from o n known ms) ≤ length known + length ms + total_size ms
more_wanted o n known [] all = omega arith
more_wanted o n known (m ∷ ms) all =
    let new = with_names n known m.dylink.needed in
    let named = names_few n known m.dylink.needed in
    let later = later_few o (n + 1) new in
    let needs = member_needs m (All-head IsMember m ms all) in
    let more = more_wanted o (n + 1) (with_later o (n + 1) new) ms (All-tail IsMember m ms all) in
    let sum = total_cons m ms in
    omega arith

-- once these members are found, so many names have numbers
wanted_few : (o : SetOptions) (ms : List Member) → All IsMember ms → length (wanted o ms) ≤ 1 + length ms + total_size ms
wanted_few o ms all = more_wanted o 0 _ ms all

-- ---- what is gathered so far

members_read : {First : Lookup} {o : SetOptions} {ms : List Member} → Reaches First o ms → All IsMember ms
members_read start = All-nil IsMember
members_read (next {members} {m} before is) = All-push IsMember members m (members_read before) (record { bytes = is.bytes; read = is.read })

pub names_within : (told : Option FileMap) (o : search.SetOptions) (g : gathered.Progress) → Stands told o g → length g.names ≤ 16777473
names_within told o g s =
    let few = wanted_few (options_of o) (members_of g) (members_read s.reached) in
    let same = ap (λ (ws : List Wanted). length ws) s.known in
    let many = length-map g.members.items member_of in
    omega (arith, s.total, s.few_bytes, s.few)

pub loaded_few : (bytes : List ℕ) (l : Loaded) → Holds bytes (λ wasm. IsModule wasm l) → length l.dylink.needed ≤ length bytes
loaded_few bytes l h = needed_few bytes h.wasm (record_of l.dylink) h.told h.is.dylink
