-- What is gathered from the files of the set: no fault, and members of the set.
use Rattle.std.proofs.Common.{◌≡◌, ◌≢◌, ℕ, ◌+◌, ◌-◌, ◌<◌, ◌≤◌, List, [], ◌∷◌, ◌++◌, Bool, true, false, cond, length, length-append, get_or, true≢false, map, Option, Some, None, Result, Ok, Err, refl, sym, ap, ◌∙◌, subst, arith, inl, inr, nat_eq}
use Rattle.std.specs.Prelude.{codes, IsSomeAnd}
use Rattle.std.specs.List.{All}
use Rattle.std.specs.FinMap.{get}
use Rattle.std.proofs.lemmas.List.Elements.{All-nil, All-map, All-cons, All-push, All-head, All-tail}
use Rattle.std.proofs.lemmas.List.{length-map, map-append}
use Rattle.std.proofs.lemmas.List.Sums.{fails_before_first}
use Rattle.std.proofs.lemmas.Slice.Eq.{bytes_eq-Decides}
use Rattle.wasm_form.specs.declared.module.Module.{Module}
use Rattle.spec_reading.specs.spec_binary.BodyLimits.{IsWithinLimits}
use Rattle.spec_reading.specs.spec_binary.DecodeAnswers.{DecodeAnswer, spelled}
use Rattle.spec_reading.specs.spec_binary.declared.fault.DecodeFault.{DecodeFault}
use Rattle.spec_reading.specs.spec_binary.Exports.{AllDistinct}
use Rattle.spec_reading.proofs.of_spec_binary.Lists.{holds_at, got as at_place}
use Rattle.spec_reading.proofs.OneAnswer.{answers}
use Rattle.spec_linking.specs.spec_validation.Faults.{fault}
use Rattle.spec_linking.specs.declared.fault.RecordFault.{RecordFault}
use Rattle.spec_linking.specs.declared.fault.SetFault.{SetFault}
use Rattle.spec_linking.specs.Records.{DylinkRecord, HasRecord, RecordAnswer, recorded}
use Rattle.spec_linking.specs.Sets.{Member, ClosedSet}
use Rattle.spec_linking.specs.Wanted.{Wanted, is_named, number_of, has_number, with_name, with_names, with_later, wanted}
use Rattle.spec_linking.specs.Paths.{has_slash, first_file, file_or}
use Rattle.spec_linking.specs.Gathering.{first_in, paths_from, paths_for, next_wanted, IsNext, Reaches, start, next, Fails, too_many, missing, too_long, not_decoded, not_recorded, not_valid, Gathered, gathered, failed, Gathers, gathers, IsGathered}
use Rattle.spec_linking.proofs.Numbering.{wanted_push}
use Rattle.spec_linking.proofs.ReachedSets.{is_set}
use Rattle.dyl_section.proofs.RecordLaws.{one_answer}
use Rattle.dyl_section.specs.Recorded.{record_of}
use Rattle.dyl_outside.specs.FileMap.{FileMap}
use Rattle.dyl_gen.specs.Generated as made
use Rattle.dyl_gen.specs.Generated.{file_name, further_name}
use Rattle.dyl_gen.specs.Laws.{set_options}
use Rattle.dyl_gen.specs.Files.{IsMemberFile, IsFurtherFile, IsPath, AreGenerated}
use Rattle.dyl_gen.proofs.Formed.{member_formed, further_formed, member_limits}
use Rattle.dyl_gen.proofs.Valid.{member_valid, further_valid}
use Rattle.dyl_gen.proofs.Members.{IsContent, of_member, of_further, content_needs, content_paths, OfSet, sizes_few, IsOfSet}
use Rattle.dyl_gen.proofs.Paths.{paths_few}

-- ---- what is read of a file

-- bytes that spell a valid module with a record, and that are few
pub record IsReading (bytes : List ℕ) (wasm : Module) (d : DylinkRecord) : Type 0 where
  told : DecodeAnswer bytes (Ok wasm)
  valid : fault wasm ≡ None
  has : HasRecord wasm d
  few : length bytes ≤ 8192

one_decoded : {bytes : List ℕ} {wasm : Module} {d : DylinkRecord} (r : Result Module DecodeFault) → IsReading bytes wasm d → DecodeAnswer bytes r → r ≡ Ok wasm
one_decoded {bytes} {wasm} r is told = (answers bytes).1 r told ∙ sym ((answers bytes).1 (Ok wasm) is.told)

one_record : {bytes : List ℕ} {wasm : Module} {d : DylinkRecord} (r : Result DylinkRecord RecordFault) → IsReading bytes wasm d → RecordAnswer wasm r → r ≡ Ok d
one_record {wasm} {d} r is told = one_answer wasm r (Ok d) told (recorded is.has)

member_read : (n k : ℕ) (bytes : List ℕ) → k < n → n ≤ 255 → (is : IsMemberFile n k bytes) → IsReading bytes (made.member n k is.note) (record_of (made.dylink n k))
member_read n k bytes lt few is = record {
  told = spelled is.spelled.spelled (member_limits n k) (member_formed n k is.note lt few).counts;
  valid = member_valid n k is.note;
  has = is.recorded;
  few = is.few;
}

further_read : (bytes : List ℕ) (is : IsFurtherFile bytes) → IsReading bytes (made.further is.note) (record_of made.no_dylink)
further_read bytes is = record {
  told = spelled is.spelled.spelled (All-nil IsWithinLimits) (further_formed is.note).counts;
  valid = further_valid is.note;
  has = is.recorded;
  few = is.few;
}

-- ---- what is in an answer, if there is something

abbrev taken : {A E : Type 0} → A → Result A E → A
taken other (Ok x) = x
taken other (Err why) = other

abbrev bytes_in : List ℕ → Option (List ℕ × List ℕ) → List ℕ
bytes_in other None = other
bytes_in other (Some file) = file.1

-- ---- names that have numbers

abbrev texts : List Wanted → List (List ℕ)
texts ws = map (λ w. w.name) ws

-- a name that has no number is none of those
apart : (known : List Wanted) (name : List ℕ) → has_number name known ≡ false → All (λ x. x ≢ name) (texts known)
apart known name e = All-map (λ x. x ≢ name) (λ (w : Wanted). w.name) known (λ i d lt same. (
    let past : length known ≤ number_of known name = grind (arith, e) in
    let fails = fails_before_first (is_named name) known i d (omega arith) in
    let here = (bytes_eq-Decides name (get_or known i d).name).1 (sym same) in
    absurd (true≢false (sym here ∙ fails))))

distinct_push : (names : List (List ℕ)) (name : List ℕ) → AllDistinct names → All (λ x. x ≢ name) names → AllDistinct (names ++ name ∷ [])
distinct_push [] name d other = (All-nil (λ y. name ≢ y), tt)
distinct_push (x ∷ xs) name d other =
    (All-push (λ y. x ≢ y) xs name d.0 (All-head (λ y. y ≢ name) x xs other), distinct_push xs name d.1 (All-tail (λ y. y ≢ name) x xs other))

name_distinct : (m : ℕ) (known : List Wanted) (name : List ℕ) → AllDistinct (texts known) → AllDistinct (texts (with_name m known name))
name_distinct m known name d = by (has_number name known) refl
  where
    by : (b : Bool) → has_number name known ≡ b → AllDistinct (texts (cond b known (known ++ record { name = name; needed_by = m } ∷ [])))
    by true e = d
    by false e = subst AllDistinct (sym (map-append (λ (w : Wanted). w.name) known (record { name = name; needed_by = m } ∷ []))) (distinct_push (texts known) name d (apart known name e))

names_distinct : (m : ℕ) (known : List Wanted) (names : List (List ℕ)) → AllDistinct (texts known) → AllDistinct (texts (with_names m known names))
names_distinct m known [] d = d
names_distinct m known (x ∷ xs) d = names_distinct m (with_name m known x) xs (name_distinct m known x d)

module _ (n : ℕ) (files : FileMap) (some : 0 < n) (range : n ≤ 255) (all : AreGenerated n files) where
  abbrev F : List ℕ → Option (List ℕ)
  F = get files

  -- ---- what there is at a path

  record IsThere (path : List ℕ) : Type 0 where
    bytes : List ℕ
    at : F path ≡ Some bytes
    wasm : Module
    d : DylinkRecord
    reading : IsReading bytes wasm d
    content : IsContent n path wasm d

  of_some : (o : Option (List ℕ)) (P : List ℕ → Type 0) → IsSomeAnd o P → (x : List ℕ) × (o ≡ Some x) × P x
  of_some None P is = absurd is
  of_some (Some x) P is = (x, refl, is)

  there : (path : List ℕ) → IsPath n path → IsThere path
  there path (inl e) =
      let found = of_some (F further_name) IsFurtherFile all.further in
      record { bytes = found.0; at = ap F e ∙ found.1; wasm = made.further found.2.note; d = record_of made.no_dylink; reading = further_read found.0 found.2; content = of_further e found.2.note refl refl }
  there path (inr at) =
      let found = of_some (F (file_name at.0)) (IsMemberFile n at.0) (all.members at.0 at.1) in
      record { bytes = found.0; at = ap F at.2 ∙ found.1; wasm = made.member n at.0 found.2.note; d = record_of (made.dylink n at.0); reading = member_read n at.0 found.0 at.1 range found.2; content = of_member at.0 at.1 at.2 found.2.note refl refl }

  -- ---- what is searched

  -- a name that is a path of the set, and that one of so many members needs; or the first one
  abbrev IsGood : ℕ → Wanted → Type 0
  IsGood count w = IsPath n w.name × (w.needed_by ≤ count - 1)

  -- Of members that are found: they are of the set, the first is the main module, and the names that have numbers differ and are paths of the set.
  record IsFound (members : List Member) : Type 0 where
    each : All (OfSet n) members
    good : All (IsGood (length members)) (wanted set_options members)
    distinct : AllDistinct (texts (wanted set_options members))
    first : (m : Member) (ms : List Member) → members ≡ m ∷ ms → m.name ≡ file_name 0

  got : (members : List Member) → IsFound members → (w : Wanted) → next_wanted set_options members ≡ Some w → IsGood (length members) w
  got members is w e = holds_at (IsGood (length members)) (wanted set_options members) (length members) w is.good e

  -- a name is searched at the path that it is
  searched : (name : List ℕ) (m : Member) → m.dylink.paths ≡ [] → paths_from set_options name (Some m) ≡ name ∷ []
  searched name m none = rw none (either (has_slash name))
    where
      either : (b : Bool) → cond b (name ∷ []) (name ∷ []) ≡ name ∷ []
      either true = refl
      either false = refl

  alone : (members : List Member) (w : Wanted) → All (OfSet n) members → (members ≡ [] → w.name ≡ codes "m0.wasm") → w.needed_by ≤ length members - 1
      → paths_for set_options members w ≡ w.name ∷ []
  alone [] w each main below = ap (λ (p : List ℕ). p ∷ []) (sym (main refl))
  alone (x ∷ xs) w each main below =
      let found = at_place (x ∷ xs) w.needed_by (omega arith) in
      ap (paths_from set_options w.name) found.1 ∙ searched w.name found.0 (content_paths (holds_at (OfSet n) (x ∷ xs) w.needed_by found.0 each found.1).content)

  main_asked : (w : Wanted) → next_wanted set_options [] ≡ Some w → w.name ≡ codes "m0.wasm"
  main_asked w e = (let same : record { name = codes "m0.wasm"; needed_by = 0 } ≡ w = cc in ap (λ (x : Wanted). x.name) (sym same))

  record IsSought (w : Wanted) (found : Option (List ℕ × List ℕ)) : Type 0 where
    here : IsThere w.name
    is : found ≡ Some (w.name, here.bytes)

  sought : (members : List Member) → IsFound members → (w : Wanted) → next_wanted set_options members ≡ Some w
      → (found : Option (List ℕ × List ℕ)) → first_file F (paths_for set_options members w) ≡ found → IsSought w found
  sought members is w e found at =
      let good = got members is w e in
      let path = alone members w is.each (λ none. main_asked w (subst (λ ms. next_wanted set_options ms ≡ Some w) none e)) good.1 in
      let here = there w.name good.0 in
      record { here = here; is = sym at ∙ ap (first_file F) path ∙ ap (λ o. file_or w.name o None) here.at }

  -- ---- one more member

  content_of : (path bytes : List ℕ) (here : IsThere path) → here.bytes ≡ bytes → (m : Member) → m.name ≡ path → DecodeAnswer bytes (Ok m.wasm) → HasRecord m.wasm m.dylink
      → m.size ≡ length bytes → OfSet n m
  content_of path bytes here same m named told has size =
      let wasm = ap (taken m.wasm) (one_decoded (Ok m.wasm) here.reading (subst (λ b. DecodeAnswer b (Ok m.wasm)) (sym same) told)) in
      let d = ap (taken m.dylink) (one_record (Ok m.dylink) here.reading (recorded (subst (λ x. HasRecord x m.dylink) wasm has))) in
      let few = here.reading.few in
      let sizes = ap (length {A = ℕ}) same in
      record {
        content = subst (λ p. IsContent n p m.wasm m.dylink) (sym named) (subst (λ x. IsContent n path x m.dylink) (sym wasm) (subst (λ x. IsContent n path here.wasm x) (sym d) here.content));
        few = omega arith;
      }

  name_good : (Q : Wanted → Type 0) (m : ℕ) (known : List Wanted) (name : List ℕ) → All Q known → Q (record { name = name; needed_by = m }) → All Q (with_name m known name)
  name_good Q m known name all new = by (has_number name known)
    where
      by : (b : Bool) → All Q (cond b known (known ++ record { name = name; needed_by = m } ∷ []))
      by true = all
      by false = All-push Q known (record { name = name; needed_by = m }) all new

  names_good : (Q : Wanted → Type 0) (m : ℕ) (known : List Wanted) (names : List (List ℕ)) → All Q known → All (λ name. Q (record { name = name; needed_by = m })) names → All Q (with_names m known names)
  names_good Q m known [] all new = all
  names_good Q m known (x ∷ xs) all new =
      names_good Q m (with_name m known x) xs (name_good Q m known x all (All-head (λ name. Q (record { name = name; needed_by = m })) x xs new))
      (All-tail (λ name. Q (record { name = name; needed_by = m })) x xs new)

  later_good : (R : List Wanted → Type 0) (count : ℕ) (known : List Wanted) → R known → R (with_later set_options count known)
  later_good R count known all = by (nat_eq (length known) count)
    where
      by : (b : Bool) → R (cond b known known)
      by true = all
      by false = all

  first_of : (members : List Member) → IsFound members → (m : Member) → (members ≡ [] → m.name ≡ file_name 0) → (x : Member) (ms : List Member) → members ++ m ∷ [] ≡ x ∷ ms → x.name ≡ file_name 0
  first_of [] is m main x ms e = (let same : m ≡ x = cc in ap (λ (y : Member). y.name) (sym same) ∙ main refl)
  first_of (y ∷ ys) is m main x ms e = (let same : y ≡ x = cc in ap (λ (z : Member). z.name) (sym same) ∙ is.first y ys refl)

  more : (members : List Member) (m : Member) → IsFound members → IsNext (first_in F) set_options members m → IsFound (members ++ m ∷ [])
  more members m is new =
      let found = sought members is new.asked new.fetched.found.next (Some (m.path, new.bytes)) new.fetched.found.first in
      let same = ap (bytes_in new.bytes) found.is in
      let of = content_of new.asked.name new.bytes found.here (sym same) m new.name new.read.told new.read.dylink new.read.size in
      let count : length (members ++ m ∷ []) ≡ length members + 1 = length-append members (m ∷ []) in
      let Q : Wanted → Type 0 = IsGood (length members + 1) in
      let old : All Q (wanted set_options members) = λ k d l. (let here = is.good k d l in (here.0, (let below = here.1 in omega arith))) in
      let needed : All (λ name. Q (record { name = name; needed_by = length members })) m.dylink.needed = λ k d l. (content_needs of.content k d l, omega arith) in
      let now = later_good (All Q) (length members + 1) (with_names (length members) (wanted set_options members) m.dylink.needed) (names_good Q (length members) (wanted set_options members) m.dylink.needed old needed) in
      record {
        each = All-push (OfSet n) members m is.each of;
        distinct = subst (λ ws. AllDistinct (texts ws)) (sym (wanted_push set_options members m)) (later_good (λ ws. AllDistinct (texts ws)) (length members + 1) (with_names (length members) (wanted set_options members) m.dylink.needed) (names_distinct (length members) (wanted set_options members) m.dylink.needed is.distinct));
        good = subst (λ c. All (IsGood c) (wanted set_options (members ++ m ∷ []))) (sym count) (subst (All Q) (sym (wanted_push set_options members m)) now);
        first = first_of members is m (λ none. new.name ∙ main_asked new.asked (subst (λ ms. next_wanted set_options ms ≡ Some new.asked) none new.fetched.found.next));
      }

  found : {members : List Member} → Reaches (first_in F) set_options members → IsFound members
  found start = record {
    each = All-nil (OfSet n);
    good = All-cons (IsGood 0) (record { name = codes "m0.wasm"; needed_by = 0 }) [] (inr (0, some, refl), omega arith) (All-nil (IsGood 0));
    distinct = (All-nil (λ y. _), tt);
    first = λ m ms e. absurd cc;
  }
  found (next {members} {m} r new) = more members m (found r) new

  -- ---- no fault

  names_all : (count : ℕ) (ws : List Wanted) → All (IsGood count) ws → All (IsPath n) (map (λ (w : Wanted). w.name) ws)
  names_all count [] all = All-nil (IsPath n)
  names_all count (w ∷ ws) all =
      All-cons (IsPath n) w.name (map (λ (x : Wanted). x.name) ws) (All-head (IsGood count) w ws all).0 (names_all count ws (All-tail (IsGood count) w ws all))

  few_wanted : {members : List Member} → Reaches (first_in F) set_options members → length (wanted set_options members) ≤ n + 1
  few_wanted {members} r =
      let names = map (λ (w : Wanted). w.name) (wanted set_options members) in
      let few = paths_few n names (found r).distinct (names_all (length members) (wanted set_options members) (found r).good) in
      omega (arith, length-map (wanted set_options members) (λ (w : Wanted). w.name))

  no_fault : {members : List Member} {why : SetFault} → Reaches (first_in F) set_options members → Fails (first_in F) set_options members why → ⊥
  no_fault r (too_many e lt) = (let few = few_wanted r in omega arith)
  no_fault {members} r (missing {w} s) = (let at = (sought members (found r) w s.next None s.first).is in absurd cc)
  no_fault {members} r (too_long {w} {path} {bytes} s long) =
      let at = sought members (found r) w s.next (Some (path, bytes)) s.first in
      let same = ap (length {A = ℕ}) (ap (bytes_in bytes) at.is) in
      let few = at.here.reading.few in
      let sizes = sizes_few n members (found r).each in
      let count = s.few in
      omega arith
  no_fault {members} r (not_decoded {w} {path} {bytes} {why} f told) =
      let at = sought members (found r) w f.found.next (Some (path, bytes)) f.found.first in
      let same = ap (bytes_in bytes) at.is in
      let one = one_decoded (Err why) at.here.reading (subst (λ b. DecodeAnswer b (Err why)) same told) in
      absurd cc
  no_fault {members} r (not_recorded {w} {path} {bytes} {wasm} {why} f told unrecorded) =
      let at = sought members (found r) w f.found.next (Some (path, bytes)) f.found.first in
      let same = ap (bytes_in bytes) at.is in
      let one = ap (taken wasm) (one_decoded (Ok wasm) at.here.reading (subst (λ b. DecodeAnswer b (Ok wasm)) same told)) in
      let two = one_record (Err why) at.here.reading (subst (λ m. RecordAnswer m (Err why)) one unrecorded) in
      absurd cc
  no_fault {members} r (not_valid {w} {path} {bytes} {wasm} {dylink} {why} f told has invalid) =
      let at = sought members (found r) w f.found.next (Some (path, bytes)) f.found.first in
      let same = ap (bytes_in bytes) at.is in
      let one = ap (taken wasm) (one_decoded (Ok wasm) at.here.reading (subst (λ b. DecodeAnswer b (Ok wasm)) same told)) in
      let valid = at.here.reading.valid in
      let both = ap fault one in
      absurd cc

  failed_never : {members : List Member} {why : SetFault} → Gathered (first_in F) set_options members (Err why) → ⊥
  failed_never (failed r f) = no_fault r f

  gathers_never : {tried : List (List ℕ)} {answer : Result ClosedSet SetFault} → Gathers F set_options tried answer → (why : SetFault) → answer ≡ Err why → ⊥
  gathers_never (gathers {members} g) why e = failed_never (subst (Gathered (first_in F) set_options members) e g)

  pub never_refused : (why : SetFault) → IsGathered F set_options (Err why) → ⊥
  never_refused why is = gathers_never is.gathers why refl

  -- ---- the set

  gathered_set : {members : List Member} {S : ClosedSet} → Gathered (first_in F) set_options members (Ok S) → IsOfSet n S
  gathered_set {members} (gathered r few) = record { shape = is_set (first_in F) set_options members r few; each = (found r).each; first = (found r).first }

  of_gathers : {tried : List (List ℕ)} {answer : Result ClosedSet SetFault} → Gathers F set_options tried answer → (S : ClosedSet) → answer ≡ Ok S → IsOfSet n S
  of_gathers (gathers {members} g) S e = gathered_set (subst (Gathered (first_in F) set_options members) e g)

  pub is_of_set : (S : ClosedSet) → IsGathered F set_options (Ok S) → IsOfSet n S
  is_of_set S is = of_gathers is.gathers S refl
