-- Members of the set, by what they are read from.
use Rattle.std.proofs.Common.{◌≡◌, ℕ, ◌*◌, ◌<◌, ◌≤◌, Bool, true, false, cond, List, [], ◌∷◌, length, option_map, get_or, Some, refl, sym, ap, ◌∙◌, subst, arith, inl, inr, bytes_eq}
use Rattle.std.specs.Prelude.{slice_get}
use Rattle.std.specs.List.{All}
use Rattle.std.proofs.lemmas.List.{length-map}
use Rattle.std.proofs.lemmas.List.Elements.{All-nil, All-cons}
use Rattle.std.proofs.lemmas.List.Sums.{sum_by-le, passes_at_first}
use Rattle.std.proofs.lemmas.Option.{slice_get-map, get_or_from_slice_get}
use Rattle.std.proofs.lemmas.Slice.Eq.{bytes_eq-Decides}
use Rattle.wasm_form.specs.declared.module.Module.{Module}
use Rattle.spec_reading.proofs.of_spec_binary.Lists.{got}
use Rattle.spec_linking.specs.Records.{DylinkRecord}
use Rattle.spec_linking.specs.Sets.{Member, ClosedSet}
use Rattle.spec_linking.specs.Gathering.{IsSet, names_of, number_among, total_size}
use Rattle.dyl_section.specs.Recorded.{record_of}
use Rattle.dyl_gen.specs.Generated as made
use Rattle.dyl_gen.specs.Generated.{file_name, further_name}
use Rattle.dyl_gen.specs.Files.{IsPath}
use Rattle.dyl_gen.proofs.MemberNames.{files_differ, further_differs}
use Rattle.dyl_gen.proofs.Records.{next_below}

-- the module and the record of what is at a path
pub data IsContent (n : ℕ) (path : List ℕ) (wasm : Module) (d : DylinkRecord) : Type 0 where
  of_member : (k : ℕ) → k < n → path ≡ file_name k → (note : List ℕ) → wasm ≡ made.member n k note → d ≡ record_of (made.dylink n k) → IsContent n path wasm d
  of_further : path ≡ further_name → (note : List ℕ) → wasm ≡ made.further note → d ≡ record_of made.no_dylink → IsContent n path wasm d

-- a member is of the set: it has the name of one of its files, and is read from it
pub record OfSet (n : ℕ) (m : Member) : Type 0 where
  pub content : IsContent n m.name m.wasm m.dylink
  pub few : m.size ≤ 8192

pub sizes_few : (n : ℕ) (members : List Member) → All (OfSet n) members → total_size members ≤ length members * 8192
sizes_few n members all = sum_by-le (λ (m : Member). m.size) 8192 members (λ i d lt. (all i d lt).few)

-- the members of a set are of the set, and its first one is the main module
pub record IsOfSet (n : ℕ) (S : ClosedSet) : Type 0 where
  pub shape : IsSet S
  pub each : All (OfSet n) S.members
  pub first : (m : Member) (ms : List Member) → S.members ≡ m ∷ ms → m.name ≡ file_name 0

-- ---- what is at a path

pub content_path : {n : ℕ} {path : List ℕ} {wasm : Module} {d : DylinkRecord} → IsContent n path wasm d → IsPath n path
content_path (of_member k lt at note is e) = inr (k, lt, at)
content_path (of_further at note is e) = inl at

-- what a member of the set needs are paths of the set, and it gives no paths to search
pub content_needs : {n : ℕ} {path : List ℕ} {wasm : Module} {d : DylinkRecord} → IsContent n path wasm d → All (IsPath n) d.needed
content_needs {n} (of_member k lt at note is e) =
    subst (λ (d : DylinkRecord). All (IsPath n) d.needed) (sym e)
    (All-cons (IsPath n) (file_name (made.next n k)) (made.main_alone k (further_name ∷ [])) (inr (made.next n k, next_below n k lt, refl)) (by (made.is_main k)))
  where
    by : (b : Bool) → All (IsPath n) (cond b (further_name ∷ []) [])
    by true = All-cons (IsPath n) further_name [] (inl refl) (All-nil (IsPath n))
    by false = All-nil (IsPath n)
content_needs {n} (of_further at note is e) = subst (λ (d : DylinkRecord). All (IsPath n) d.needed) (sym e) (All-nil (IsPath n))

pub content_paths : {n : ℕ} {path : List ℕ} {wasm : Module} {d : DylinkRecord} → IsContent n path wasm d → d.paths ≡ []
content_paths (of_member k lt at note is e) = ap (λ (d : DylinkRecord). d.paths) e
content_paths (of_further at note is e) = ap (λ (d : DylinkRecord). d.paths) e

-- what is read from the file of member k
pub record IsMemberOf (n k : ℕ) (wasm : Module) (d : DylinkRecord) : Type 0 where
  pub note : List ℕ
  pub is : wasm ≡ made.member n k note
  pub says : d ≡ record_of (made.dylink n k)

pub at_file : {n k : ℕ} {path : List ℕ} {wasm : Module} {d : DylinkRecord} → n ≤ 255 → k < n → path ≡ file_name k → IsContent n path wasm d → IsMemberOf n k wasm d
at_file {n} {k} {path} {wasm} {d} range lt here (of_member j lj at note is e) =
    subst (λ i. IsMemberOf n i wasm d) (files_differ j k (omega arith) (omega arith) (sym at ∙ here)) (record { note = note; is = is; says = e })
at_file {n} {k} range lt here (of_further at note is e) = absurd (further_differs k (sym at ∙ here))

-- ---- members by their names

pub record IsThere (S : ClosedSet) (i : ℕ) (name : List ℕ) : Type 0 where
  pub member : Member
  pub at : slice_get S.members i ≡ Some member
  pub named : member.name ≡ name

pub named_there : (S : ClosedSet) (name : List ℕ) → number_among (names_of S.members) name < length (names_of S.members) → IsThere S (number_among (names_of S.members) name) name
named_there S name lt =
    let i = number_among (names_of S.members) name in
    let count = length-map S.members (λ (m : Member). m.name) in
    let found = got S.members i (omega arith) in
    let named = slice_get-map (λ (m : Member). m.name) S.members i ∙ ap (option_map (λ (m : Member). m.name)) found.1 in
    let passes = passes_at_first (bytes_eq name) (names_of S.members) [] lt in
    let same = (bytes_eq-Decides name (get_or (names_of S.members) i [])).0 passes in
    record { member = found.0; at = found.1; named = sym (same ∙ get_or_from_slice_get (names_of S.members) i found.0.name [] named) }
