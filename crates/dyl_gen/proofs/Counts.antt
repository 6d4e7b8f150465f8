-- The set has one member more than was asked for, and there is little of it.
use Rattle.std.proofs.Common.{◌≡◌, ℕ, zero, suc, ◌+◌, ◌*◌, ◌<◌, ◌≤◌, List, [], ◌∷◌, Bool, true, false, cond, length, option_map, Some, refl, ap, ◌∙◌, subst, arith, eqb-true, inl, inr}
use Rattle.std.specs.Prelude.{sum_by, slice_get}
use Rattle.std.specs.List.{All}
use Rattle.std.proofs.Math.Nat.{pow-le-pow_left}
use Rattle.std.proofs.lemmas.List.{length-map}
use Rattle.std.proofs.lemmas.Option.{slice_get-map}
use Rattle.std.proofs.lemmas.List.Sums.{sum_by-le}
use Rattle.std.proofs.lemmas.List.Elements.{All-nil, All-cons, All-head, All-tail}
use Rattle.spec_reading.proofs.of_spec_binary.Lists.{holds_at}
use Rattle.spec_linking.specs.Records.{DylinkRecord}
use Rattle.spec_linking.specs.Sets.{Member, ClosedSet}
use Rattle.spec_linking.specs.Gathering.{IsNumbered, names_of, number_among}
use Rattle.dyl_gen.specs.Generated as made
use Rattle.dyl_gen.specs.Generated.{file_name, further_name, is_last, next}
use Rattle.dyl_gen.specs.Files.{IsPath}
use Rattle.dyl_gen.specs.Laws.{IsSmall}
use Rattle.dyl_gen.proofs.MemberNames.{file_short}
use Rattle.dyl_gen.proofs.Members.{content_path, OfSet, sizes_few, IsOfSet, at_file, named_there}
use Rattle.dyl_gen.proofs.Paths.{Among, place_among, paths_few, paths_many}

-- ---- the members

names_short : (n : ℕ) (members : List Member) → n ≤ 255 → All (OfSet n) members → sum_by (λ (m : Member). length m.name) members ≤ length members * 7
names_short n members range all = sum_by-le (λ (m : Member). length m.name) 7 members (λ i d lt. short _ (content_path (all i d lt).content))
  where
    short : (path : List ℕ) → IsPath n path → length path ≤ 7
    short path (inl e) = (let long = ap (length {A = ℕ}) e in omega arith)
    short path (inr at) = (let long = ap (length {A = ℕ}) at.2 in let few = file_short at.0 (let lt = at.1 in omega arith) in omega arith)

module _ (n : ℕ) (some : 0 < n) (range : n ≤ 255) (S : ClosedSet) (is : IsOfSet n S) where
  abbrev names : List (List ℕ)
  names = names_of S.members

  named : (i : ℕ) (m : Member) → slice_get S.members i ≡ Some m → Among m.name names
  named i m e = place_among names i m.name (slice_get-map (λ (x : Member). x.name) S.members i ∙ ap (option_map (λ (x : Member). x.name)) e)

  -- a member of the set, by the number of its file
  record HasFile (k : ℕ) : Type 0 where
    number : ℕ
    member : Member
    at : slice_get S.members number ≡ Some member
    name : member.name ≡ file_name k

  -- what it needs is there
  needed_there : (k : ℕ) (file : HasFile k) (name : List ℕ) → k < n → (i : ℕ) → slice_get (made.dylink n k).needed i ≡ Some name → (j : ℕ) × (m : Member) × (slice_get S.members j ≡ Some m) × (m.name ≡ name)
  needed_there k file name lt i e =
      let of = at_file range lt file.name (holds_at (OfSet n) S.members file.number file.member is.each file.at).content in
      let needed = ap (λ (d : DylinkRecord). slice_get d.needed i) of.says ∙ e in
      let numbered = holds_at (IsNumbered names) S.members file.number file.member is.shape.numbered file.at in
      let there = named_there S name (holds_at (λ name. number_among names name < length names) file.member.dylink.needed i name numbered.there needed) in
      (number_among names name, there.member, there.at, there.named)

  has_file : (k : ℕ) → k < n → HasFile k
  has_file zero lt = by S.members refl
    where
      by : (ms : List Member) → S.members ≡ ms → HasFile 0
      by [] e = (let some = is.shape.some in let none = ap (length {A = Member}) e in absurd (omega arith))
      by (main ∷ others) e = record { number = 0; member = main; at = ap (λ (ms : List Member). slice_get ms 0) e; name = is.first main others e }
  has_file (suc k) lt =
      let before = has_file k (omega arith) in
      let differs : is_last n k ≡ false = is_false (is_last n k) (λ e. (let same = eqb-true (k + 1) n e in omega arith)) in
      let after : next n k ≡ suc k = ap (λ b. cond b 0 (k + 1)) differs ∙ (let one : k + 1 ≡ suc k = omega arith in one) in
      let found = needed_there k before (file_name (suc k)) (omega arith) 0 (ap (λ j. Some (file_name j)) after) in
      record { number = found.0; member = found.1; at = found.2; name = found.3 }
    where
      is_false : (b : Bool) → (b ≡ true → ⊥) → b ≡ false
      is_false true not_true = absurd (not_true refl)
      is_false false not_true = refl

  pub all_named : (k : ℕ) → k < n → Among (file_name k) names
  all_named k lt = (let file = has_file k lt in subst (λ name. Among name names) file.name (named file.number file.member file.at))

  further_named : Among further_name names
  further_named =
      let found = needed_there 0 (has_file 0 some) further_name some 1 refl in
      subst (λ name. Among name names) found.3 (named found.0 found.1 found.2)

  all_paths : (members : List Member) → All (OfSet n) members → All (IsPath n) (names_of members)
  all_paths [] all = All-nil (IsPath n)
  all_paths (m ∷ ms) all = All-cons (IsPath n) m.name (names_of ms) (content_path (All-head (OfSet n) m ms all).content) (all_paths ms (All-tail (OfSet n) m ms all))

  few_members : length S.members ≡ n + 1 → length S.members ≤ 256
  few_members e = omega arith

  pub is_small : IsSmall (n + 1) S
  is_small =
      let many = paths_many n names range all_named further_named in
      let few = paths_few n names is.shape.distinct (all_paths S.members is.each) in
      let count = length-map S.members (λ (m : Member). m.name) in
      let members : length S.members ≡ n + 1 = omega arith in
      let sizes = sizes_few n S.members is.each in
      let short = names_short n S.members range is.each in
      let squared = pow-le-pow_left (few_members members) 2 in
      record { members = members; little = omega arith }
