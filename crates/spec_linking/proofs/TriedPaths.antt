-- The list of the paths that are tried has each path that is tried, and no other.
use Rattle.std.proofs.Common.{◌≡◌, ℕ, ◌+◌, ◌<◌, List, [], ◌∷◌, ◌++◌, length, Option, Some, None, Result, Err, refl, sym, ap, subst, ◌∙◌, append_assoc, append-nil, length-append, arith, inl, inr}
use Rattle.std.specs.Prelude.{Contains}
use Rattle.std.proofs.lemmas.Bool.{cases_lt}
use Rattle.std.proofs.lemmas.List.Elements.{Contains-append_left, Contains-append_right, Contains-append_cases, Contains-push, Contains-push_cases, All-weaker, All-contains_itself}
use Rattle.std.proofs.lemmas.Option.{slice_get_within}
use Rattle.spec_linking.specs.declared.fault.SetFault.{SetFault}
use Rattle.spec_linking.specs.Sets.{Member, ClosedSet, SetOptions, Files, most_members}
use Rattle.spec_linking.specs.Wanted.{Wanted, wanted}
use Rattle.spec_linking.specs.Paths.{first_file, file_or, unless_file, tried_of, IsTried}
use Rattle.spec_linking.specs.Gathering.{paths_for, next_wanted, first_in, Reaches, start, next, Fails, too_many, missing, too_long, not_decoded, not_recorded, not_valid, Gathered, gathered, failed, tried_for, tried_next, tried_from, tried_last, all_tried, gathers, Tries}
use Rattle.spec_linking.specs.Laws.{OneAnswer, OneRecord, ListsTried}
use Rattle.spec_linking.proofs.OneGathered.{same_members, below_one_more, goes_on, reached, no_next}

abbrev Text : Type 0
Text = List ℕ

nothing_in : {A : Type 0} (x : A) → Contains [] x → ⊥
nothing_in x c = let less = c.1 in omega arith

-- ---- the paths of one name

module _ (files : Files) (path : Text) where
  -- what is listed is tried, where that is so of the paths after the first one
  module _ (p : Text) (ps : List Text) (others : Contains (tried_of files ps) path → IsTried files ps path) where
    here : p ≡ path → IsTried files (p ∷ ps) path
    here same = record { before = []; after = ps; among = ap (λ (x : Text). x ∷ ps) same; absent = refl }

    front : Contains (p ∷ []) path → IsTried files (p ∷ ps) path
    front c = elim (Contains-push_cases [] p path c) [ inl none ↦ absurd (nothing_in path none) | inr same ↦ here same ]

    behind : (f : Option (List ℕ)) → files p ≡ f → Contains (unless_file f (tried_of files ps)) path → IsTried files (p ∷ ps) path
    behind None e c =
        let t = others c in
        record { before = p ∷ t.before; after = t.after; among = ap (λ (l : List Text). p ∷ l) t.among; absent = ap (λ (f : Option (List ℕ)). file_or p f (first_file files t.before)) e ∙ t.absent }
    behind (Some bytes) e c = absurd (nothing_in path c)

    one_tried : Contains (p ∷ unless_file (files p) (tried_of files ps)) path → IsTried files (p ∷ ps) path
    one_tried c = elim (Contains-append_cases (p ∷ []) (unless_file (files p) (tried_of files ps)) path c) [ inl first ↦ front first | inr after ↦ behind (files p) refl after ]

  is_tried : (paths : List Text) → Contains (tried_of files paths) path → IsTried files paths path
  is_tried [] c = absurd (nothing_in path c)
  is_tried (p ∷ ps) c = one_tried p ps (λ others. is_tried ps others) c

  -- what is tried is listed
  after_none : (p : Text) (before : List Text) (listed : List Text) → (first_file files before ≡ None → Contains listed path) → (f : Option (List ℕ)) → file_or p f (first_file files before) ≡ None
      → Contains (p ∷ unless_file f listed) path
  after_none p before listed others None absent = Contains-append_right (p ∷ []) listed path (others absent)
  after_none p before listed others (Some bytes) absent = absurd cc

  is_listed : (before after : List Text) → first_file files before ≡ None → Contains (tried_of files (before ++ path ∷ after)) path
  is_listed [] after absent = Contains-append_left (path ∷ []) (unless_file (files path) (tried_of files after)) path (Contains-push [] path)
  is_listed (p ∷ before) after absent = after_none p before (tried_of files (before ++ path ∷ after)) (λ none. is_listed before after none) (files p) absent

  tried_listed : (paths : List Text) → IsTried files paths path → Contains (tried_of files paths) path
  tried_listed paths t = subst (λ (l : List Text). Contains (tried_of files l) path) (sym t.among) (is_listed t.before t.after t.absent)

-- ---- the paths of one name after another

module _ (files : Files) (o : SetOptions) where
  -- what one member more adds
  longer : (before members : List Member) (m : Member) → tried_from files o before (members ++ m ∷ []) ≡ tried_from files o before members ++ tried_next files o (before ++ members)
  longer before [] m = append-nil (tried_next files o before) ∙ ap (λ (l : List Member). tried_next files o l) (sym (append-nil before))
  longer before (x ∷ xs) m =
      let one : tried_from files o (before ++ x ∷ []) (xs ++ m ∷ []) ≡ tried_from files o (before ++ x ∷ []) xs ++ tried_next files o ((before ++ x ∷ []) ++ xs) = longer (before ++ x ∷ []) xs m in
      let same : (before ++ x ∷ []) ++ xs ≡ before ++ x ∷ xs = append_assoc before (x ∷ []) xs in
      let two = one ∙ ap (λ (l : List Member). tried_from files o (before ++ x ∷ []) xs ++ tried_next files o l) same in
      ap (λ (l : List Text). tried_next files o before ++ l) two ∙ sym (append_assoc (tried_next files o before) (tried_from files o (before ++ x ∷ []) xs) (tried_next files o (before ++ x ∷ xs)))

  module _ (path : Text) where
    next_tries : (members : List Member) (w : Wanted) → Reaches (first_in files) o members → next_wanted o members ≡ Some w → length members < most_members
        → Contains (tried_next files o members) path → Tries files o path
    next_tries members w r at few c = record {
      members = members;
      reached = r;
      asked = w;
      next = at;
      few = few;
      tried = is_tried files path (paths_for o members w) (subst (λ (v : Option Wanted). Contains (tried_for files o members v) path) at c);
    }

    next_listed : (members : List Member) (w : Wanted) → next_wanted o members ≡ Some w → IsTried files (paths_for o members w) path → Contains (tried_next files o members) path
    next_listed members w at t = subst (λ (v : Option Wanted). Contains (tried_for files o members v) path) (sym at) (tried_listed files path (paths_for o members w) t)

    -- what is listed is tried
    earlier_tries : {members : List Member} → Reaches (first_in files) o members → Contains (tried_from files o [] members) path → Tries files o path
    earlier_tries start c = absurd (nothing_in path c)
    earlier_tries (next {members} {m} r is) c = elim (Contains-append_cases (tried_from files o [] members) (tried_next files o members) path (subst (λ (l : List Text). Contains l path) (longer [] members m) c)) [
      | inl before ↦ earlier_tries r before
      | inr here ↦ let s = is.fetched.found in next_tries members is.asked r s.next s.few here
    ]

    last_tries : (members : List Member) → Reaches (first_in files) o members → (why : SetFault) → Fails (first_in files) o members why → Contains (tried_last files o members (Err why)) path → Tries files o path
    last_tries members r _ (too_many full more) c = absurd (nothing_in path c)
    last_tries members r _ (missing {w} s) c = next_tries members w r s.next s.few c
    last_tries members r _ (too_long {w} s long) c = next_tries members w r s.next s.few c
    last_tries members r _ (not_decoded {w} f a) c = next_tries members w r f.found.next f.found.few c
    last_tries members r _ (not_recorded {w} f a b) c = next_tries members w r f.found.next f.found.few c
    last_tries members r _ (not_valid {w} f a b v) c = next_tries members w r f.found.next f.found.few c

    all_tries : (members : List Member) (answer : Result ClosedSet SetFault) → Gathered (first_in files) o members answer → Contains (all_tried files o members answer) path → Tries files o path
    all_tries members _ (gathered r all) c = elim (Contains-append_cases (tried_from files o [] members) [] path c) [ inl before ↦ earlier_tries r before | inr none ↦ absurd (nothing_in path none) ]
    all_tries members _ (failed {why} r f) c = elim (Contains-append_cases (tried_from files o [] members) (tried_last files o members (Err why)) path c) [
      | inl before ↦ earlier_tries r before
      | inr last ↦ last_tries members r why f last
    ]

    -- ---- what is tried is listed

    module _ (t : Tries files o path) where
      here_listed : (members : List Member) → t.members ≡ members → Contains (tried_next files o members) path
      here_listed members same = next_listed members t.asked (subst (λ (l : List Member). next_wanted o l ≡ Some t.asked) same t.next) (subst (λ (l : List Member). IsTried files (paths_for o l t.asked) path) same t.tried)

      last_listed : (members : List Member) → t.members ≡ members → (why : SetFault) → Fails (first_in files) o members why → Contains (tried_last files o members (Err why)) path
      last_listed members same _ (too_many full more) = absurd (let few = t.few in let as_many : length t.members ≡ length members = ap (λ (l : List Member). length l) same in omega arith)
      last_listed members same _ (missing s) = here_listed members same
      last_listed members same _ (too_long s long) = here_listed members same
      last_listed members same _ (not_decoded f a) = here_listed members same
      last_listed members same _ (not_recorded f a b) = here_listed members same
      last_listed members same _ (not_valid f a b v) = here_listed members same

      module _ (A : OneAnswer) (R : OneRecord) where
        earlier_listed : {others : List Member} → Reaches (first_in files) o others → length t.members < length others → Contains (tried_from files o [] others) path
        earlier_listed start less = absurd (omega arith)
        earlier_listed (next {members} {m} r is) less =
            let few : length t.members < length members + 1 = (let more = length-append members (m ∷ []) in omega arith) in
            subst (λ (l : List Text). Contains l path) (sym (longer [] members m)) (elim (below_one_more A R files o (length t.members) (length members) few) [
              | inl e ↦ Contains-append_right (tried_from files o [] members) (tried_next files o members) path (here_listed members (same_members A R files o t.reached r e))
              | inr less ↦ Contains-append_left (tried_from files o [] members) (tried_next files o members) path (earlier_listed r less)
            ])

        at_last : (members : List Member) (answer : Result ClosedSet SetFault) → Gathered (first_in files) o members answer → t.members ≡ members → Contains (all_tried files o members answer) path
        at_last members _ (gathered r all) same =
            let within : length t.members < length (wanted o t.members) = slice_get_within (wanted o t.members) (length t.members) t.asked t.next in
            let more : length members < length (wanted o members) = subst (λ (l : List Member). length l < length (wanted o l)) same within in
            absurd (omega arith)
        at_last members _ (failed {why} r f) same = Contains-append_right (tried_from files o [] members) (tried_last files o members (Err why)) path (last_listed members same why f)

        all_listed : (members : List Member) (answer : Result ClosedSet SetFault) → Gathered (first_in files) o members answer → Contains (all_tried files o members answer) path
        all_listed members answer g = elim (cases_lt (length t.members) (length members)) [
          | inl less ↦ Contains-append_left (tried_from files o [] members) (tried_last files o members answer) path (earlier_listed (reached A R files o g) less)
          | inr not_less ↦ elim (cases_lt (length members) (length t.members)) [
            | inl less ↦ absurd (let more = goes_on A R files o t.reached (reached A R files o g) less in no_next A R files o g more.1)
            | inr also ↦ at_last members answer g (same_members A R files o t.reached (reached A R files o g) (omega arith))
          ]
        ]

pub lists_tried : ListsTried
lists_tried A R files o tried answer (gathers {members} g) = record {
  each = All-weaker (Contains (all_tried files o members answer)) (Tries files o) (λ path c. all_tries files o path members answer g c) (all_tried files o members answer) (All-contains_itself (all_tried files o members answer));
  all = λ path t. all_listed files o path t A R members answer g;
}
