-- How many paths of the set there are.
use Rattle.std.proofs.Common.{◌≡◌, ◌≢◌, ℕ, zero, suc, ◌+◌, ◌<◌, ◌≤◌, List, [], ◌∷◌, length, refl, sym, ap, ◌∙◌, subst, arith, inl, inr, ◌⊎◌}
use Rattle.std.specs.Prelude.{Some, slice_get}
use Rattle.std.specs.List.{All}
use Rattle.std.proofs.lemmas.List.Elements.{All-head, All-tail}
use Rattle.spec_reading.specs.spec_binary.Exports.{AllDistinct}
use Rattle.dyl_gen.specs.Generated.{file_name, further_name}
use Rattle.dyl_gen.specs.Files.{IsPath}
use Rattle.dyl_gen.proofs.MemberNames.{files_differ, further_differs}

-- a name is among some
pub data Among (name : List ℕ) : List (List ℕ) → Type 0 where
  here : {names : List (List ℕ)} → Among name (name ∷ names)
  later : {x : List ℕ} {names : List (List ℕ)} → Among name names → Among name (x ∷ names)

pub place_among : (names : List (List ℕ)) (i : ℕ) (name : List ℕ) → slice_get names i ≡ Some name → Among name names
place_among [] i name e = absurd cc
place_among (x ∷ names) zero name e = (let same : x ≡ name = cc in subst (λ y. Among name (y ∷ names)) (sym same) here)
place_among (x ∷ names) (suc i) name e = later (place_among names i name e)

pub holds_among : (P : List ℕ → Type 0) {name : List ℕ} {names : List (List ℕ)} → All P names → Among name names → P name
holds_among P {name} all (here {names}) = All-head P name names all
holds_among P all (later {x} {names} a) = holds_among P (All-tail P x names all) a

-- what is left without one of some names
record IsRest (name : List ℕ) (names : List (List ℕ)) : Type 0 where
  rest : List (List ℕ)
  fewer : length names ≡ suc (length rest)
  kept : (other : List ℕ) → other ≢ name → Among other names → Among other rest

rest_of : {name : List ℕ} {names : List (List ℕ)} → Among name names → IsRest name names
rest_of {name} (here {names}) = record { rest = names; fewer = refl; kept = without_first names }
  where
    without_first : (names : List (List ℕ)) (other : List ℕ) → other ≢ name → Among other (name ∷ names) → Among other names
    without_first names other differs here = absurd (differs refl)
    without_first names other differs (later a) = a
rest_of {name} (later {x} {names} a) =
    let r = rest_of a in
    record { rest = x ∷ r.rest; fewer = ap suc r.fewer; kept = with_first x names r.rest r.kept }
  where
    with_first : (x : List ℕ) (names rest : List (List ℕ)) → ((other : List ℕ) → other ≢ name → Among other names → Among other rest)
        → (other : List ℕ) → other ≢ name → Among other (x ∷ names) → Among other (x ∷ rest)
    with_first x names rest kept other differs here = here
    with_first x names rest kept other differs (later b) = later (kept other differs b)

-- distinct names that are all among others are no more than those
no_more : (names others : List (List ℕ)) → AllDistinct names → ((name : List ℕ) → Among name names → Among name others) → length names ≤ length others
no_more [] others d within = omega arith
no_more (x ∷ names) others d within =
    let r = rest_of (within x here) in
    let less = no_more names r.rest d.1 (λ name a. r.kept name (λ e. holds_among (λ y. x ≢ y) d.0 a (sym e)) (within name (later a))) in
    let fewer = r.fewer in
    omega arith

-- the paths of k members, and that of the further file
abbrev all_paths : ℕ → List (List ℕ)
all_paths zero = further_name ∷ []
all_paths (suc k) = file_name k ∷ all_paths k

paths_count : (k : ℕ) → length (all_paths k) ≡ k + 1
paths_count zero = omega arith
paths_count (suc k) = (let count = paths_count k in omega arith)

path_among : (k : ℕ) (path : List ℕ) → IsPath k path → Among path (all_paths k)
path_among zero path (inl e) = subst (λ name. Among name (all_paths 0)) (sym e) here
path_among zero path (inr at) = absurd (let lt = at.1 in omega arith)
path_among (suc k) path (inl e) = later (path_among k path (inl e))
path_among (suc k) path (inr at) = by (last_or_before at.0 k at.1) (λ lt. path_among k path (inr (at.0, lt, at.2)))
  where
    last_or_before : (j k : ℕ) → j < suc k → (j ≡ k) ⊎ (j < k)
    last_or_before j k lt = grind (arith, lt)

    by : (at.0 ≡ k) ⊎ (at.0 < k) → (at.0 < k → Among path (all_paths k)) → Among path (all_paths (suc k))
    by (inl e) before = subst (λ name. Among name (all_paths (suc k))) (sym (at.2 ∙ ap file_name e)) here
    by (inr lt) before = later (before lt)

-- distinct paths of k members and of the further file are at most k + 1
pub paths_few : (k : ℕ) (names : List (List ℕ)) → AllDistinct names → All (IsPath k) names → length names ≤ k + 1
paths_few k names d all =
    let few = no_more names (all_paths k) d (λ name a. path_among k name (holds_among (IsPath k) all a)) in
    omega (arith, paths_count k)

-- names among which all of them are, are at least as many
pub paths_many : (k : ℕ) (names : List (List ℕ)) → k ≤ 255 → ((j : ℕ) → j < k → Among (file_name j) names) → Among further_name names → k + 1 ≤ length names
paths_many zero names range members further = (let r = rest_of further in let fewer = r.fewer in omega arith)
paths_many (suc k) names range members further =
    let r = rest_of (members k (omega arith)) in
    let differs = λ (j : ℕ) (lt : j < k) (e : file_name j ≡ file_name k). (let same = files_differ j k (omega arith) (omega arith) e in let below : ⊥ = omega arith in below) in
    let less = paths_many k r.rest (omega arith) (λ j lt. r.kept (file_name j) (differs j lt) (members j (omega arith))) (r.kept further_name (further_differs k) further) in
    let fewer = r.fewer in
    omega arith
