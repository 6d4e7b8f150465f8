-- The members that may be promoted are members of the set, and those of them that are promoted count no more than the promoted members.
use Rattle.std.proofs.Common.{◌≡◌, ℕ, zero, suc, ◌+◌, ◌*◌, ◌<◌, ◌≤◌, Bool, true, false, ◌||◌, List, [], ◌∷◌, length, nat_eq, cond, refl, ap, arith}
use Rattle.std.specs.Prelude.{not}
use Rattle.std.specs.List.{All, filter, range_with_len}
use Rattle.std.proofs.Math.Nat.{mul-le-mul_right}
use Rattle.std.proofs.lemmas.Bool.Decides.{nat_tests}
use Rattle.std.proofs.lemmas.List.FromFn.{length-range_with_len}
use Rattle.std.proofs.lemmas.List.Elements.{All-nil, All-cons, All-filter}
use Rattle.spec_loading.specs.spec_linking.Sets.{ClosedSet}
use Rattle.spec_loading.specs.spec_linking.Orders.{is_among}
use Rattle.merge_dl.specs.Words.{candidates}

module _ (S : ClosedSet) where
  abbrev IsInside : ℕ → Type 0
  IsInside k = k < length S.members

  range_inside : (start count : ℕ) → start + count ≤ length S.members → All IsInside (range_with_len start count)
  range_inside start zero le = All-nil IsInside
  range_inside start (suc count) le =
      All-cons IsInside start (range_with_len (start + 1) count) (omega (arith, le)) (range_inside (start + 1) count (omega (arith, le)))

  pub candidates_inside : All IsInside (candidates S)
  candidates_inside =
      All-filter (λ k. not (is_among k S.startup)) IsInside (range_with_len 0 (length S.members)) (range_inside 0 (length S.members) (omega arith))

-- ---- how many there are

-- of numbers that count so much each
module _ (weight : ℕ → ℕ) where
  abbrev pub total : List ℕ → ℕ
  total [] = 0
  total (k ∷ ks) = weight k + total ks

  -- how much those of them count that are promoted
  abbrev pub among : List ℕ → List ℕ → ℕ
  among ps [] = 0
  among ps (k ∷ ks) = cond (is_among k ps) (weight k) 0 + among ps ks

equal : {q k : ℕ} → nat_eq q k ≡ true → q ≡ k
equal e = grind (arith, nat_tests)

-- how often a number is among these
abbrev times : ℕ → List ℕ → ℕ
times q [] = 0
times q (k ∷ ks) = cond (nat_eq q k) 1 0 + times q ks

module _ (weight : ℕ → ℕ) where
  among_none : (ks : List ℕ) → among weight [] ks ≡ 0
  among_none [] = refl
  among_none (k ∷ ks) = (let none = among_none ks in omega (arith, none))

  among_cons : (q : ℕ) (ps ks : List ℕ) → among weight (q ∷ ps) ks ≤ times q ks * weight q + among weight ps ks
  among_cons q ps [] = omega arith
  among_cons q ps (k ∷ ks) = go (nat_eq q k) refl (is_among k ps) (among_cons q ps ks)
    where
      go : (z : Bool) → nat_eq q k ≡ z → (y : Bool) → among weight (q ∷ ps) ks ≤ times q ks * weight q + among weight ps ks
          → cond (z || y) (weight k) 0 + among weight (q ∷ ps) ks ≤ (cond z 1 0 + times q ks) * weight q + (cond y (weight k) 0 + among weight ps ks)
      go true e true le = (let same : weight q ≡ weight k = ap weight (equal e) in omega (arith, le, same))
      go true e false le = (let same : weight q ≡ weight k = ap weight (equal e) in omega (arith, le, same))
      go false e true le = omega (arith, le)
      go false e false le = omega (arith, le)

  -- where each number is there once at most
  among_few : (ks : List ℕ) → ((q : ℕ) → times q ks ≤ 1) → (ps : List ℕ) → among weight ps ks ≤ total weight ps
  among_few ks once [] = (let none = among_none ks in omega (arith, none))
  among_few ks once (q ∷ ps) =
      let le = among_cons q ps ks in
      let here = mul-le-mul_right (weight q) (once q) in
      let later = among_few ks once ps in
      omega (arith, le, here, later)

times_below : (q start count : ℕ) → q < start → times q (range_with_len start count) ≡ 0
times_below q start zero lt = refl
times_below q start (suc count) lt = go (nat_eq q start) refl (times_below q (start + 1) count (omega (arith, lt)))
  where
    go : (z : Bool) → nat_eq q start ≡ z → times q (range_with_len (start + 1) count) ≡ 0 → cond z 1 0 + times q (range_with_len (start + 1) count) ≡ 0
    go true e later = absurd (let same : q ≡ start = grind (arith, nat_tests) in omega (arith, same, lt))
    go false e later = omega (arith, later)

times_range : (q start count : ℕ) → times q (range_with_len start count) ≤ 1
times_range q start zero = omega arith
times_range q start (suc count) = go (nat_eq q start) refl (times_range q (start + 1) count)
  where
    go : (z : Bool) → nat_eq q start ≡ z → times q (range_with_len (start + 1) count) ≤ 1 → cond z 1 0 + times q (range_with_len (start + 1) count) ≤ 1
    go true e later =
        let same : q ≡ start = grind (arith, nat_tests) in
        let none = times_below q (start + 1) count (omega (arith, same)) in
        omega (arith, none)
    go false e later = omega (arith, later)

module _ (test : ℕ → Bool) where
  times_filter : (q : ℕ) (ks : List ℕ) → times q (filter test ks) ≤ times q ks
  times_filter q [] = omega arith
  times_filter q (k ∷ ks) = go (test k) (times_filter q ks)
    where
      go : (z : Bool) → times q (filter test ks) ≤ times q ks
          → times q (cond z (k ∷ filter test ks) (filter test ks)) ≤ cond (nat_eq q k) 1 0 + times q ks
      go true le = omega (arith, le)
      go false le = omega (arith, le)

  fewer : (ks : List ℕ) → length (filter test ks) ≤ length ks
  fewer [] = omega arith
  fewer (k ∷ ks) = go (test k) (fewer ks)
    where
      go : (z : Bool) → length (filter test ks) ≤ length ks → length (cond z (k ∷ filter test ks) (filter test ks)) ≤ suc (length ks)
      go true le = omega (arith, le)
      go false le = omega (arith, le)

module _ (S : ClosedSet) where
  abbrev numbers : List ℕ
  numbers = range_with_len 0 (length S.members)

  pub candidates_few : length (candidates S) ≤ length S.members
  candidates_few =
      let le = fewer (λ k. not (is_among k S.startup)) numbers in
      let long = length-range_with_len 0 (length S.members) in
      omega (arith, le, long)

  pub candidates_among : (weight : ℕ → ℕ) (ps : List ℕ) → among weight ps (candidates S) ≤ total weight ps
  candidates_among weight ps =
      among_few weight (candidates S) (λ q. let le = times_filter (λ k. not (is_among k S.startup)) q numbers in let once = times_range q 0 (length S.members) in omega (arith, le, once)) ps
