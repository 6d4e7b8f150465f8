-- Programs that are picked in turns have as many turns.
use Rattle.std.proofs.Common.{◌≡◌, ◌<◌, ℕ, zero, suc, ◌+◌, ◌*◌, ◌%◌, ◌-◌, min, Bool, true, false, List, [], ◌∷◌, length, nat_eq, slice_get, Some, inl, inr, refl, sym, ap, ◌∙◌, arith, if◌then◌else◌}
use Rattle.std.proofs.lemmas.Bool.{cases_lt, cases_order, eq-eqb, ne_eqb}
use Rattle.std.proofs.lemmas.Nat.{mod-mul-add, same_from_place}
use Rattle.spec_boards.specs.Laws.{turns_of}

module _ (n rounds i : ℕ) (under : i < n) where
  -- the first of some picks, where it is this one
  first : (j r : ℕ) (picks : List ℕ) → j ≡ r → turns_of i (j ∷ picks) + min 1 (r - i) ≡ turns_of i picks + min 1 (suc r - i)
  first j r picks is = elim (cases_order i r) [
    | inl same ↦ (let e : turns_of i (j ∷ picks) ≡ 1 + turns_of i picks = counted true (eq-eqb i j (same ∙ sym is)) in omega arith)
    | inr (inl lt) ↦ (let e : turns_of i (j ∷ picks) ≡ 0 + turns_of i picks = counted false (ne_eqb i j (λ z. (let same : i ≡ r = z ∙ is in omega arith))) in omega arith)
    | inr (inr gt) ↦ (let e : turns_of i (j ∷ picks) ≡ 0 + turns_of i picks = counted false (ne_eqb i j (λ z. (let same : i ≡ r = z ∙ is in omega arith))) in omega arith)
  ]
    where
      counted : (b : Bool) → nat_eq i j ≡ b → turns_of i (j ∷ picks) ≡ (if b then 1 else 0) + turns_of i picks
      counted b e = ap (λ c. (if c then 1 else 0) + turns_of i picks) e

  -- from some rounds and a number of turns of the next one
  fair_from : (picks : List ℕ) (q r : ℕ) → r < n → ((k j : ℕ) → slice_get picks k ≡ Some j → j ≡ (q * n + r + k) % n) → q * n + r + length picks ≡ rounds * n
      → turns_of i picks + q + min 1 (r - i) ≡ rounds
  fair_from [] q r lt each all =
      let same : q * n + r ≡ rounds * n + 0 = omega arith in
      let both = same_from_place q r rounds 0 n lt (omega arith) same in
      let whole = both.0 in
      let none = both.1 in
      omega arith
  fair_from (j ∷ picks) q r lt each all =
      let here : q * n + r + 0 ≡ q * n + r = omega arith in
      let is : j ≡ r = each zero j refl ∙ ap (λ m. m % n) here ∙ mod-mul-add q n r lt in
      let one = first j r picks is in
      elim (cases_lt (suc r) n) [
        | inl more ↦
            let rest = fair_from picks q (suc r) more
            (λ k m at. each (suc k) m at ∙ ap (λ x. x % n) (let e : q * n + r + suc k ≡ q * n + suc r + k = omega arith in e)) (omega arith)
            in
            omega arith
        | inr last ↦
            let next : suc q * n ≡ q * n + n = omega arith in
            let rest = fair_from picks (suc q) 0 (omega arith)
            (λ k m at. each (suc k) m at ∙ ap (λ x. x % n) (let e : q * n + r + suc k ≡ suc q * n + 0 + k = omega arith in e)) (omega arith)
            in
            omega arith
      ]

pub fair : (n rounds i : ℕ) (picks : List ℕ) → i < n → ((k j : ℕ) → slice_get picks k ≡ Some j → j ≡ k % n) → length picks ≡ rounds * n → turns_of i picks ≡ rounds
fair n rounds i picks under each all =
    let none : 0 * n ≡ 0 = omega arith in
    let from = fair_from n rounds i under picks 0 0 (omega arith) (λ k j at. each k j at ∙ ap (λ x. x % n) (let e : k ≡ 0 * n + 0 + k = omega arith in e)) (omega arith) in
    omega arith
