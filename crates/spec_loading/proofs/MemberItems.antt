-- What members have one after the other: where each item stands, and that no two stand at one place.
use Rattle.std.proofs.Common.{◌≡◌, ℕ, zero, suc, ◌+◌, ◌-◌, ◌<◌, List, [], ◌∷◌, length, slice_get, Some, refl, ap, inl, inr, ◌∙◌, arith, length-append}
use Rattle.std.proofs.lemmas.Bool.{cases_lt}
use Rattle.spec_linking.specs.wasm_form.declared.module.Module.{Module}
use Rattle.spec_linking.proofs.of_spec_binary.Lists.{slice_get-append-left, slice_get-append-right}
use Rattle.spec_linking.specs.Sets.{Member}
use Rattle.spec_loading.specs.Addresses.{sum_before}
use Rattle.spec_loading.specs.Members.{from_members}

-- two items at one place are one
pub apart : (size : Module → ℕ) (xs : List Member) (m k i j : ℕ) (x y : Member) → slice_get xs m ≡ Some x → slice_get xs k ≡ Some y
    → i < size x.wasm → j < size y.wasm → sum_before size xs m + i ≡ sum_before size xs k + j → (m ≡ k) × (i ≡ j)
apart size [] m k i j x y p q lt less e = absurd cc
apart size (z ∷ xs) zero zero i j x y p q lt less e = (refl, omega arith)
apart size (z ∷ xs) zero (suc k) i j x y p q lt less e =
    let same : size z.wasm ≡ size x.wasm = (let w : z ≡ x = cc in ap (λ (v : Member). size v.wasm) w) in absurd (omega arith)
apart size (z ∷ xs) (suc m) zero i j x y p q lt less e =
    let same : size z.wasm ≡ size y.wasm = (let w : z ≡ y = cc in ap (λ (v : Member). size v.wasm) w) in absurd (omega arith)
apart size (z ∷ xs) (suc m) (suc k) i j x y p q lt less e = (let r = apart size xs m k i j x y p q lt less (omega arith) in (ap suc r.0, r.1))

module _ {X : Type 0} (of : ℕ → Module → List X) (size : Module → ℕ) (fits : (m : ℕ) (wasm : Module) → length (of m wasm) ≡ size wasm) where
  -- item i of member m, which has the number j, stands behind those of the members before, which are numbered from k on
  item_from : (k j : ℕ) (xs : List Member) (m i : ℕ) (x : Member) → j ≡ k + m → slice_get xs m ≡ Some x → i < size x.wasm
      → slice_get (from_members of k xs) (sum_before size xs m + i) ≡ slice_get (of j x.wasm) i
  item_from k j [] m i x is e lt = absurd cc
  item_from k j (y ∷ ys) zero i x is e lt =
      let same : y ≡ x = cc in
      let here = fits k x.wasm in
      let first : j ≡ k = omega arith in
      let place : 0 + i ≡ i = omega arith in
      rw (same, first, place) (slice_get-append-left (of k x.wasm) (from_members of (k + 1) ys) i (omega arith))
  item_from k j (y ∷ ys) (suc m) i x is e lt =
      let here = fits k y.wasm in
      let place : size y.wasm + sum_before size ys m + i - length (of k y.wasm) ≡ sum_before size ys m + i = omega arith in
      slice_get-append-right (of k y.wasm) (from_members of (k + 1) ys) (size y.wasm + sum_before size ys m + i) (omega arith)
      ∙ rw place (item_from (k + 1) j ys m i x (omega arith) e lt)

  pub item_at : (xs : List Member) (m i : ℕ) (x : Member) → slice_get xs m ≡ Some x → i < size x.wasm
      → slice_get (from_members of 0 xs) (sum_before size xs m + i) ≡ slice_get (of m x.wasm) i
  item_at xs m i x e lt = item_from 0 m xs m i x (omega arith) e lt

  -- each place is that of an item of a member
  pub record Item (xs : List Member) (n : ℕ) : Type 0 where
    pub m : ℕ
    pub member : Member
    pub found : slice_get xs m ≡ Some member
    pub place : ℕ
    pub within : place < size member.wasm
    pub is : n ≡ sum_before size xs m + place

  later : (y : Member) (ys : List Member) (n rest : ℕ) → n ≡ size y.wasm + rest → Item ys rest → Item (y ∷ ys) n
  later y ys n rest sum item =
      let is = item.is in
      record { m = suc item.m; member = item.member; found = item.found; place = item.place; within = item.within; is = omega arith }

  pub item_of : (k : ℕ) (xs : List Member) (n : ℕ) → n < length (from_members of k xs) → Item xs n
  item_of k [] n lt = absurd (omega arith)
  item_of k (y ∷ ys) n lt =
      let here = fits k y.wasm in
      let many = length-append (of k y.wasm) (from_members of (k + 1) ys) in
      elim (cases_lt n (size y.wasm)) [
        | inl less ↦ record { m = 0; member = y; found = refl; place = n; within = less; is = omega arith }
        | inr past ↦ later y ys n (n - size y.wasm) (omega arith) (item_of (k + 1) ys (n - size y.wasm) (omega arith))
      ]
