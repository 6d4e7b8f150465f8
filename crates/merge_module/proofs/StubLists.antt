-- The functions of a member that are stubs, by their places among these.
use Rattle.std.proofs.Common.{◌≡◌, ℕ, zero, suc, ◌+◌, ◌-◌, ◌<◌, Bool, true, false, List, [], ◌∷◌, ◌++◌, length, slice_get, Some, cond, refl, sym, ap, ◌∙◌, subst, arith}
use Rattle.std.specs.Prelude.{take}
use Rattle.std.specs.List.{filter, range_with_len}
use Rattle.spec_reading.specs.wasm_form.declared.module.Module.{Module}
use Rattle.spec_loading.specs.spec_linking.Sets.{Member}
use Rattle.spec_loading.specs.Members.{from_members}
use Rattle.spec_reading.proofs.of_spec_binary.Lists.{slice_get-append-left, slice_get-append-right}
use Rattle.std.proofs.lemmas.List.{length-append}

module _ (test : ℕ → Bool) where
  -- what passes a test stands behind those before it that do
  pub filtered_at : (a n k : ℕ) → k < n → test (a + k) ≡ true
      → slice_get (filter test (range_with_len a n)) (length (filter test (range_with_len a k))) ≡ Some (a + k)
  filtered_at a zero k lt passes = absurd (omega arith)
  filtered_at a (suc n) zero lt passes =
      let place : a + 0 ≡ a = omega arith in
      let here : test a ≡ true = subst (λ i. test i ≡ true) place passes in
      rw (here, place) refl
  filtered_at a (suc n) (suc k) lt passes =
      let place : a + suc k ≡ a + 1 + k = omega arith in
      let later = filtered_at (a + 1) n k (omega arith) (subst (λ i. test i ≡ true) place passes) in
      go (test a) refl (later ∙ ap Some (sym place))
    where
      go : (b : Bool) → test a ≡ b
          → slice_get (filter test (range_with_len (a + 1) n)) (length (filter test (range_with_len (a + 1) k))) ≡ Some (a + suc k)
          → slice_get (cond b (a ∷ filter test (range_with_len (a + 1) n)) (filter test (range_with_len (a + 1) n)))
          (length (cond b (a ∷ filter test (range_with_len (a + 1) k)) (filter test (range_with_len (a + 1) k)))) ≡ Some (a + suc k)
      go true q h = h
      go false q h = h

-- what a member has stands behind what those before it have
module _ {X Y : Type 0} (of : ℕ → Module → List X) (like : ℕ → Module → List Y) (same : (m : ℕ) (wasm : Module) → length (of m wasm) ≡ length (like m wasm)) where
  pub lengths_same : (k : ℕ) (xs : List Member) → length (from_members of k xs) ≡ length (from_members like k xs)
  lengths_same k [] = refl
  lengths_same k (x ∷ xs) =
      let here = same k x.wasm in
      let later = lengths_same (k + 1) xs in
      let one = length-append (of k x.wasm) (from_members of (k + 1) xs) in
      let two = length-append (like k x.wasm) (from_members like (k + 1) xs) in
      omega arith

  pub member_at : (k : ℕ) (xs : List Member) (m j : ℕ) (x : Member) (i : ℕ) → slice_get xs m ≡ Some x → j ≡ k + m → i < length (of j x.wasm)
      → slice_get (from_members of k xs) (length (from_members like k (take m xs)) + i) ≡ slice_get (of j x.wasm) i
  member_at k [] m j x i e q lt = absurd cc
  member_at k (y ∷ ys) zero j x i e q lt =
      let is : y ≡ x = cc in
      let first : j ≡ k = omega arith in
      let place : 0 + i ≡ i = omega arith in
      rw (is, first, place) (slice_get-append-left (of k x.wasm) (from_members of (k + 1) ys) i (subst (λ l. i < length (of l x.wasm)) first lt))
  member_at k (y ∷ ys) (suc m) j x i e q lt =
      let here = same k y.wasm in
      let two = length-append (like k y.wasm) (from_members like (k + 1) (take m ys)) in
      let place : length (like k y.wasm ++ from_members like (k + 1) (take m ys)) + i - length (of k y.wasm) ≡ length (from_members like (k + 1) (take m ys)) + i = omega arith in
      slice_get-append-right (of k y.wasm) (from_members of (k + 1) ys) (length (like k y.wasm ++ from_members like (k + 1) (take m ys)) + i) (omega arith)
      ∙ ap (slice_get (from_members of (k + 1) ys)) place
      ∙ member_at (k + 1) ys m j x i e (omega arith) lt

-- the one of a member
pub one_there : {A : Type 0} (f : ℕ → Module → A) (k : ℕ) (xs : List Member) (m j : ℕ) (x : Member) → slice_get xs m ≡ Some x → j ≡ k + m
    → slice_get (from_members (λ i w. f i w ∷ []) k xs) m ≡ Some (f j x.wasm)
one_there f k [] m j x e q = absurd cc
one_there f k (y ∷ ys) zero j x e q =
    let is : y ≡ x = cc in
    let first : j ≡ k = omega arith in
    rw (first, ← is) refl
one_there f k (y ∷ ys) (suc m) j x e q = one_there f (k + 1) ys m j x e (omega arith)
