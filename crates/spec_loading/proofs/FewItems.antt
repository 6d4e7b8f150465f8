-- What the members of a set have of a kind, before each of them and all together, is no more than the bytes of their files.
use Rattle.std.proofs.Common.{◌≡◌, ℕ, zero, suc, ◌+◌, ◌*◌, ◌≤◌, List, [], ◌∷◌, length, slice_get, Some, refl, ap, arith}
use Rattle.std.specs.List.{All}
use Rattle.std.proofs.lemmas.List.{length-append}
use Rattle.std.proofs.lemmas.Nat.{mul-le}
use Rattle.std.proofs.lemmas.List.Elements.{All-head, All-tail}
use Rattle.spec_linking.specs.wasm_form.declared.module.Module.{Module}
use Rattle.spec_linking.specs.Sets.{Member, ClosedSet}
use Rattle.spec_linking.specs.Gathering.{total_size, IsMember, IsSet}
use Rattle.spec_linking.specs.Counts.{AreFew}
use Rattle.spec_linking.proofs.FewParts.{member_few, total_cons}
use Rattle.spec_loading.specs.Addresses.{sum_before}
use Rattle.spec_loading.specs.Members.{from_members}

-- what all members have, one after the other, is as long as the sum
pub joined_length : {X : Type 0} (of : ℕ → Module → List X) (size : Module → ℕ) → ((m : ℕ) (wasm : Module) → length (of m wasm) ≡ size wasm)
    → (k : ℕ) (xs : List Member) → length (from_members of k xs) ≡ sum_before size xs (length xs)
joined_length of size fits k [] = refl
joined_length of size fits k (x ∷ xs) =
    let here = fits k x.wasm in
    let later = joined_length of size fits (k + 1) xs in
    omega (arith, length-append (of k x.wasm) (from_members of (k + 1) xs))

-- the sum with one member more
pub sum_next : (size : Module → ℕ) (xs : List Member) (m : ℕ) (x : Member) → slice_get xs m ≡ Some x → sum_before size xs m + size x.wasm ≡ sum_before size xs (suc m)
sum_next size [] m x e = absurd cc
sum_next size (y ∷ xs) zero x e = (let same : size y.wasm ≡ size x.wasm = (let is : y ≡ x = cc in ap (λ (z : Member). size z.wasm) is) in omega arith)
sum_next size (y ∷ xs) (suc m) x e = (let later = sum_next size xs m x e in omega arith)

-- ---- sums of what each member has no more of than its bytes, and so many

module _ (size : Module → ℕ) (more : ℕ) (each : (wasm : Module) (most : ℕ) → AreFew wasm most → size wasm ≤ more + most) where
  pub sum_within : (xs : List Member) → All IsMember xs → (m : ℕ) → sum_before size xs m ≤ more * length xs + total_size xs
  sum_within xs all zero = omega arith
  sum_within [] all (suc m) = omega arith
  sum_within (x ∷ xs) all (suc m) =
      let here = each x.wasm x.size (member_few x (All-head IsMember x xs all)) in
      let later = sum_within xs (All-tail IsMember x xs all) m in
      let sum = total_cons x xs in
      let many : more * length (x ∷ xs) ≡ more + more * length xs = omega arith in
      omega arith

  pub sum_few : (S : ClosedSet) → IsSet S → (m : ℕ) → sum_before size S.members m ≤ more * 256 + 16777216
  sum_few S is m =
      let within = sum_within S.members is.members m in
      let members = is.few in
      let bytes = is.few_bytes in
      let most : more * length S.members ≤ more * 256 = mul-le more (length S.members) more 256 (omega arith) is.few in
      omega arith

-- ---- of each kind

module _ (S : ClosedSet) (is : IsSet S) (m : ℕ) where
  pub few_types : sum_before (λ x. length x.types) S.members m ≤ 16777216
  few_types = sum_few (λ x. length x.types) 0 (λ x n few. (let all = few.all in omega arith)) S is m

  pub few_functions : sum_before (λ x. length x.funcs) S.members m ≤ 16777216
  few_functions = sum_few (λ x. length x.funcs) 0 (λ x n few. (let all = few.all in omega arith)) S is m

  pub few_codes : sum_before (λ x. length x.codes) S.members m ≤ 16777216
  few_codes = sum_few (λ x. length x.codes) 0 (λ x n few. (let all = few.all in omega arith)) S is m

  pub few_tables : sum_before (λ x. length x.tables) S.members m ≤ 16777216
  few_tables = sum_few (λ x. length x.tables) 0 (λ x n few. (let all = few.all in omega arith)) S is m
