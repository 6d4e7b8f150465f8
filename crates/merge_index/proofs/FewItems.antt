-- No member of a set has more of anything than its bytes, and all members have no more than all bytes.
use Rattle.std.proofs.Common.{◌≡◌, ℕ, ◌+◌, ◌*◌, ◌≤◌, List, [], ◌∷◌, length, arith, length-append}
use Rattle.std.specs.List.{All}
use Rattle.std.proofs.lemmas.List.Elements.{All-head, All-tail}
use Rattle.wasm_form.specs.declared.module.Module.{Module}
use Rattle.spec_loading.specs.spec_linking.Sets.{Member}
use Rattle.spec_loading.specs.spec_linking.Gathering.{total_size, IsMember}
pub use Rattle.spec_loading.specs.spec_linking.Counts.{AreFew}
use Rattle.spec_loading.specs.Addresses.{sum_before}
use Rattle.spec_loading.specs.Members.{from_members}
pub use Rattle.spec_loading.proofs.of_spec_linking.FewParts.{member_text, member_spelled, member_few, total_cons}
pub use Rattle.dyl_addresses.proofs.Ends.{size_within}

-- what has no more of each member than its bytes has no more than all bytes
pub from_within : {X : Type 0} (of : ℕ → Module → List X) → ((k : ℕ) (x : Member) → IsMember x → length (of k x.wasm) ≤ x.size)
    → (k : ℕ) (xs : List Member) → All IsMember xs → length (from_members of k xs) ≤ total_size xs
from_within of each k [] all = omega arith
from_within of each k (x ∷ xs) all =
    let here = each k x (All-head IsMember x xs all) in
    let later = from_within of each (k + 1) xs (All-tail IsMember x xs all) in
    let sum = total_cons x xs in
    omega (arith, length-append (of k x.wasm) (from_members of (k + 1) xs))

-- what has of each member no more than its bytes and so many has of all no more than all bytes, and so many for each
module _ (size : Module → ℕ) (more : ℕ) (each : (x : Member) → AreFew x.wasm x.size → size x.wasm ≤ more + x.size) where
  pub sum_few : (xs : List Member) → All IsMember xs → sum_before size xs (length xs) ≤ more * length xs + total_size xs
  sum_few [] all = omega arith
  sum_few (x ∷ xs) all =
      let here = each x (member_few x (All-head IsMember x xs all)) in
      let later = sum_few xs (All-tail IsMember x xs all) in
      let sum = total_cons x xs in
      let many : more * length (x ∷ xs) ≡ more + more * length xs = omega arith in
      omega arith
