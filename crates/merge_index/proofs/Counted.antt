-- How much a merged module has of each kind, and that this is below 2^32.
use Rattle.std.proofs.Common.{ℕ, zero, suc, ◌+◌, ◌≤◌, Bool, true, false, List, ◌∷◌, length, cond, arith}
use Rattle.std.specs.List.{filter, range_with_len}
use Rattle.wasm_form.specs.declared.module.Module.{Module}
use Rattle.spec_loading.specs.spec_binary.IndexSpaces.{imported_count}
use Rattle.spec_loading.specs.spec_linking.Sets.{Member}
use Rattle.spec_loading.specs.spec_linking.Gathering.{total_size, IsSet}
use Rattle.spec_loading.specs.spec_linking.LinkedSets.{LinkedSet, function_ref}
use Rattle.spec_loading.specs.Members.{from_members}
use Rattle.spec_loading.proofs.of_spec_linking.FewImports.{imports_within}
pub use Rattle.spec_loading.proofs.of_spec_linking.FewImports.{few_hosts}
pub use Rattle.spec_loading.proofs.FewItems.{joined_length}
use Rattle.merge_index.specs.Numbering.{is_stub, stubs_of}
use Rattle.merge_index.proofs.FewItems.{AreFew, member_few, from_within}

-- ---- imports

module _ (test : ℕ → Bool) where
  -- no more numbers pass a test than there are
  pub filtered_length : (a n : ℕ) → length (filter test (range_with_len a n)) ≤ n
  filtered_length a zero = omega arith
  filtered_length a (suc n) = go (test a) (filtered_length (a + 1) n)
    where
      go : (b : Bool) → length (filter test (range_with_len (a + 1) n)) ≤ n
          → length (cond b (a ∷ filter test (range_with_len (a + 1) n)) (filter test (range_with_len (a + 1) n))) ≤ suc n
      go true h = omega arith
      go false h = omega arith

pub stubs_within : (L : LinkedSet) (m : ℕ) (wasm : Module) → length (stubs_of L m wasm) ≤ length wasm.imports
stubs_within L m wasm =
    let few = filtered_length (λ f. is_stub (function_ref L m f)) 0 (imported_count wasm) in
    let room = imports_within wasm.imports in
    omega arith

-- ---- all of it

module _ (L : LinkedSet) (set : IsSet L.set) where
  abbrev bytes : ℕ
  bytes = total_size L.set.members

  pub few_bytes : bytes ≤ 16777216
  few_bytes = set.few_bytes

  pub few_members : length L.set.members ≤ 256
  few_members = set.few

  -- of each member no more than its bytes, of all no more than all bytes
  pub few_of : {X : Type 0} (of : ℕ → Module → List X) → ((k : ℕ) (x : Member) → AreFew x.wasm x.size → length (of k x.wasm) ≤ x.size)
      → length (from_members of 0 L.set.members) ≤ bytes
  few_of of each = from_within of (λ k x is. each k x (member_few x is)) 0 L.set.members set.members

  pub few_stubs : length (from_members (stubs_of L) 0 L.set.members) ≤ bytes
  few_stubs = few_of (stubs_of L) (λ k x few. (let le = stubs_within L k x.wasm in let all = few.all in omega arith))
