-- The items of lists are those of addresses.
use Rattle.std.proofs.Common.{◌≡◌, ◌<◌, ◌≤◌, ℕ, zero, suc, ◌+◌, Bool, true, false, List, [], ◌∷◌, ◌++◌, map, nat_lt, slice_get, Option, Some, None, if◌then◌else◌, refl, sym, ap, ◌∙◌, arith}
use Rattle.std.specs.List.{range_with_len}
use Rattle.std.proofs.lemmas.Bool.Decides.{nat_tests}
use Rattle.std.proofs.lemmas.List.FromFn.{length-range_with_len, map-range_with_len_more}
use Rattle.std.proofs.lemmas.Option.{slice_get_past}
use Rattle.wasm_form.specs.declared.module.Module.{Module}
use Rattle.spec_loading.specs.spec_binary.Options.{◌>>=◌}
use Rattle.spec_loading.specs.spec_linking.Sets.{Member}
use Rattle.spec_loading.specs.spec_linking.LinkedSets.{LinkedSet, wasm_of}
use Rattle.spec_loading.specs.Addresses.{sum_before, item_address}
use Rattle.dyl_addresses.specs.Sets.{wasms}
use Rattle.dyl_addresses.specs.Lists.{listed_item, numbered}

range_within : (a n i : ℕ) → i < n → slice_get (range_with_len a n) i ≡ Some (a + i)
range_within a zero i lt = absurd (omega arith)
range_within a (suc n) zero lt = ap Some (omega arith)
range_within a (suc n) (suc i) lt = range_within (a + 1) n i (omega arith) ∙ ap Some (omega arith)

pub range_more : (a n j : ℕ) → a + n ≡ j → range_with_len a (n + 1) ≡ range_with_len a n ++ j ∷ []
range_more a n j e = sym (same (range_with_len a (n + 1))) ∙ map-range_with_len_more (λ x. x) a n j e ∙ ap (λ l. l ++ j ∷ []) (same (range_with_len a n))
  where
    same : (xs : List ℕ) → map (λ x. x) xs ≡ xs
    same [] = refl
    same (x ∷ xs) = ap (λ l. x ∷ l) (same xs)

pub range_item : (a n i : ℕ) → slice_get (range_with_len a n) i ≡ item_address a n i
range_item a n i = go (nat_lt i n) refl
  where
    go : (b : Bool) → nat_lt i n ≡ b → slice_get (range_with_len a n) i ≡ (if b then Some (a + i) else None)
    go true q = range_within a n i (grind (arith, nat_tests))
    go false q =
        let le : n ≤ i = grind (arith, nat_tests) in
        let many = length-range_with_len a n in
        slice_get_past (range_with_len a n) i (omega arith)

-- the address of item i of member m, where those of the members have their addresses from `start` on
abbrev pub place_of : (Module → ℕ) → ℕ → List Member → ℕ → ℕ → Option ℕ
place_of size start xs m i = slice_get xs m >>= λ x. item_address (start + sum_before size xs m) (size x.wasm) i

pub numbered_item : (size : Module → ℕ) (start : ℕ) (xs : List Member) (m i : ℕ)
    → listed_item (numbered size start (wasms xs)) m i ≡ place_of size start xs m i
numbered_item size start [] m i = refl
numbered_item size start (x ∷ xs) zero i = let e : start + 0 ≡ start = omega arith in rw e (range_item start (size x.wasm) i)
numbered_item size start (x ∷ xs) (suc m) i =
    let e : start + (size x.wasm + sum_before size xs m) ≡ start + size x.wasm + sum_before size xs m = omega arith in
    rw e (numbered_item size (start + size x.wasm) xs m i)

pub with_wasm : (o : Option Member) (f : Module → Option ℕ) → ((o >>= λ x. Some x.wasm) >>= f) ≡ (o >>= λ x. f x.wasm)
with_wasm None f = refl
with_wasm (Some x) f = refl

-- those of one kind from the first address on, by the modules of a set
pub items_are : (L : LinkedSet) (size : Module → ℕ) (m i : ℕ)
    → listed_item (numbered size 0 (wasms L.set.members)) m i
    ≡ (wasm_of L m >>= λ wasm. item_address (sum_before size L.set.members m) (size wasm) i)
items_are L size m i =
    numbered_item size 0 L.set.members m i
    ∙ ap (λ n. slice_get L.set.members m >>= λ x. item_address n (size x.wasm) i) (omega arith)
    ∙ sym (with_wasm (slice_get L.set.members m) (λ wasm. item_address (sum_before size L.set.members m) (size wasm) i))
