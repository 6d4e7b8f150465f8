-- The addresses of stubs: they come member by member, each member's in the order of its numbers, between two numbers.
use Rattle.std.proofs.Common.{◌≡◌, ◌<◌, ◌≤◌, ℕ, zero, suc, ◌+◌, Bool, true, false, cond, List, [], ◌∷◌, length, take, nat_lt, slice_get, Option, Some, None, if◌then◌else◌, refl, sym, ap, ◌∙◌, subst, arith, length-append}
use Rattle.std.specs.List.{filter, range_with_len}
use Rattle.std.proofs.lemmas.Bool.Decides.{nat_tests}
use Rattle.std.proofs.lemmas.Option.{slice_get_within}
use Rattle.wasm_form.specs.declared.runtime.Ref.TheVariants.{Own}
use Rattle.spec_loading.specs.spec_binary.Options.{◌>>=◌}
use Rattle.spec_loading.specs.spec_binary.Indices.{function_type}
use Rattle.spec_loading.specs.spec_binary.IndexSpaces.{functions_in, imported_count}
use Rattle.spec_loading.specs.spec_linking.Imports.{importing}
use Rattle.spec_loading.specs.spec_linking.Sets.{Member}
use Rattle.spec_loading.specs.spec_linking.LinkedSets.{LinkedSet, wasm_of, ref_with, function_ref}
use Rattle.spec_loading.specs.Members.{from_members}
use Rattle.merge_index.specs.Numbering.{first_stub, first_phase, is_stub, stubs_below, stubs_of, stubs_before, stub_address}
use Rattle.merge_index.proofs.Refs.{own_is_no_stub}

pub some_is : (a b : ℕ) → Some a ≡ Some b → a ≡ b
some_is a b e = cc

module _ (p : ℕ → Bool) where
  abbrev passing : ℕ → ℕ → ℕ
  passing a n = length (filter p (range_with_len a n))

  -- one that passes is counted among more
  one_more : (a n k : ℕ) → n < k → p (a + n) ≡ true → passing a n < passing a k
  one_more a zero zero lt passes = absurd (omega arith)
  one_more a zero (suc k) lt passes =
      let here : p a ≡ true = ap p (omega arith) ∙ passes in
      let count = ap (λ b. length (cond b (a ∷ filter p (range_with_len (a + 1) k)) (filter p (range_with_len (a + 1) k)))) here in
      omega arith
  one_more a (suc n) zero lt passes = absurd (omega arith)
  one_more a (suc n) (suc k) lt passes =
      go (p a) (one_more (a + 1) n k (omega arith) (ap p (omega arith) ∙ passes))
    where
      go : (b : Bool) → passing (a + 1) n < passing (a + 1) k
          → length (cond b (a ∷ filter p (range_with_len (a + 1) n)) (filter p (range_with_len (a + 1) n)))
          < length (cond b (a ∷ filter p (range_with_len (a + 1) k)) (filter p (range_with_len (a + 1) k)))
      go true later = omega arith
      go false later = later

less_or_more : (a b : ℕ) (P : Type 0) → (a < b → P) → (b < a → P) → (a ≡ b → P) → P
less_or_more a b P less more same = go (nat_lt a b) refl (nat_lt b a) refl
  where
    go : (c : Bool) → nat_lt a b ≡ c → (d : Bool) → nat_lt b a ≡ d → P
    go true q d r = less (grind (arith, nat_tests))
    go false q true r = more (grind (arith, nat_tests))
    go false q false r = same (let x : b ≤ a = grind (arith, nat_tests) in let y : a ≤ b = grind (arith, nat_tests) in omega arith)

module _ (L : LinkedSet) where
  -- the stubs of a member come before those of later ones
  stubs_rise : (k : ℕ) (xs : List Member) (m n : ℕ) (x : Member) → slice_get xs m ≡ Some x → m < n
      → length (from_members (stubs_of L) k (take m xs)) + length (stubs_of L (k + m) x.wasm) ≤ length (from_members (stubs_of L) k (take n xs))
  stubs_rise k [] m n x e lt = absurd cc
  stubs_rise k (y ∷ xs) m zero x e lt = absurd (omega arith)
  stubs_rise k (y ∷ xs) zero (suc n) x e lt =
      let same : y ≡ x = cc in
      let first : k + 0 ≡ k = omega arith in
      let many = length-append (stubs_of L k y.wasm) (from_members (stubs_of L) (k + 1) (take n xs)) in
      rw (← same, first) (omega arith)
  stubs_rise k (y ∷ xs) (suc m) (suc n) x e lt =
      let next : k + 1 + m ≡ k + suc m = omega arith in
      let later = subst (λ j. length (from_members (stubs_of L) (k + 1) (take m xs)) + length (stubs_of L j x.wasm) ≤ length (from_members (stubs_of L) (k + 1) (take n xs))) next
      (stubs_rise (k + 1) xs m n x e (omega arith)) in
      let few = length-append (stubs_of L k y.wasm) (from_members (stubs_of L) (k + 1) (take m xs)) in
      let many = length-append (stubs_of L k y.wasm) (from_members (stubs_of L) (k + 1) (take n xs)) in
      omega arith

  pub record OwnStub (m f a : ℕ) : Type 0 where
    pub member : Member
    pub found : slice_get L.set.members m ≡ Some member
    pub stub : is_stub (function_ref L m f) ≡ true
    pub below : f < imported_count member.wasm
    pub place : a ≡ first_stub L + stubs_before L m + length (stubs_below L m f)

  pub stub_of : (m f a : ℕ) → stub_address L m f ≡ Some a → OwnStub m f a
  stub_of m f a = go (slice_get L.set.members m) refl (is_stub (function_ref L m f)) refl
    where
      within : (x : Member) → slice_get L.set.members m ≡ Some x → is_stub (function_ref L m f) ≡ true → (b : Bool)
          → nat_lt f (imported_count x.wasm) ≡ b → f < imported_count x.wasm
      within x p s true q = grind (arith, nat_tests)
      within x p s false q =
          let here : wasm_of L m ≡ Some x.wasm = ap (λ (o : Option Member). o >>= λ y. Some y.wasm) p in
          let no = own_is_no_stub L m f x.wasm here (grind (arith, nat_tests)) in
          absurd cc

      no_member : slice_get L.set.members m ≡ None → is_stub (function_ref L m f) ≡ false
      no_member p =
          ap (λ (o : Option Member). is_stub ((o >>= λ y. Some y.wasm) >>= λ wasm. function_type wasm f >>= λ ty. ref_with L m f (slice_get (importing functions_in wasm.imports) f) (Own m f))) p

      go : (o : Option Member) → slice_get L.set.members m ≡ o → (b : Bool) → is_stub (function_ref L m f) ≡ b
          → (if b then Some (first_stub L + stubs_before L m + length (stubs_below L m f)) else None) ≡ Some a → OwnStub m f a
      go None p true s e = (let no = no_member p in absurd cc)
      go (Some x) p true s e = record { member = x; found = p; stub = s; below = within x p s (nat_lt f (imported_count x.wasm)) refl; place = sym (some_is _ _ e) }
      go o p false s e = absurd cc

  pub stub_above : (m f a : ℕ) → OwnStub m f a → first_stub L ≤ a
  stub_above m f a p = (let place = p.place in omega arith)

  -- the stub comes before those of later members
  stub_before : (m k f a : ℕ) → OwnStub m f a → m < k → a < first_stub L + stubs_before L k
  stub_before m k f a p lt =
      let none : 0 + m ≡ m = omega arith in
      let rise : stubs_before L m + length (stubs_of L m p.member.wasm) ≤ stubs_before L k =
      subst (λ j. stubs_before L m + length (stubs_of L j p.member.wasm) ≤ stubs_before L k) none
      (stubs_rise 0 L.set.members m k p.member p.found lt) in
      let one : length (stubs_below L m f) < length (stubs_of L m p.member.wasm) =
      one_more (λ j. is_stub (function_ref L m j)) 0 f (imported_count p.member.wasm) p.below (ap (λ j. is_stub (function_ref L m j)) (omega arith) ∙ p.stub) in
      let place = p.place in
      omega arith

  same_member : (m f g a b : ℕ) → OwnStub m f a → OwnStub m g b → a ≡ b → f ≡ g
  same_member m f g a b p q e =
      let here = p.place in
      let there = q.place in
      less_or_more f g (f ≡ g)
      (λ lt. let one : length (stubs_below L m f) < length (stubs_below L m g) = one_more (λ j. is_stub (function_ref L m j)) 0 f g lt (ap (λ j. is_stub (function_ref L m j)) (omega arith) ∙ p.stub) in absurd (omega arith))
      (λ lt. let one : length (stubs_below L m g) < length (stubs_below L m f) = one_more (λ j. is_stub (function_ref L m j)) 0 g f lt (ap (λ j. is_stub (function_ref L m j)) (omega arith) ∙ q.stub) in absurd (omega arith))
      (λ same. same)

  pub stubs_apart : (m k f g a b : ℕ) → OwnStub m f a → OwnStub k g b → a ≡ b → (m ≡ k) × (f ≡ g)
  stubs_apart m k f g a b p q e =
      let here = p.place in
      let there = q.place in
      less_or_more m k ((m ≡ k) × (f ≡ g))
      (λ lt. let first = stub_before m k f a p lt in absurd (omega arith))
      (λ lt. let first = stub_before k m g b q lt in absurd (omega arith))
      (λ same. (same, same_member m f g a b p (subst (λ j. OwnStub j g b) (sym same) q) e))

  -- those of all members come before what is generated
  pub stub_within : (m f a : ℕ) → stub_address L m f ≡ Some a → (first_stub L ≤ a) × (a < first_phase L)
  stub_within m f a e =
      let is = stub_of m f a e in
      (stub_above m f a is, stub_before m (length L.set.members) f a is (slice_get_within L.set.members m is.member is.found))
