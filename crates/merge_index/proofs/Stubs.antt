-- How many stubs come before one.
use Rattle.std.proofs.Common.{◌≡◌, ◌≤◌, ℕ, zero, suc, ◌+◌, Bool, true, false, cond, List, [], ◌∷◌, length, take, slice_get, Option, Some, None, refl, sym, ap, ◌∙◌, arith, length-append}
use Rattle.std.specs.List.{filter, range_with_len}
use Rattle.std.proofs.lemmas.List.{take_all}
use Rattle.std.proofs.lemmas.Option.{slice_get_past}
use Rattle.wasm_form.specs.declared.module.Module.{Module}
use Rattle.wasm_form.specs.declared.runtime.Ref.{Ref}
use Rattle.wasm_form.specs.declared.runtime.Ref.TheVariants.{Own, Loader, Host, Stub}
use Rattle.spec_loading.specs.spec_binary.Options.{◌>>=◌}
use Rattle.spec_loading.specs.spec_binary.Indices.{function_type}
use Rattle.spec_loading.specs.spec_binary.IndexSpaces.{functions_in, imported_count}
use Rattle.spec_loading.specs.spec_linking.Imports.{importing}
use Rattle.spec_loading.specs.spec_linking.Sets.{Member}
use Rattle.spec_loading.specs.spec_linking.LinkedSets.{LinkedSet, wasm_of, ref_with, function_ref}
use Rattle.spec_loading.specs.Members.{from_members}
use Rattle.merge_index.specs.Numbering.{is_stub, stubs_below, stubs_of, stubs_before}
use Rattle.merge_index.specs.Lists.{stub_size, stubs_end, all_stubs_end}
use Rattle.merge_index.proofs.Refs.{own_is_no_stub}

-- ---- numbers that pass a test

module _ (p : ℕ → Bool) where
  abbrev passing : ℕ → ℕ → ℕ
  passing a n = length (filter p (range_with_len a n))

  none_passes : (a n : ℕ) → ((j : ℕ) → a ≤ j → p j ≡ false) → passing a n ≡ 0
  none_passes a zero none = refl
  none_passes a (suc n) none =
      ap (λ b. length (cond b (a ∷ filter p (range_with_len (a + 1) n)) (filter p (range_with_len (a + 1) n)))) (none a (omega arith))
      ∙ none_passes (a + 1) n (λ j le. none j (omega arith))

  -- more numbers, of which none passes
  same_count : (a n k : ℕ) → ((j : ℕ) → a + n ≤ j → p j ≡ false) → passing a (n + k) ≡ passing a n
  same_count a zero k none = let e : 0 + k ≡ k = omega arith in rw e (none_passes a k (λ j le. none j (omega arith)))
  same_count a (suc n) k none =
      let e : suc n + k ≡ suc (n + k) = omega arith in
      let later = same_count (a + 1) n k (λ j le. none j (omega arith)) in
      rw e (go (p a) later)
    where
      go : (b : Bool) → passing (a + 1) (n + k) ≡ passing (a + 1) n
          → length (cond b (a ∷ filter p (range_with_len (a + 1) (n + k))) (filter p (range_with_len (a + 1) (n + k))))
          ≡ length (cond b (a ∷ filter p (range_with_len (a + 1) n)) (filter p (range_with_len (a + 1) n)))
      go true later = ap suc later
      go false later = later

  -- two limits past which none passes
  pub one_count : (n k : ℕ) → ((j : ℕ) → n ≤ j → p j ≡ false) → ((j : ℕ) → k ≤ j → p j ≡ false) → passing 0 n ≡ passing 0 k
  one_count n k past_n past_k =
      sym (same_count 0 n k (λ j le. past_n j (omega arith)))
      ∙ ap (passing 0) (omega arith)
      ∙ same_count 0 k n (λ j le. past_k j (omega arith))

-- ---- the functions of a member

module _ (of : ℕ → Option Ref) where
  -- so many stubs are among the first functions
  pub stubs_among : (s a f : ℕ) (rs : List Ref) → ((j : ℕ) → slice_get rs j ≡ of (a + j)) → f ≤ length rs
      → stubs_end s (take f rs) ≡ s + length (filter (λ j. is_stub (of j)) (range_with_len a f))
  stubs_among s a zero rs reads few = omega arith
  stubs_among s a (suc f) [] reads few = absurd (omega arith)
  stubs_among s a (suc f) (r ∷ rs) reads few =
      let later = stubs_among (s + stub_size r) (a + 1) f rs (λ j. reads (suc j) ∙ ap of (omega arith)) (omega arith) in
      let first : of a ≡ Some r = ap of (omega arith) ∙ sym (reads 0) in
      go r (ap is_stub first) later
    where
      rest : List ℕ
      rest = filter (λ j. is_stub (of j)) (range_with_len (a + 1) f)

      counted : Bool → List ℕ
      counted b = cond b (a ∷ filter (λ j. is_stub (of j)) (range_with_len (a + 1) f)) (filter (λ j. is_stub (of j)) (range_with_len (a + 1) f))

      go : (q : Ref) → is_stub (of a) ≡ is_stub (Some q)
          → stubs_end (s + stub_size q) (take f rs) ≡ s + stub_size q + length (filter (λ j. is_stub (of j)) (range_with_len (a + 1) f))
          → stubs_end (s + stub_size q) (take f rs)
          ≡ s + length (cond (is_stub (of a)) (a ∷ filter (λ j. is_stub (of j)) (range_with_len (a + 1) f)) (filter (λ j. is_stub (of j)) (range_with_len (a + 1) f)))
      go (Own k g) is later = later ∙ (let n = ap (λ b. length (counted b)) is in omega arith)
      go (Loader which) is later = later ∙ (let n = ap (λ b. length (counted b)) is in omega arith)
      go (Host e) is later = later ∙ (let n = ap (λ b. length (counted b)) is in omega arith)
      go (Stub k g) is later = later ∙ (let n = ap (λ b. length (counted b)) is in omega arith)

-- the number of the first stub of each member
abbrev pub stubs_to : ℕ → List (List Ref) → ℕ → ℕ
stubs_to s xs zero = s
stubs_to s [] (suc m) = s
stubs_to s (x ∷ xs) (suc m) = stubs_to (stubs_end s x) xs m

module _ (L : LinkedSet) where
  -- the kept functions of member m are those that its numbers name
  abbrev pub Reads : ℕ → List Ref → Type 0
  Reads m x = (f : ℕ) → slice_get x f ≡ function_ref L m f

  pub before_one : (s m f : ℕ) (x : List Ref) → Reads m x → f ≤ length x
      → stubs_end s (take f x) ≡ s + length (stubs_below L m f)
  before_one s m f x reads few = stubs_among (function_ref L m) s 0 f x (λ j. reads j ∙ ap (function_ref L m) (omega arith)) few

  of_member : (s m : ℕ) (x : List Ref) (wasm : Module) → Reads m x → wasm_of L m ≡ Some wasm
      → stubs_end s x ≡ s + length (stubs_of L m wasm)
  of_member s m x wasm reads here =
      ap (stubs_end s) (sym (take_all (length x) x (omega arith)))
      ∙ before_one s m (length x) x reads (omega arith)
      ∙ ap (λ n. s + n) (one_count (λ f. is_stub (function_ref L m f)) (length x) (imported_count wasm)
      (λ j le. ap is_stub (sym (reads j) ∙ slice_get_past x j le))
      (λ j le. own_is_no_stub L m j wasm here le))

  -- where there is no member there are no functions
  no_functions : (k : ℕ) (x : List Ref) → wasm_of L k ≡ None → Reads k x → x ≡ []
  no_functions k [] none reads = refl
  no_functions k (r ∷ rs) none reads =
      let first : Some r ≡ function_ref L k 0 = reads 0 in
      let gone : function_ref L k 0 ≡ None =
      ap (λ (o : Option Module). o >>= λ wasm. function_type wasm 0 >>= λ ty. ref_with L k 0 (slice_get (importing functions_in wasm.imports) 0) (Own k 0)) none in
      absurd cc

  counted_from : (s k : ℕ) (xs : List (List Ref)) (ms : List Member) (m : ℕ)
      → ((j : ℕ) (x : List Ref) → slice_get xs j ≡ Some x → Reads (k + j) x)
      → ((j : ℕ) (y : Member) → slice_get ms j ≡ Some y → wasm_of L (k + j) ≡ Some y.wasm)
      → ((j : ℕ) → length ms ≤ j → wasm_of L (k + j) ≡ None)
      → m ≤ length xs
      → stubs_to s xs m ≡ s + length (from_members (stubs_of L) k (take m ms))
  counted_from s k xs ms zero reads there past few = omega arith
  counted_from s k [] ms (suc m) reads there past few = absurd (omega arith)
  counted_from s k (x ∷ xs) [] (suc m) reads there past few =
      let e : k + 0 ≡ k = omega arith in
      let none : wasm_of L k ≡ None = ap (wasm_of L) (sym e) ∙ past 0 (omega arith) in
      let empty : x ≡ [] = no_functions k x none (λ f. reads 0 x refl f ∙ ap (λ n. function_ref L n f) e) in
      let later = counted_from s (k + 1) xs [] m
      (λ j z at f. reads (suc j) z at f ∙ ap (λ n. function_ref L n f) (omega arith))
      (λ j z at. absurd cc)
      (λ j le. ap (wasm_of L) (omega arith) ∙ past (suc j) (omega arith)) (omega arith) in
      ap (λ l. stubs_to (stubs_end s l) xs m) empty ∙ later ∙ ap (λ (l : List Member). s + length (from_members (stubs_of L) (k + 1) l)) (take_none m)
    where
      take_none : (n : ℕ) → take {A = Member} n [] ≡ []
      take_none zero = refl
      take_none (suc n) = refl
  counted_from s k (x ∷ xs) (y ∷ ms) (suc m) reads there past few =
      let e : k + 0 ≡ k = omega arith in
      let reads_first : Reads k x = (λ f. reads 0 x refl f ∙ ap (λ n. function_ref L n f) e) in
      let first : wasm_of L k ≡ Some y.wasm = ap (wasm_of L) (sym e) ∙ there 0 y refl in
      let here = of_member s k x y.wasm reads_first first in
      let later = counted_from (stubs_end s x) (k + 1) xs ms m
      (λ j z at f. reads (suc j) z at f ∙ ap (λ n. function_ref L n f) (omega arith))
      (λ j z at. ap (wasm_of L) (omega arith) ∙ there (suc j) z at)
      (λ j le. ap (wasm_of L) (omega arith) ∙ past (suc j) (omega arith)) (omega arith) in
      let many = length-append (stubs_of L k y.wasm) (from_members (stubs_of L) (k + 1) (take m ms)) in
      later ∙ omega arith

  pub counted : (s : ℕ) (xs : List (List Ref)) (m : ℕ) → ((j : ℕ) (x : List Ref) → slice_get xs j ≡ Some x → Reads j x) → m ≤ length xs
      → stubs_to s xs m ≡ s + stubs_before L m
  counted s xs m reads few =
      counted_from s 0 xs L.set.members m
      (λ j x at f. reads j x at f ∙ ap (λ n. function_ref L n f) (omega arith))
      (λ j y at. ap (wasm_of L) (omega arith) ∙ ap (λ (o : Option Member). o >>= λ z. Some z.wasm) at)
      (λ j le. ap (wasm_of L) (omega arith) ∙ ap (λ (o : Option Member). o >>= λ z. Some z.wasm) (slice_get_past L.set.members j le))
      few

  -- ---- the number after all stubs

  -- where nothing is named there is no stub
  none_named : (m n : ℕ) → ((f : ℕ) → function_ref L m f ≡ None) → length (stubs_below L m n) ≡ 0
  none_named m n none = none_passes (λ f. is_stub (function_ref L m f)) 0 n (λ f le. ap is_stub (none f))

  ended_from : (s k : ℕ) (xs : List (List Ref)) (ms : List Member)
      → ((j : ℕ) (x : List Ref) → slice_get xs j ≡ Some x → Reads (k + j) x)
      → ((j f : ℕ) → length xs ≤ j → function_ref L (k + j) f ≡ None)
      → ((j : ℕ) (y : Member) → slice_get ms j ≡ Some y → wasm_of L (k + j) ≡ Some y.wasm)
      → ((j : ℕ) → length ms ≤ j → wasm_of L (k + j) ≡ None)
      → all_stubs_end s xs ≡ s + length (from_members (stubs_of L) k ms)
  ended_from s k [] [] reads unread there past = omega arith
  ended_from s k [] (y ∷ ms) reads unread there past =
      let none = none_named k (imported_count y.wasm) (λ f. ap (λ n. function_ref L n f) (omega arith) ∙ unread 0 f (omega arith)) in
      let later = ended_from s (k + 1) [] ms
      (λ j z at. absurd cc)
      (λ j f le. ap (λ n. function_ref L n f) (omega arith) ∙ unread (suc j) f (omega arith))
      (λ j z at. ap (wasm_of L) (omega arith) ∙ there (suc j) z at)
      (λ j le. ap (wasm_of L) (omega arith) ∙ past (suc j) (omega arith)) in
      let many = length-append (stubs_of L k y.wasm) (from_members (stubs_of L) (k + 1) ms) in
      later ∙ omega arith
  ended_from s k (x ∷ xs) [] reads unread there past =
      let e : k + 0 ≡ k = omega arith in
      let none : wasm_of L k ≡ None = ap (wasm_of L) (sym e) ∙ past 0 (omega arith) in
      let empty : x ≡ [] = no_functions k x none (λ f. reads 0 x refl f ∙ ap (λ n. function_ref L n f) e) in
      ap (λ l. all_stubs_end (stubs_end s l) xs) empty
      ∙ ended_from s (k + 1) xs []
      (λ j z at f. reads (suc j) z at f ∙ ap (λ n. function_ref L n f) (omega arith))
      (λ j f le. ap (λ n. function_ref L n f) (omega arith) ∙ unread (suc j) f (omega arith))
      (λ j z at. absurd cc)
      (λ j le. ap (wasm_of L) (omega arith) ∙ past (suc j) (omega arith))
  ended_from s k (x ∷ xs) (y ∷ ms) reads unread there past =
      let e : k + 0 ≡ k = omega arith in
      let reads_first : Reads k x = (λ f. reads 0 x refl f ∙ ap (λ n. function_ref L n f) e) in
      let first : wasm_of L k ≡ Some y.wasm = ap (wasm_of L) (sym e) ∙ there 0 y refl in
      let here = of_member s k x y.wasm reads_first first in
      let later = ended_from (stubs_end s x) (k + 1) xs ms
      (λ j z at f. reads (suc j) z at f ∙ ap (λ n. function_ref L n f) (omega arith))
      (λ j f le. ap (λ n. function_ref L n f) (omega arith) ∙ unread (suc j) f (omega arith))
      (λ j z at. ap (wasm_of L) (omega arith) ∙ there (suc j) z at)
      (λ j le. ap (wasm_of L) (omega arith) ∙ past (suc j) (omega arith)) in
      let many = length-append (stubs_of L k y.wasm) (from_members (stubs_of L) (k + 1) ms) in
      later ∙ omega arith

  pub ended : (s : ℕ) (xs : List (List Ref)) → ((m f : ℕ) → (slice_get xs m >>= λ x. slice_get x f) ≡ function_ref L m f)
      → all_stubs_end s xs ≡ s + stubs_before L (length L.set.members)
  ended s xs reads =
      ended_from s 0 xs L.set.members
      (λ j x at f. ap (λ (o : Option (List Ref)). o >>= λ y. slice_get y f) (sym at) ∙ reads j f ∙ ap (λ n. function_ref L n f) (omega arith))
      (λ j f le. ap (λ n. function_ref L n f) (omega arith) ∙ sym (reads j f)
      ∙ ap (λ (o : Option (List Ref)). o >>= λ y. slice_get y f) (slice_get_past xs j le))
      (λ j y at. ap (wasm_of L) (omega arith) ∙ ap (λ (o : Option Member). o >>= λ z. Some z.wasm) at)
      (λ j le. ap (wasm_of L) (omega arith) ∙ ap (λ (o : Option Member). o >>= λ z. Some z.wasm) (slice_get_past L.set.members j le))
      ∙ ap (λ (ms : List Member). s + length (from_members (stubs_of L) 0 ms)) (sym (take_all (length L.set.members) L.set.members (omega arith)))
