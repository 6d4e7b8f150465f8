-- The code of a search is small.
use Rattle.std.proofs.Common.{◌≡◌, ℕ, zero, suc, ◌+◌, ◌*◌, ◌^◌, ◌≤◌, ◌<◌, List, [], ◌∷◌, ◌++◌, length, slice_get, nat_le, Some, Bool, true, false, if◌then◌else◌, refl, sym, ap, ◌∙◌, subst, arith}
use Rattle.std.specs.List.{AllByRecursion as Each}
use Rattle.std.proofs.Math.Nat.{pow-suc, mul-add, add-mul, mul-le-mul_left}
use Rattle.std.proofs.lemmas.Bool.Decides.{nat_tests}
use Rattle.wasm_form.specs.declared.instr.BlockType.TheVariants.{Empty}
use Rattle.wasm_form.specs.declared.instr.Instr.{Instr, Plain, Block}
use Rattle.merge_pieces.specs.Opcodes as op
use Rattle.merge_find.specs.declared.key.Key.{Key}
use Rattle.merge_find.specs.declared.key.Key.TheVariants.{Size, Byte}
use Rattle.merge_find.specs.Decisions.{Goal, Named, Nested, value, is_below, lower, upper, asked, exact_code, either, sides, halved, found_code, by_bytes, search_code}
use Rattle.merge_find.specs.Shape.{IsAsking, gets, loads, numbers, tests_below, tests_least, tests_other, leaves, IsMade, asks, finds, misses, both, in_block, in_when, within, names_cost, SearchIsSmall}
use Rattle.merge_find.proofs.Halving.{both_sides, all_upper, all_lower}
use Rattle.merge_find.proofs.Names.{each_map, each_lower, each_upper}

-- ---- what names cost

cost_sides : (each : ℕ) (key : Key) (b : ℕ) (xs : List Named) → names_cost each (lower key b xs) + names_cost each (upper key b xs) ≡ names_cost each xs
cost_sides each key b [] = refl
cost_sides each key b (x ∷ xs) = go (is_below key b x) (cost_sides each key b xs)
  where
    go : (z : Bool) → names_cost each (lower key b xs) + names_cost each (upper key b xs) ≡ names_cost each xs
        → names_cost each (if z then x ∷ lower key b xs else lower key b xs) + names_cost each (if z then upper key b xs else x ∷ upper key b xs)
        ≡ 5 * length x.0 + each + names_cost each xs
    go true e = omega (arith, e)
    go false e = omega (arith, e)

cost_more : (each more : ℕ) (xs : List Named) → names_cost (each + more) xs ≡ names_cost each xs + more * length xs
cost_more each more [] = omega arith
cost_more each more (x ∷ xs) = (let later = cost_more each more xs in omega arith)

-- ---- names among all

abbrev IsAmong : List Named → Named → Type 0
IsAmong all x = (k : ℕ) × (slice_get all k ≡ Some x)

each_among : (all xs : List Named) → ((x : Named) → IsAmong xs x → IsAmong all x) → Each (IsAmong all) xs
each_among all [] f = tt
each_among all (x ∷ xs) f = (f x (0, refl), each_among all xs (λ y h. f y (suc h.0, h.1)))

module _ (g : Goal) (all : List Named) (inside found missed : ℕ) where
  abbrev Made : ℕ → ℕ → List Instr → Type 0
  Made deep size code = IsMade g all inside found missed deep size code

  abbrev among : List Named → Type 0
  among xs = Each (IsAmong all) xs

  -- ---- pieces

  then_made : {deep size : ℕ} {i : Instr} {is : List Instr} → IsAsking i → Made deep size is → Made deep (1 + size) (i ∷ is)
  then_made is rest = both (asks is) rest

  no_deeper : {deep size : ℕ} {is : List Instr} (more_deep more : ℕ) → deep ≤ more_deep → size ≤ more → Made deep size is → Made more_deep more is
  no_deeper more_deep more below few p = within below few p

  asked_made : (len : ℕ) (key : Key) (operator b deep size more : ℕ) (code rest : List Instr) → IsAsking (Plain operator) → Made deep size code → Made (suc deep) more rest
      → Made (suc deep) (size + more + 5) (asked len key operator b code ++ rest)
  unfolding asked
  asked_made len Size operator b deep size more code rest tests inner behind =
      no_deeper (suc deep) (size + more + 5) (omega arith) (omega arith) (then_made (gets len) (then_made (numbers b) (then_made tests (both (in_when inner) behind))))
  asked_made len (Byte i) operator b deep size more code rest tests inner behind =
      no_deeper (suc deep) (size + more + 5) (omega arith) (omega arith)
      (then_made (gets 0) (then_made (loads i) (then_made (numbers b) (then_made tests (both (in_when inner) behind)))))

  exact_made : (len : ℕ) (key : Key) (b out deep size : ℕ) (rest : List Instr) → Made deep size rest → Made deep (size + 5) (exact_code len key b out ++ rest)
  unfolding exact_code
  exact_made len Size b out deep size rest behind =
      no_deeper deep (size + 5) (omega arith) (omega arith) (then_made (gets len) (then_made (numbers b) (then_made tests_other (then_made (leaves out) behind))))
  exact_made len (Byte i) b out deep size rest behind =
      no_deeper deep (size + 5) (omega arith) (omega arith)
      (then_made (gets 0) (then_made (loads i) (then_made (numbers b) (then_made tests_other (then_made (leaves out) behind)))))

  -- ---- questions

  -- as deep as the names can be halved, and five less than so many instructions
  abbrev Shape : ℕ → List Named → Nested → Type 0
  Shape most xs code = (n : ℕ) → length xs ≤ 2 ^ n → (out : ℕ) → (size : ℕ) × (size + 5 ≤ most) × Made (n + inside) size (code out)

  half_few : (a k n : ℕ) → a ≤ k → a + k ≤ 2 ^ suc n → a ≤ 2 ^ n
  half_few a k n le sum = (let twice = pow-suc 2 n in omega arith)

  -- What names cost is the sum of what those on either side do.
  module _ (cost : List Named → ℕ) (sums : (key : Key) (b : ℕ) (xs : List Named) → cost (lower key b xs) + cost (upper key b xs) ≡ cost xs) (key : Key) where
    module _ (b : ℕ) where
      -- the side with fewer names is in the block
      asked_shape : (operator : ℕ) (us vs xs : List Named) (inner behind : Nested) → IsAsking (Plain operator) → 0 < length us → length us ≤ length vs
          → length us + length vs ≡ length xs → cost us + cost vs ≡ cost xs → Shape (cost us) us inner → Shape (cost vs) vs behind
          → Shape (cost xs) xs (λ out. asked g.len key operator b (inner (suc out)) ++ behind out)
      asked_shape operator us vs xs inner behind tests some few sum total x y zero le out = absurd (omega (arith, le, sum, few, some))
      asked_shape operator us vs xs inner behind tests some few sum total x y (suc n) le out =
          let i = x n (half_few (length us) (length vs) n few (omega (arith, le, sum))) (suc out) in
          let o = y (suc n) (omega (arith, le, sum)) out in
          let a = i.1 in
          let z = o.1 in
          let made = asked_made g.len key operator b (n + inside) i.0 o.0 (inner (suc out)) (behind out) tests i.2 (no_deeper (suc (n + inside)) o.0 (omega arith) (omega arith) o.2) in
          (i.0 + o.0 + 5, omega arith, no_deeper (suc n + inside) (i.0 + o.0 + 5) (omega arith) (omega arith) made)

      either_shape : (us vs xs : List Named) (low high : Nested) → 0 < length us → 0 < length vs → length us + length vs ≡ length xs
          → cost us + cost vs ≡ cost xs → Shape (cost us) us low → Shape (cost vs) vs high → (z : Bool) → nat_le (length us) (length vs) ≡ z
          → Shape (cost xs) xs (either g.len key b z low high)
      either_shape us vs xs low high one other sum total x y true e =
          (let few : length us ≤ length vs = grind (arith, nat_tests) in asked_shape op.i32_lt_u us vs xs low high tests_below one few sum total x y)
      either_shape us vs xs low high one other sum total x y false e =
          (let few : length vs ≤ length us = grind (arith, nat_tests) in asked_shape op.i32_ge_u vs us xs high low tests_least other few (omega (arith, sum)) (omega (arith, total)) y x)

      sides_shape : (low high : List Named → Nested) (xs : List Named) → 0 < length xs
          → (0 < length (lower key b xs) → Shape (cost (lower key b xs)) (lower key b xs) (low (lower key b xs)))
          → (0 < length (upper key b xs) → Shape (cost (upper key b xs)) (upper key b xs) (high (upper key b xs)))
          → Shape (cost xs) xs (sides g.len key b low high (lower key b xs) (upper key b xs))
      sides_shape low high xs some lows highs = go (lower key b xs) (upper key b xs) refl refl lows highs
        where
          go : (us vs : List Named) → lower key b xs ≡ us → upper key b xs ≡ vs → (0 < length us → Shape (cost us) us (low us)) → (0 < length vs → Shape (cost vs) vs (high vs))
              → Shape (cost xs) xs (sides g.len key b low high us vs)
          go [] vs d e p q =
              let same : vs ≡ xs = sym e ∙ all_upper key b xs (ap length d) in
              subst (λ l. Shape (cost l) l (high vs)) same (q (rw same some))
          go (i ∷ us) [] d e p q =
              let same : i ∷ us ≡ xs = sym d ∙ all_lower key b xs (ap length e) in
              subst (λ l. Shape (cost l) l (low (i ∷ us))) same (p (omega arith))
          go (i ∷ us) (k ∷ vs) d e p q =
              let sum : length (i ∷ us) + length (k ∷ vs) ≡ length xs = omega (arith, both_sides key b xs, ap length d, ap length e) in
              let total : cost (i ∷ us) + cost (k ∷ vs) ≡ cost xs = omega (arith, sums key b xs, ap cost d, ap cost e) in
              either_shape (i ∷ us) (k ∷ vs) xs (low (i ∷ us)) (high (k ∷ vs)) (omega arith) (omega arith) sum total (p (omega arith)) (q (omega arith))
              (nat_le (length (i ∷ us)) (length (k ∷ vs))) refl

    abbrev Known : ℕ → Named → Type 0
    Known least x = IsAmong all x × (least ≤ value key x.0)

    halved_shape : (next : ℕ → List Named → Nested)
        → ((b : ℕ) (xs : List Named) → 0 < length xs → Each (Known b) xs → Shape (cost xs) xs (λ out. exact_code g.len key b out ++ next b xs out))
        → (w least : ℕ) (xs : List Named) → 0 < length xs → Each (Known least) xs → Shape (cost xs) xs (halved g.len key next w least xs)
    halved_shape next at_next zero least xs some known = at_next least xs some known
    halved_shape next at_next (suc w) least xs some known =
        let b = least + 2 ^ w in
        sides_shape b (halved g.len key next w least) (halved g.len key next w b) xs some
        (λ there. halved_shape next at_next w least (lower key b xs) there
        (each_map (λ x. Known least x × (is_below key b x ≡ true)) (Known least) (λ x h. h.0) (lower key b xs) (each_lower (Known least) key b xs known)))
        (λ there. halved_shape next at_next w b (upper key b xs) there
        (each_map (λ x. Known least x × (is_below key b x ≡ false)) (Known b) (λ x h. ((h.0).0, (let e = h.1 in grind (arith, nat_tests)))) (upper key b xs) (each_upper (Known least) key b xs known)))

  -- ---- bytes

  -- so many for each name
  abbrev flat : ℕ → List Named → ℕ
  flat each xs = each * length xs

  flat_sides : (each : ℕ) (key : Key) (b : ℕ) (xs : List Named) → flat each (lower key b xs) + flat each (upper key b xs) ≡ flat each xs
  flat_sides each key b xs = sym (mul-add each (length (lower key b xs)) (length (upper key b xs))) ∙ ap (λ n. each * n) (both_sides key b xs)

  more_flat : (each few most n : ℕ) → 0 < n → few + 5 ≤ each * n → most ≡ 5 + each → few + 5 + 5 ≤ most * n
  more_flat each few most n some le e = (let sum = add-mul 5 each n in rw e (omega arith))

  abbrev each_leaf : ℕ → ℕ
  each_leaf k = 5 * k + (found + 5)

  found_shape : (xs : List Named) → 0 < length xs → Each (IsAmong all) xs → Shape (flat (each_leaf 0) xs) xs (λ out. found_code g xs)
  found_shape [] some known n le out = absurd (omega (arith, some))
  found_shape (x ∷ xs) some known n le out =
      let more = mul-le-mul_left (each_leaf 0) some in
      (found, omega arith, no_deeper (n + inside) found (omega arith) (omega arith) (finds (known.0).0 (known.0).1))

  by_bytes_shape : (k i : ℕ) (xs : List Named) → 0 < length xs → Each (IsAmong all) xs → Shape (flat (each_leaf k) xs) xs (by_bytes g k i xs)
  by_bytes_shape zero i xs some known = found_shape xs some known
  by_bytes_shape (suc k) i xs some known =
      halved_shape (flat (each_leaf (suc k))) (flat_sides (each_leaf (suc k))) (Byte i) (λ b. by_bytes g k (i + 1))
      (λ b ys there here n le out.
      (let r = by_bytes_shape k (i + 1) ys there (each_map (λ x. IsAmong all x × (b ≤ value (Byte i) x.0)) (IsAmong all) (λ x h. h.0) ys here) n le out in
      (r.0 + 5, more_flat (each_leaf k) r.0 (each_leaf (suc k)) (length ys) there r.1 (omega arith), exact_made g.len (Byte i) b out (n + inside) r.0 (by_bytes g k (i + 1) ys out) r.2)))
      32 0 xs some (each_map (IsAmong all) (λ x. IsAmong all x × (0 ≤ value (Byte i) x.0)) (λ x h. (h, omega arith)) xs known)

  -- ---- the search

  -- names of so many bytes at least
  long_cost : (k each : ℕ) (xs : List Named) → Each (λ x. IsAmong all x × (k ≤ length x.0)) xs → (5 * k + each) * length xs ≤ names_cost each xs
  long_cost k each [] known = omega arith
  long_cost k each (x ∷ xs) known =
      let later = long_cost k each xs known.1 in
      let long = (known.0).1 in
      let one = mul-add (5 * k + each) 1 (length xs) in
      omega arith

  inner_shape : (xs : List Named) → 0 < length xs → Each (IsAmong all) xs → Shape (names_cost (found + 10) xs) xs (halved g.len Size (λ k. by_bytes g k 0) 32 0 xs)
  inner_shape xs some known =
      halved_shape (names_cost (found + 10)) (cost_sides (found + 10)) Size (λ k. by_bytes g k 0)
      (λ k ys there here n le out.
      (let r = by_bytes_shape k 0 ys there (each_map (λ x. IsAmong all x × (k ≤ length x.0)) (IsAmong all) (λ x h. h.0) ys here) n le out in
      let long = long_cost k (found + 10) ys here in
      let more = more_flat (each_leaf k) r.0 (5 * k + (found + 10)) (length ys) there r.1 (omega arith) in
      (r.0 + 5, omega (arith, long, more), exact_made g.len Size k out (n + inside) r.0 (by_bytes g k 0 ys out) r.2)))
      32 0 xs some (each_map (IsAmong all) (λ x. IsAmong all x × (0 ≤ length x.0)) (λ x h. (h, omega arith)) xs known)

pub search_small : SearchIsSmall
unfolding search_code
search_small g inside found missed n [] le = within (omega arith) (omega arith) misses
search_small g inside found missed n (x ∷ xs) le =
    let r = inner_shape g (x ∷ xs) inside found missed (x ∷ xs) (omega arith) (each_among (x ∷ xs) (x ∷ xs) (λ y h. h)) n le 0 in
    let few = r.1 in
    let cost : names_cost (found + 2 * missed + 10) (x ∷ xs) ≡ names_cost (found + 10) (x ∷ xs) + 2 * missed * length (x ∷ xs) =
    ap (λ k. names_cost k (x ∷ xs)) (let same : found + 2 * missed + 10 ≡ found + 10 + 2 * missed = omega arith in same) ∙ cost_more (found + 10) (2 * missed) (x ∷ xs) in
    let code = halved g.len Size (λ k. by_bytes g k 0) 32 0 (x ∷ xs) 0 in
    let behind : IsMade g (x ∷ xs) inside found missed (suc (n + inside)) missed g.missed = within (omega arith) (omega arith) misses in
    let made : IsMade g (x ∷ xs) inside found missed (suc (n + inside)) (suc r.0 + missed) (Block Empty (record { list = code }) ∷ g.missed) = both (in_block r.2) behind in
    within (omega arith) (omega (arith, few, cost)) made
