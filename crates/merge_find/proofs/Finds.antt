-- The code of a search comes to what is done for the name that is the string: among whatever names, and soon where they are of bytes. By induction
-- on what has been asked: of the questions that halve values, of the bytes behind, and of the whole.
use Rattle.std.proofs.Common.{◌≡◌, ℕ, zero, suc, ◌+◌, ◌-◌, ◌*◌, ◌^◌, ◌<◌, ◌≤◌, min, List, [], ◌∷◌, ◌++◌, length, take, get_or, nat_eq, nat_lt, nat_le, None, unwrap_or, Bool, true, false, refl, sym, ap, ap₂, ◌∙◌, subst, arith, add-one, take_all}
use Rattle.std.specs.Prelude.{bytes_eq}
use Rattle.std.specs.List.{AllByRecursion as Each}
use Rattle.std.proofs.Math.Nat.{pow-suc, min-le_left, min-le_right, le-min}
use Rattle.std.proofs.Math.Pow.{pow_mono}
use Rattle.std.proofs.Math.Seq.{take-suc}
use Rattle.std.proofs.lemmas.Bool.Decides.{nat_tests}
use Rattle.std.proofs.lemmas.Slice.Eq.{bytes_eq-Decides}
use Rattle.wasm_form.specs.declared.instr.Instr.{Instr}
use Rattle.wasm_form.specs.declared.module.Module.{Module}
use Rattle.wasm_form.specs.declared.runtime.Value.{Value}
use Rattle.spec_execution.specs.spec_runtime.Memories.{MemoryInstance}
use Rattle.spec_execution.specs.Activations.{Activation}
use Rattle.spec_execution.specs.Runs.{Frame}
use Rattle.spec_execution.specs.Instances.{ModuleParts}
use Rattle.spec_execution.specs.OneModule.{Starting}
use Rattle.merge_find.specs.declared.key.Key.{Key}
use Rattle.merge_find.specs.declared.key.Key.TheVariants.{Size, Byte}
use Rattle.merge_find.specs.Decisions.{Goal, Named, Nested, value, is_below, lower, upper, either, sides, exact_code, halved, found_code, by_bytes, search_code, strings}
use Rattle.merge_find.specs.Counted.{Comes}
use Rattle.merge_find.specs.Finding.{first_named, search_steps, SearchComes, SearchComesSoon}
use Rattle.merge_find.proofs.Halving.{both_sides, all_upper, all_lower, narrow}
use Rattle.merge_find.proofs.Steps.{LeavesTo, Leads, leads_here, leads_more, leads_block}
use Rattle.merge_find.proofs.Questions.{IsAsked, InReach, either_low, either_high, exact_on, exact_off}
use Rattle.merge_find.proofs.Names.{each_map, each_lower, each_upper, named_lower, named_upper, none_here, some_power, strings_few, InRange, below_in, above_in, only_one, Fits, strings_fit, texts_fit, same_strings, texts_are_strings}

-- ---- how many questions are asked

-- Each leaves fewer names, and fewer bits: there are fewer than so many names, and at most so many bits.
abbrev questions : ℕ → ℕ → ℕ
questions names bits = min (names - 1) bits

fewer_bits : (names bits : ℕ) → questions names bits ≤ questions names (suc bits)
fewer_bits names bits = (let few = min-le_right (names - 1) bits in le-min (min-le_left (names - 1) bits) (omega (arith, few)))

fewer_names : (some names bits : ℕ) → 0 < some → some < names → suc (questions some bits) ≤ questions names (suc bits)
fewer_names some names bits there less =
    let few = min-le_left (some - 1) bits in
    let short = min-le_right (some - 1) bits in
    le-min (omega (arith, few, there, less)) (omega (arith, short))

-- the length is a question's worth more
with_length : (some names bits : ℕ) → 0 < some → some ≤ names → suc (questions some bits) ≤ min names (suc bits)
with_length some names bits there le =
    let few = min-le_left (some - 1) bits in
    let short = min-le_right (some - 1) bits in
    le-min (omega (arith, few, there, le)) (omega (arith, short))

module _ (wasm : Module) (us : ModuleParts) (memory : MemoryInstance) (g : Goal) (p : ℕ) (s : List ℕ) (ls : List Value) (is : IsAsked memory g p s ls) (a : Activation)
    (under : List (Frame Starting)) where
  -- In at most so many steps the code comes to what is done for the first of these names that is the string, however deep it stands.
  abbrev Right : ℕ → List Named → Nested → Type 0
  Right n xs code = (deep : ℕ) → Leads a under wasm n (code deep) us memory ls (LeavesTo g.missed deep) (unwrap_or (first_named xs s) g.missed)

  right_more : (n m : ℕ) (xs : List Named) (code : Nested) → n ≤ m → Right n xs code → Right m xs code
  right_more n m xs code le x deep = leads_more a under m le (x deep)

  right_alike : (n : ℕ) (xs ys : List Named) (code : Nested) → first_named ys s ≡ first_named xs s → Right n ys code → Right n xs code
  right_alike n xs ys code e x deep = subst (λ o. Leads a under wasm n (code deep) us memory ls (LeavesTo g.missed deep) (unwrap_or o g.missed)) e (x deep)

  -- ---- questions

  module _ (key : Key) (reach : InReach key s) where
    module _ (b : ℕ) (small : b < 2 ^ 32) (n : ℕ) (xs : List Named) where
      asked_right : (low high : Nested) (first : Bool) → Right n (lower key b xs) low → Right n (upper key b xs) high → Right (6 + n) xs (either g.len key b first low high)
      asked_right low high first x y = go (nat_lt (value key s) b) refl
        where
          end : List Instr
          end = unwrap_or (first_named xs s) g.missed

          go : (z : Bool) → nat_lt (value key s) b ≡ z → Right (6 + n) xs (either g.len key b first low high)
          go true e = either_low wasm us memory g p s ls is a under end key b n low high reach small first e (right_alike n xs (lower key b xs) low (named_lower key b s xs e) x)
          go false e = either_high wasm us memory g p s ls is a under end key b n low high reach small first e (right_alike n xs (upper key b xs) high (named_upper key b s xs e) y)

    -- in so many steps, and six for each question that may come
    module _ (b : ℕ) (small : b < 2 ^ 32) (n bits : ℕ) (xs : List Named) (low high : List Named → Nested) where
      abbrev whole_steps : ℕ
      whole_steps = n + 6 * questions (length xs) (suc bits)

      one_side : (ys : List Named) (code : Nested) → ys ≡ xs → Right (n + 6 * questions (length ys) bits) ys code → Right whole_steps xs code
      one_side ys code all x =
          let few : questions (length ys) bits ≤ questions (length xs) (suc bits) =
          subst (λ l. questions (length l) bits ≤ questions (length xs) (suc bits)) (sym all) (fewer_bits (length xs) bits) in
          right_more (n + 6 * questions (length ys) bits) whole_steps xs code (omega (arith, few)) (right_alike (n + 6 * questions (length ys) bits) xs ys code (ap (λ l. first_named l s) all) x)

      -- after the question
      abbrev rest_steps : ℕ
      rest_steps = n + 6 * (questions (length xs) (suc bits) - 1)

      a_side : (ys zs : List Named) (code : Nested) → 0 < length ys → length ys < length xs → zs ≡ ys → Right (n + 6 * questions (length ys) bits) ys code
          → Right rest_steps zs code
      a_side ys zs code some less same x =
          let few = fewer_names (length ys) (length xs) bits some less in
          subst (λ l. Right rest_steps l code) (sym same) (right_more (n + 6 * questions (length ys) bits) rest_steps ys code (omega (arith, few)) x)

      sides_right : 0 < length xs → (0 < length (lower key b xs) → Right (n + 6 * questions (length (lower key b xs)) bits) (lower key b xs) (low (lower key b xs)))
          → (0 < length (upper key b xs) → Right (n + 6 * questions (length (upper key b xs)) bits) (upper key b xs) (high (upper key b xs)))
          → Right whole_steps xs (sides g.len key b low high (lower key b xs) (upper key b xs))
      sides_right some x y = go (lower key b xs) (upper key b xs) refl refl x y
        where
          sum : length (lower key b xs) + length (upper key b xs) ≡ length xs
          sum = both_sides key b xs

          go : (us vs : List Named) → lower key b xs ≡ us → upper key b xs ≡ vs → (0 < length us → Right (n + 6 * questions (length us) bits) us (low us))
              → (0 < length vs → Right (n + 6 * questions (length vs) bits) vs (high vs)) → Right whole_steps xs (sides g.len key b low high us vs)
          go [] vs d e u v = (let all : vs ≡ xs = sym e ∙ all_upper key b xs (ap length d) in one_side vs (high vs) all (v (rw all some)))
          go (i ∷ us) [] d e u v =
              (let all : i ∷ us ≡ xs = sym d ∙ all_lower key b xs (ap length e) in one_side (i ∷ us) (low (i ∷ us)) all (u (omega arith)))
          go (i ∷ us) (k ∷ vs) d e u v =
              let few : length (i ∷ us) + length (k ∷ vs) ≡ length xs = ap₂ (λ (l r : List Named). length l + length r) (sym d) (sym e) ∙ sum in
              let asked_once = fewer_names (length (i ∷ us)) (length xs) bits (omega arith) (omega (arith, few)) in
              right_more (6 + rest_steps) whole_steps xs (either g.len key b (nat_le (length (i ∷ us)) (length (k ∷ vs))) (low (i ∷ us)) (high (k ∷ vs))) (omega (arith, asked_once))
              (asked_right b small rest_steps xs (low (i ∷ us)) (high (k ∷ vs)) (nat_le (length (i ∷ us)) (length (k ∷ vs)))
              (a_side (i ∷ us) (lower key b xs) (low (i ∷ us)) (omega arith) (omega (arith, few)) d (u (omega arith)))
              (a_side (k ∷ vs) (upper key b xs) (high (k ∷ vs)) (omega arith) (omega (arith, few)) e (v (omega arith))))

    -- What is known of each name goes over to those on either side. Where one value is left, no name of it is a string of another.
    module _ (P : Named → Type 0) (next : ℕ → List Named → Nested) (n bits : ℕ)
        (at_next : (b : ℕ) (xs : List Named) → 0 < length xs → value key s ≡ b → Each (λ x. P x × (value key x.0 ≡ b)) xs → Right (n + 6 * questions (length xs) bits) xs (next b xs)) where
      exact_right : (b : ℕ) (xs : List Named) → b < 2 ^ 32 → 0 < length xs → Each (λ x. P x × (value key x.0 ≡ b)) xs
          → Right (5 + (n + 6 * questions (length xs) bits)) xs (λ deep. exact_code g.len key b deep ++ next b xs deep)
      exact_right b xs small some each = go (nat_eq (value key s) b) refl
        where
          m : ℕ
          m = n + 6 * questions (length xs) bits

          go : (z : Bool) → nat_eq (value key s) b ≡ z → Right (5 + (n + 6 * questions (length xs) bits)) xs (λ deep. exact_code g.len key b deep ++ next b xs deep)
          go true e deep =
              let same : value key s ≡ b = grind (arith, nat_tests) in
              exact_on wasm us memory g p s ls is a under key b deep (next b xs deep) reach small m e (at_next b xs some same each deep)
          go false e deep =
              let differ : value key s ≡ b → ⊥ = (λ h. (let t : nat_eq (value key s) b ≡ true = grind (arith, nat_tests) in cc)) in
              let none : first_named xs s ≡ None = none_here key s b xs differ (each_map (λ x. P x × (value key x.0 ≡ b)) (λ x. value key x.0 ≡ b) (λ x h. h.1) xs each) in
              leads_more a under (5 + m) (omega arith)
              (subst (λ o. Leads a under wasm 5 (exact_code g.len key b deep ++ next b xs deep) us memory ls (LeavesTo g.missed deep) (unwrap_or o g.missed)) (sym none)
              (exact_off wasm us memory g p s ls is a under key b deep (next b xs deep) reach small e))

      abbrev Ranged : ℕ → ℕ → Named → Type 0
      Ranged w least x = P x × InRange key w least x

      halved_right : (w least : ℕ) (xs : List Named) → least + 2 ^ w ≤ 2 ^ 32 → 0 < length xs → Each (Ranged w least) xs
          → Right (5 + n + 6 * questions (length xs) (w + bits)) xs (halved g.len key next w least xs)
      halved_right zero least xs room some each =
          right_more (5 + (n + 6 * questions (length xs) bits)) (5 + n + 6 * questions (length xs) (0 + bits)) xs _ (omega arith)
          (exact_right least xs (omega arith) some (each_map (Ranged 0 least) (λ x. P x × (value key x.0 ≡ least)) (λ x h. (h.0, only_one key least x h.1)) xs each))
      halved_right (suc w) least xs room some each =
          let b = least + 2 ^ w in
          let twice = pow-suc 2 w in
          let positive = some_power w in
          let lows = each_map (λ x. Ranged (suc w) least x × (is_below key b x ≡ true)) (Ranged w least) (λ x h. ((h.0).0, below_in key w least x (h.0).1 h.1)) (lower key b xs) (each_lower (Ranged (suc w) least) key b xs each) in
          let highs = each_map (λ x. Ranged (suc w) least x × (is_below key b x ≡ false)) (Ranged w b) (λ x h. ((h.0).0, above_in key w least x (h.0).1 h.1)) (upper key b xs) (each_upper (Ranged (suc w) least) key b xs each) in
          let one_bit : suc (w + bits) ≡ suc w + bits = omega arith in
          subst (λ t. Right (5 + n + 6 * questions (length xs) t) xs (halved g.len key next (suc w) least xs)) one_bit
          (sides_right b (omega arith) (5 + n) (w + bits) xs (halved g.len key next w least) (halved g.len key next w b) some
          (λ there. halved_right w least (lower key b xs) (omega arith) there lows) (λ there. halved_right w b (upper key b xs) (omega arith) there highs))

  -- ---- bytes, each of so many bits

  module _ (w : ℕ) (few : w ≤ 32) where
    -- as long as the string, and beginning like it
    record Row (i : ℕ) (x : Named) : Type 0 where
      fits : Fits w x
      size : length x.0 ≡ length s
      begins : take i x.0 ≡ take i s

    next_row : (i b : ℕ) (x : Named) → i < length s → get_or s i 0 ≡ b → Row i x → get_or x.0 i 0 ≡ b → Row (i + 1) x
    next_row i b x lt here r e =
        let l = r.size in
        let f = r.begins in
        record { fits = r.fits; size = r.size; begins = rw (add-one, take-suc x.0 i 0 (omega arith), take-suc s i 0 lt, f, e, here) refl }

    whole : (i : ℕ) (x : Named) → length s ≡ i → Row i x → s ≡ x.0
    whole i x e r = (let l = r.size in sym (take_all i s (omega arith)) ∙ sym r.begins ∙ take_all i x.0 (omega arith))

    found_right : (i : ℕ) (xs : List Named) → 0 < length xs → length s ≡ i → Each (Row i) xs → Right 0 xs (λ deep. found_code g xs)
    found_right i [] some e each deep = absurd (omega (arith, some))
    found_right i (x ∷ xs) some e each deep =
        let is : bytes_eq s x.0 ≡ true = (bytes_eq-Decides s x.0).1 (whole i x e each.0) in
        rw is (leads_here a under)

    by_bytes_right : (k i : ℕ) (xs : List Named) → 0 < length xs → length s ≡ i + k → Each (Row i) xs → Right (5 * k + 6 * questions (length xs) (w * k)) xs (by_bytes g k i xs)
    by_bytes_right zero i xs some e each = right_more 0 (5 * 0 + 6 * questions (length xs) (w * 0)) xs _ (omega arith) (found_right i xs some (omega (arith, e)) each)
    by_bytes_right (suc k) i xs some e each =
        let next : ℕ → List Named → Nested = λ b. by_bytes g k (i + 1) in
        let lt : i < length s = omega (arith, e) in
        let room = power_few in
        let fewer = narrow g.len (Byte i) next (32 - w) w 32 xs (omega arith) some (each_map (Row i) (λ x. get_or x.0 i 0 < 2 ^ w) (λ x r. r.fits.words i) xs each) in
        let bits : w + w * k ≡ w * suc k = omega arith in
        subst (Right (5 * suc k + 6 * questions (length xs) (w * suc k)) xs) (sym fewer)
        (subst (λ t. Right (5 * suc k + 6 * questions (length xs) t) xs (halved g.len (Byte i) next w 0 xs)) bits
        (right_more (5 + 5 * k + 6 * questions (length xs) (w + w * k)) (5 * suc k + 6 * questions (length xs) (w + w * k)) xs _ (omega arith)
        (halved_right (Byte i) lt (Row i) next (5 * k) (w * k)
        (λ b ys there here known. by_bytes_right k (i + 1) ys there (omega (arith, e)) (each_map (λ x. Row i x × (get_or x.0 i 0 ≡ b)) (Row (i + 1)) (λ x h. next_row i b x lt here h.0 h.1) ys known))
        w 0 xs (omega arith) some (each_map (Row i) (λ x. Row i x × InRange (Byte i) w 0 x) (λ x r. (r, (let small = r.fits.words i in record { low = omega arith; high = omega arith }))) xs each))))
      where
        power_few : 2 ^ w ≤ 2 ^ 32
        power_few = pow_mono few

    -- ---- the whole

    inner_right : (xs : List Named) → 0 < length xs → Each (Fits w) xs
        → Right (5 + 5 * length s + 6 * questions (length xs) (32 + w * length s)) xs (halved g.len Size (λ k. by_bytes g k 0) 32 0 xs)
    inner_right xs some each =
        halved_right Size tt (Fits w) (λ k. by_bytes g k 0) (5 * length s) (w * length s)
        (λ k ys there here known.
        subst (λ j. Right (5 * j + 6 * questions (length ys) (w * j)) ys (by_bytes g k 0 ys)) (sym here)
        (by_bytes_right k 0 ys there (omega (arith, here)) (each_map (λ x. Fits w x × (length x.0 ≡ k)) (Row 0) (λ x h. record { fits = h.0; size = h.1 ∙ sym here; begins = refl }) ys known)))
        32 0 xs (omega arith) some (each_map (Fits w) (λ x. Fits w x × InRange Size 32 0 x) (λ x h. (h, (let short = h.short in record { low = omega arith; high = omega arith }))) xs each)

    pub search_leads : (most : ℕ) (xs : List Named) → length xs ≤ most → Each (Fits w) xs
        → Leads a under wasm (search_steps w most (length s)) (search_code g xs) us memory ls (λ lv. Unit {0}) (unwrap_or (first_named xs s) g.missed)
    unfolding search_code
    search_leads most [] le each = leads_more a under (search_steps w most (length s)) (omega arith) (leads_here a under)
    search_leads most (x ∷ xs) le each =
        let turns = with_length (length (x ∷ xs)) most (32 + w * length s) (omega arith) le in
        let same : suc (32 + w * length s) ≡ w * length s + 33 = omega arith in
        let few : suc (questions (length (x ∷ xs)) (32 + w * length s)) ≤ min most (w * length s + 33) =
        subst (λ t. suc (questions (length (x ∷ xs)) (32 + w * length s)) ≤ min most t) same turns in
        leads_block a under g.missed (halved g.len Size (λ k. by_bytes g k 0) 32 0 (x ∷ xs) 0) (5 + 5 * length s + 6 * questions (length (x ∷ xs)) (32 + w * length s))
        (search_steps w most (length s)) (omega (arith, few))
        (λ vs r lv. record { below = vs; more = r; there = refl }) (inner_right (x ∷ xs) (omega arith) each 0)

-- wherever the search stands
search_comes : (wasm : Module) (us : ModuleParts) (memory : MemoryInstance) (g : Goal) (p : ℕ) (s : List ℕ) (ls : List Value) → IsAsked memory g p s ls → (w : ℕ) → w ≤ 32
    → (most : ℕ) (xs : List Named) → length xs ≤ most → Each (Fits w) xs → Comes wasm (search_steps w most (length s)) (search_code g xs) us memory ls (unwrap_or (first_named xs s) g.missed)
search_comes wasm us memory g p s ls is w few most xs le each =
    record { runs = λ a under. (search_leads wasm us memory g p s ls is a under w few most xs le each).runs a.values a.rest a.levels tt }

pub searches_come : SearchComes
searches_come wasm g xs us memory p s lies ls start long =
    let is : IsAsked memory g p s ls = record { lies = lies; start = start; long = long } in
    subst (λ o. Comes wasm (search_steps 32 (length xs) (length s)) (search_code g (strings xs)) us memory ls (unwrap_or o g.missed)) (same_strings memory p s lies xs)
    (search_comes wasm us memory g p s ls is 32 (omega arith) (length xs) (strings xs) (strings_few xs) (strings_fit xs))

pub searches_come_soon : SearchComesSoon
searches_come_soon wasm g xs texts apart us memory p s lies ls start long =
    let is : IsAsked memory g p s ls = record { lies = lies; start = start; long = long } in
    let end = unwrap_or (first_named xs s) g.missed in
    subst (λ l. Comes wasm (search_steps 8 (length xs) (length s)) (search_code g l) us memory ls end) (sym (texts_are_strings xs texts))
    (search_comes wasm us memory g p s ls is 8 (omega arith) (length xs) xs (omega arith) (texts_fit xs texts))
