-- The code from a place on, once the values that are possible there are halved.
use Rattle.std.proofs.Common.{◌≡◌, ℕ, zero, suc, ◌+◌, ◌-◌, ◌*◌, ◌<◌, ◌≤◌, ◌^◌, List, [], ◌∷◌, ◌++◌, length, get_or, nat_le, Bool, true, false, if◌then◌else◌, refl, sym, ap, ◌∙◌, subst, arith, append_assoc, add-one}
use Rattle.std.specs.List.{All, AllByRecursion as Each}
use Rattle.std.proofs.Math.Nat.{pow-suc, mul_assoc, mul-le-mul_left}
use Rattle.std.proofs.Math.Pow.{pow_mono, pow-lt}
use Rattle.std.proofs.lemmas.Bool.{lt-ltb}
use Rattle.std.proofs.lemmas.Bool.Decides.{nat_tests}
use Rattle.std.proofs.lemmas.List.{length-map}
use Rattle.std.proofs.lemmas.List.Elements.{All-nil, All-cons, All-head, All-tail}
use Rattle.wasm_form.specs.declared.instr.BlockType.TheVariants.{Empty}
use Rattle.wasm_form.specs.declared.instr.Instr.{Instr, Block}
use Rattle.merge_find.specs.Decisions.{Goal, Named, Nested, value, is_below, lower, upper, either, asked, sides, halved, found_code, by_bytes, search_code}
use Rattle.merge_find.specs.declared.key.Key.{Key}
use Rattle.merge_find.specs.declared.key.Key.TheVariants.{Byte}
use Rattle.merge_find.specs.declared.place.Place.{Place}
use Rattle.merge_find.specs.declared.place.Stage.{Stage}
use Rattle.merge_find.specs.declared.place.Stage.TheVariants as stage
use Rattle.merge_find.specs.declared.named.Named as kept
use Rattle.merge_find.specs.Finding.{IsText}
use Rattle.merge_find.specs.Building.{name_of, names_of, HasText, stage_code, place_code, is_asking, key_at, IsStage, IsPlace, stage_rank, rank}
use Rattle.merge_find.proofs.Names.{each_map, each_of}

-- ---- names on either side

pub both_sides : (key : Key) (b : ℕ) (xs : List Named) → length (lower key b xs) + length (upper key b xs) ≡ length xs
both_sides key b [] = refl
both_sides key b (x ∷ xs) = go (is_below key b x) (both_sides key b xs)
  where
    go : (z : Bool) → length (lower key b xs) + length (upper key b xs) ≡ length xs
        → length (if z then x ∷ lower key b xs else lower key b xs) + length (if z then upper key b xs else x ∷ upper key b xs) ≡ suc (length xs)
    go true e = omega (arith, e)
    go false e = omega (arith, e)

pub all_upper : (key : Key) (b : ℕ) (xs : List Named) → length (lower key b xs) ≡ 0 → upper key b xs ≡ xs
all_upper key b [] e = refl
all_upper key b (x ∷ xs) e = go (is_below key b x) e (all_upper key b xs)
  where
    go : (z : Bool) → length (if z then x ∷ lower key b xs else lower key b xs) ≡ 0 → (length (lower key b xs) ≡ 0 → upper key b xs ≡ xs)
        → (if z then upper key b xs else x ∷ upper key b xs) ≡ x ∷ xs
    go true h more = absurd (omega (arith, h))
    go false h more = ap (λ ys. x ∷ ys) (more h)

pub all_lower : (key : Key) (b : ℕ) (xs : List Named) → length (upper key b xs) ≡ 0 → lower key b xs ≡ xs
all_lower key b [] e = refl
all_lower key b (x ∷ xs) e = go (is_below key b x) e (all_lower key b xs)
  where
    go : (z : Bool) → length (if z then upper key b xs else x ∷ upper key b xs) ≡ 0 → (length (upper key b xs) ≡ 0 → lower key b xs ≡ xs)
        → (if z then x ∷ lower key b xs else lower key b xs) ≡ x ∷ xs
    go false h more = absurd (omega (arith, h))
    go true h more = ap (λ ys. x ∷ ys) (more h)

-- ---- the sides of a question

module _ (len : ℕ) (key : Key) (b : ℕ) (low high : List Named → Nested) where
  pub no_low : (xs ys : List Named) → length xs ≡ 0 → sides len key b low high xs ys ≡ high ys
  no_low [] ys e = refl
  no_low (x ∷ xs) ys e = absurd (omega (arith, e))

  pub no_high : (xs ys : List Named) → 0 < length xs → length ys ≡ 0 → sides len key b low high xs ys ≡ low xs
  no_high [] ys some e = absurd (omega (arith, some))
  no_high (x ∷ xs) [] some e = refl
  no_high (x ∷ xs) (y ∷ ys) some e = absurd (omega (arith, e))

  pub two_sides : (xs ys : List Named) → 0 < length xs → 0 < length ys
      → sides len key b low high xs ys ≡ either len key b (nat_le (length xs) (length ys)) (low xs) (high ys)
  two_sides [] ys some others = absurd (omega (arith, some))
  two_sides (x ∷ xs) [] some others = absurd (omega (arith, others))
  two_sides (x ∷ xs) (y ∷ ys) some others = refl

-- ---- values that no name has

no_upper : (key : Key) (b : ℕ) (xs : List Named) → Each (λ x. value key x.0 < b) xs → length (upper key b xs) ≡ 0
no_upper key b [] all = refl
no_upper key b (x ∷ xs) all = (let here : is_below key b x ≡ true = lt-ltb (value key x.0) b all.0 in rw here (no_upper key b xs all.1))

values_below : (key : Key) (b c : ℕ) (xs : List Named) → b ≤ c → Each (λ x. value key x.0 < b) xs → Each (λ x. value key x.0 < c) xs
values_below key b c [] le all = tt
values_below key b c (x ∷ xs) le all = ((let here = all.0 in omega arith), values_below key b c xs le all.1)

-- questions above all values are left out
pub narrow : (len : ℕ) (key : Key) (next : ℕ → List Named → Nested) (v w most : ℕ) (xs : List Named) → most ≡ v + w → 0 < length xs
    → Each (λ x. value key x.0 < 2 ^ w) xs → halved len key next most 0 xs ≡ halved len key next w 0 xs
narrow len key next zero w most xs e some all = (let same : most ≡ w = omega arith in rw same refl)
narrow len key next (suc v) w most xs e some all =
    let same : most ≡ suc (v + w) = omega arith in
    let b = 0 + 2 ^ (v + w) in
    let larger : 2 ^ w ≤ 2 ^ (v + w) = pow_mono (omega arith) in
    let none = no_upper key b xs (values_below key (2 ^ w) b xs (omega arith) all) in
    let sum = both_sides key b xs in
    let there : 0 < length (lower key b xs) = omega arith in
    rw same
    (no_high len key b (halved len key next (v + w) 0) (halved len key next (v + w) b) (lower key b xs) (upper key b xs) there none
    ∙ ap (halved len key next (v + w) 0) (all_lower key b xs none) ∙ narrow len key next v w (v + w) xs refl some all)

-- ---- a place

abbrev pub half_place : Place → ℕ → Place
half_place p least = record p { width = p.width - 1; least = least }

abbrev pub deeper_place : Place → Place
deeper_place p = record p { deep = p.deep + 1 }

-- the code for the names of a place, by how deep it stands
abbrev pub nested_code : Goal → Place → List Named → Nested
nested_code g p xs = stage_code g p.stage p.width p.least xs

stage_sides : (g : Goal) (s : Stage) (w least d : ℕ) (xs : List Named) → is_asking (record { stage = s; width = suc w; least = least; deep = d }) ≡ true
    → stage_code g s (suc w) least xs
    ≡ sides g.len (key_at (record { stage = s; width = suc w; least = least; deep = d })) (least + 2 ^ w) (stage_code g s w least) (stage_code g s w (least + 2 ^ w))
    (lower (key_at (record { stage = s; width = suc w; least = least; deep = d })) (least + 2 ^ w) xs) (upper (key_at (record { stage = s; width = suc w; least = least; deep = d })) (least + 2 ^ w) xs)
stage_sides g stage.Lengths w least d xs e = refl
stage_sides g (stage.Bytes i left) w least d xs e = refl
stage_sides g stage.Done w least d xs e = absurd cc

place_at : (g : Goal) (s : Stage) (w least d b : ℕ) (xs : List Named) → is_asking (record { stage = s; width = w; least = least; deep = d }) ≡ true → 0 < w → b ≡ least + 2 ^ (w - 1)
    → stage_code g s w least xs
    ≡ sides g.len (key_at (record { stage = s; width = w; least = least; deep = d })) b (stage_code g s (w - 1) least) (stage_code g s (w - 1) b)
    (lower (key_at (record { stage = s; width = w; least = least; deep = d })) b xs) (upper (key_at (record { stage = s; width = w; least = least; deep = d })) b xs)
place_at g s zero least d b xs asking some e = absurd (omega (arith, some))
place_at g s (suc w) least d b xs asking some e = (let same : suc w - 1 ≡ w = omega arith in rw (e, same) (stage_sides g s w least d xs asking))

module _ (g : Goal) (p : Place) (b : ℕ) (asking : is_asking p ≡ true) (some : 0 < p.width) (bound : b ≡ p.least + 2 ^ (p.width - 1)) where
  abbrev low : List Named → Nested
  low xs = nested_code g (half_place p p.least) xs

  abbrev high : List Named → Nested
  high xs = nested_code g (half_place p b) xs

  nested_sides : (xs : List Named) → nested_code g p xs ≡ sides g.len (key_at p) b low high (lower (key_at p) b xs) (upper (key_at p) b xs)
  nested_sides xs = place_at g p.stage p.width p.least p.deep b xs asking some bound

  -- no name is below
  pub place_high : (xs : List Named) → length (lower (key_at p) b xs) ≡ 0 → place_code g (half_place p b) xs ≡ place_code g p xs
  unfolding place_code
  place_high xs none =
      ap (λ (c : Nested). c p.deep)
      (sym (nested_sides xs ∙ no_low g.len (key_at p) b low high (lower (key_at p) b xs) (upper (key_at p) b xs) none ∙ ap high (all_upper (key_at p) b xs none)))

  -- all names are
  pub place_low : (xs : List Named) → 0 < length xs → length (lower (key_at p) b xs) ≡ length xs → place_code g (half_place p p.least) xs ≡ place_code g p xs
  unfolding place_code
  place_low xs there all =
      let sum = both_sides (key_at p) b xs in
      let none : length (upper (key_at p) b xs) ≡ 0 = omega arith in
      let rest : 0 < length (lower (key_at p) b xs) = omega arith in
      ap (λ (c : Nested). c p.deep)
      (sym (nested_sides xs ∙ no_high g.len (key_at p) b low high (lower (key_at p) b xs) (upper (key_at p) b xs) rest none ∙ ap low (all_lower (key_at p) b xs none)))

  -- there are names on either side
  place_ask : (xs : List Named) → 0 < length (lower (key_at p) b xs) → 0 < length (upper (key_at p) b xs)
      → nested_code g p xs ≡ either g.len (key_at p) b (nat_le (length (lower (key_at p) b xs)) (length (upper (key_at p) b xs))) (low (lower (key_at p) b xs)) (high (upper (key_at p) b xs))
  place_ask xs below above = nested_sides xs ∙ two_sides g.len (key_at p) b low high (lower (key_at p) b xs) (upper (key_at p) b xs) below above

  module _ (ns ls hs : List kept.Named) (ls_is : names_of ls ≡ lower (key_at p) b (names_of ns)) (hs_is : names_of hs ≡ upper (key_at p) b (names_of ns))
      (below : 0 < length (lower (key_at p) b (names_of ns))) (above : 0 < length (upper (key_at p) b (names_of ns))) (to : List Instr) where
    sides_there : (z : Bool) → nat_le (length ls) (length hs) ≡ z → nested_code g p (names_of ns) ≡ either g.len (key_at p) b z (low (names_of ls)) (high (names_of hs))
    sides_there z e =
        let few : length ls ≡ length (lower (key_at p) b (names_of ns)) = omega (arith, length-map {B = Named} ls name_of, ap length ls_is) in
        let many : length hs ≡ length (upper (key_at p) b (names_of ns)) = omega (arith, length-map {B = Named} hs name_of, ap length hs_is) in
        rw (ls_is, hs_is, ← e, few, many) (place_ask (names_of ns) below above)

    pub asks_low : nat_le (length ls) (length hs) ≡ true
        → (to ++ asked g.len (key_at p) 0x49 b (place_code g (deeper_place (half_place p p.least)) (names_of ls))) ++ place_code g (half_place p b) (names_of hs) ≡ to ++ place_code g p (names_of ns)
    unfolding place_code
    asks_low e =
        append_assoc to (asked g.len (key_at p) 0x49 b (low (names_of ls) (p.deep + 1))) (high (names_of hs) p.deep)
        ∙ ap (λ c. to ++ c) (ap (λ k. asked g.len (key_at p) 0x49 b (low (names_of ls) k) ++ high (names_of hs) p.deep) (add-one p.deep) ∙ sym (ap (λ (c : Nested). c p.deep) (sides_there true e)))

    pub asks_high : nat_le (length ls) (length hs) ≡ false
        → (to ++ asked g.len (key_at p) 0x4F b (place_code g (deeper_place (half_place p b)) (names_of hs))) ++ place_code g (half_place p p.least) (names_of ls) ≡ to ++ place_code g p (names_of ns)
    unfolding place_code
    asks_high e =
        append_assoc to (asked g.len (key_at p) 0x4F b (high (names_of hs) (p.deep + 1))) (low (names_of ls) p.deep)
        ∙ ap (λ c. to ++ c) (ap (λ k. asked g.len (key_at p) 0x4F b (high (names_of hs) k) ++ low (names_of ls) p.deep) (add-one p.deep) ∙ sym (ap (λ (c : Nested). c p.deep) (sides_there false e)))

-- ---- what is kept

pub two_halves : (w : ℕ) → 0 < w → 2 ^ w ≡ 2 ^ (w - 1) + 2 ^ (w - 1)
two_halves zero h = absurd (omega arith)
two_halves (suc w) h = let e : suc w - 1 ≡ w = omega arith in let p = pow-suc 2 w in rw e (omega arith)

low_stage : (s : Stage) (w least : ℕ) → 0 < w → IsStage s w least → IsStage s (w - 1) least
low_stage stage.Lengths w least some is = (let half = two_halves w some in let few = is.0 in let room = is.1 in (omega arith, omega arith))
low_stage (stage.Bytes i left) w least some is = (let half = two_halves w some in let few = is.1 in let room = is.2 in (is.0, omega arith, omega arith))
low_stage stage.Done w least some is = absurd (omega (arith, is, some))

high_stage : (s : Stage) (w least b : ℕ) → 0 < w → b ≡ least + 2 ^ (w - 1) → IsStage s w least → IsStage s (w - 1) b
high_stage stage.Lengths w least b some e is = (let half = two_halves w some in let few = is.0 in let room = is.1 in (omega arith, omega arith))
high_stage (stage.Bytes i left) w least b some e is = (let half = two_halves w some in let few = is.1 in let room = is.2 in (is.0, omega arith, omega arith))
high_stage stage.Done w least b some e is = absurd (omega (arith, is, some))

pub low_place : (p : Place) → 0 < p.width → IsPlace p → IsPlace (half_place p p.least)
low_place p some is = low_stage p.stage p.width p.least some is

pub high_place : (p : Place) (b : ℕ) → 0 < p.width → b ≡ p.least + 2 ^ (p.width - 1) → IsPlace p → IsPlace (half_place p b)
high_place p b some e is = high_stage p.stage p.width p.least b some e is

pub some_kept : (ns : List kept.Named) (xs : List Named) → names_of ns ≡ xs → 0 < length xs → 0 < length ns
some_kept ns xs e h = omega (arith, ap length e, h, length-map {B = Named} ns name_of)

stage_less : (s : Stage) (w least d : ℕ) → is_asking (record { stage = s; width = w; least = least; deep = d }) ≡ true → 0 < w → stage_rank s (w - 1) < stage_rank s w
stage_less stage.Lengths w least d asking some = omega arith
stage_less (stage.Bytes i left) w least d asking some = omega arith
stage_less stage.Done w least d asking some = absurd cc

pub half_less : (p : Place) (least : ℕ) → is_asking p ≡ true → 0 < p.width → rank (half_place p least) < rank p
half_less p least asking some = stage_less p.stage p.width p.least p.deep asking some

-- ---- how deep

-- a block holds at most half of the names
module _ (d n few many most : ℕ) (sum : few + many ≡ n) where
  pub in_block_few : few ≤ many → 2 ^ d * n ≤ most → 2 ^ (d + 1) * few ≤ most
  in_block_few le bound =
      let twice : 2 ^ (d + 1) ≡ 2 ^ d * 2 = rw add-one (pow-suc 2 d) in
      let two : 2 ^ (d + 1) * few ≡ 2 ^ d * (2 * few) = rw twice (mul_assoc (2 ^ d) 2 few) in
      let more : 2 * few ≤ n = omega arith in
      let grows = mul-le-mul_left (2 ^ d) more in
      omega arith

  pub behind_few : 2 ^ d * n ≤ most → 2 ^ d * many ≤ most
  behind_few bound = (let more : many ≤ n = omega arith in let grows = mul-le-mul_left (2 ^ d) more in omega arith)

pub few_deep : (d n : ℕ) → 0 < n → 2 ^ d * n ≤ 2 ^ 64 → d < 2 ^ 32 - 1
few_deep d n some le = go (nat_le d 64) refl
  where
    go : (z : Bool) → nat_le d 64 ≡ z → d < 2 ^ 32 - 1
    go true e = (let small : d ≤ 64 = grind (arith, nat_tests) in omega arith)
    go false e =
        let large : 64 < d = grind (arith, nat_tests) in
        let power = pow-lt large in
        let more = mul-le-mul_left (2 ^ d) some in
        absurd (omega arith)

-- ---- what is left

pub done_code : (g : Goal) (p : Place) (xs : List Named) → is_asking p ≡ false → place_code g p xs ≡ found_code g xs
unfolding place_code
done_code g p xs e = go p.stage e
  where
    go : (s : Stage) → is_asking (record p { stage = s }) ≡ false → stage_code g s p.width p.least xs p.deep ≡ found_code g xs
    go stage.Lengths h = absurd cc
    go (stage.Bytes i left) h = absurd cc
    go stage.Done h = refl

-- ---- bytes

module _ (g : Goal) (i left deep : ℕ) (xs : List Named) where
  pub at_byte_some : 0 < left → 0 < length xs → All (λ x. IsText x.0) xs
      → place_code g (record { stage = stage.Bytes i (left - 1); width = 8; least = 0; deep = deep }) xs ≡ by_bytes g left i xs deep
  unfolding place_code
  at_byte_some more some texts =
      let same : left ≡ suc (left - 1) = omega arith in
      let bytes = each_map (λ x. IsText x.0) (λ x. get_or x.0 i 0 < 2 ^ 8) (λ x t. t.bytes i) xs (each_of (λ (x : Named). IsText x.0) xs texts) in
      subst (λ k. halved g.len (Byte i) (λ b. by_bytes g (left - 1) (i + 1)) 8 0 xs deep ≡ by_bytes g k i xs deep) (sym same)
      (sym (ap (λ (c : Nested). c deep) (narrow g.len (Byte i) (λ b. by_bytes g (left - 1) (i + 1)) 24 8 32 xs refl some bytes)))

pub texts_of : (ns : List kept.Named) → All HasText ns → All (λ x. IsText x.0) (names_of ns)
texts_of [] texts = All-nil (λ (x : Named). IsText x.0)
texts_of (n ∷ ns) texts = All-cons (λ (x : Named). IsText x.0) (name_of n) (names_of ns) (All-head HasText n ns texts) (texts_of ns (All-tail HasText n ns texts))

-- how many names are on either side
pub split_count : (key : Key) (b : ℕ) (ns ls hs : List kept.Named) → names_of ls ≡ lower key b (names_of ns) → names_of hs ≡ upper key b (names_of ns)
    → length ls + length hs ≡ length ns
split_count key b ns ls hs ls_is hs_is =
    let sum = both_sides key b (names_of ns) in
    omega (arith, sum, ap length ls_is, ap length hs_is, length-map {B = Named} ls name_of, length-map {B = Named} hs name_of, length-map {B = Named} ns name_of)

-- ---- the whole

pub search_none : (g : Goal) (ns : List kept.Named) → length ns ≡ 0 → search_code g (names_of ns) ≡ g.missed
unfolding search_code
search_none g [] e = refl
search_none g (n ∷ ns) e = absurd (omega (arith, e))

pub search_some : (g : Goal) (ns : List kept.Named) → 0 < length ns
    → Block Empty (record { list = place_code g (record { stage = stage.Lengths; width = 32; least = 0; deep = 0 }) (names_of ns) }) ∷ g.missed ≡ search_code g (names_of ns)
unfolding search_code place_code
search_some g [] some = absurd (omega (arith, some))
search_some g (n ∷ ns) some = refl
