-- Names on either side of a question, and what stands by the first name that is a string.
use Rattle.std.proofs.Common.{◌≡◌, ℕ, zero, suc, ◌+◌, ◌^◌, ◌<◌, ◌≤◌, List, [], ◌∷◌, length, map, drop, get_or, nat_lt, Some, None, option_map, Bool, true, false, if◌then◌else◌, refl, sym, ap, ◌∙◌, subst, arith}
use Rattle.std.specs.Prelude.{bytes_eq}
use Rattle.std.specs.List.{list_all, All, AllByRecursion as Each}
use Rattle.std.proofs.Math.Nat.{pow-suc}
use Rattle.std.proofs.lemmas.Bool.{and_parts, ltb-true, lt-ltb}
use Rattle.std.proofs.lemmas.Bool.Decides.{nat_tests}
use Rattle.std.proofs.lemmas.List.Elements.{recursion_from_All, All-nil, All-cons, All-head, All-tail}
use Rattle.std.proofs.lemmas.Slice.Eq.{bytes_eq-Decides}
use Rattle.spec_execution.specs.spec_binary.Exports.{AllDistinct}
use Rattle.spec_execution.specs.spec_runtime.Memories.{MemoryInstance}
use Rattle.spec_execution.specs.spec_runtime.Numerics.{W32}
use Rattle.spec_execution.specs.Values.{low}
use Rattle.merge_find.specs.declared.key.Key.{Key}
use Rattle.merge_find.specs.Decisions.{Named, value, is_below, lower, upper, may_be_string, strings}
use Rattle.merge_find.specs.Finding.{first_named, IsText, AreTexts, AreApart, Begins, Lies, number_code, numbered, AreWords}
use Rattle.merge_find.proofs.Splits.{bytes_all}

-- ---- what is so of each

pub each_map : {A : Type 0} (P Q : A → Type 0) → ((x : A) → P x → Q x) → (xs : List A) → Each P xs → Each Q xs
each_map P Q f [] h = tt
each_map P Q f (x ∷ xs) h = (f x h.0, each_map P Q f xs h.1)

pub each_lower : (P : Named → Type 0) (key : Key) (b : ℕ) (xs : List Named) → Each P xs → Each (λ x. P x × (is_below key b x ≡ true)) (lower key b xs)
each_lower P key b [] h = tt
each_lower P key b (x ∷ xs) h = go (each_lower P key b xs h.1) (is_below key b x) refl
  where
    go : Each (λ y. P y × (is_below key b y ≡ true)) (lower key b xs) → (z : Bool) → is_below key b x ≡ z
        → Each (λ y. P y × (is_below key b y ≡ true)) (if z then x ∷ lower key b xs else lower key b xs)
    go r true e = ((h.0, e), r)
    go r false e = r

pub each_upper : (P : Named → Type 0) (key : Key) (b : ℕ) (xs : List Named) → Each P xs → Each (λ x. P x × (is_below key b x ≡ false)) (upper key b xs)
each_upper P key b [] h = tt
each_upper P key b (x ∷ xs) h = go (each_upper P key b xs h.1) (is_below key b x) refl
  where
    go : Each (λ y. P y × (is_below key b y ≡ false)) (upper key b xs) → (z : Bool) → is_below key b x ≡ z
        → Each (λ y. P y × (is_below key b y ≡ false)) (if z then upper key b xs else x ∷ upper key b xs)
    go r false e = ((h.0, e), r)
    go r true e = r

pub each_of : {A : Type 0} (P : A → Type 0) (xs : List A) → All P xs → Each P xs
each_of P xs all = recursion_from_All P xs all

-- ---- names on the string's side

-- a name on the other side isn't the string
other_side : (key : Key) (b : ℕ) (s name : List ℕ) (y z : Bool) → nat_lt (value key s) b ≡ y → nat_lt (value key name) b ≡ z → (y ≡ z → ⊥)
    → bytes_eq s name ≡ false
other_side key b s name y z e f d = go (bytes_eq s name) refl
  where
    go : (t : Bool) → bytes_eq s name ≡ t → bytes_eq s name ≡ false
    go false q = q
    go true q = (let same = ap (λ n. nat_lt (value key n) b) ((bytes_eq-Decides s name).0 q) in absurd (d (sym e ∙ same ∙ f)))

pub named_lower : (key : Key) (b : ℕ) (s : List ℕ) (xs : List Named) → nat_lt (value key s) b ≡ true → first_named (lower key b xs) s ≡ first_named xs s
named_lower key b s [] h = refl
named_lower key b s (x ∷ xs) h = go (named_lower key b s xs h) (is_below key b x) refl
  where
    go : first_named (lower key b xs) s ≡ first_named xs s → (z : Bool) → is_below key b x ≡ z
        → first_named (if z then x ∷ lower key b xs else lower key b xs) s ≡ first_named (x ∷ xs) s
    go r true e = rw r refl
    go r false e = rw (other_side key b s x.0 true false h e (λ q. cc)) r

pub named_upper : (key : Key) (b : ℕ) (s : List ℕ) (xs : List Named) → nat_lt (value key s) b ≡ false → first_named (upper key b xs) s ≡ first_named xs s
named_upper key b s [] h = refl
named_upper key b s (x ∷ xs) h = go (named_upper key b s xs h) (is_below key b x) refl
  where
    go : first_named (upper key b xs) s ≡ first_named xs s → (z : Bool) → is_below key b x ≡ z
        → first_named (if z then upper key b xs else x ∷ upper key b xs) s ≡ first_named (x ∷ xs) s
    go r false e = rw r refl
    go r true e = rw (other_side key b s x.0 false true h e (λ q. cc)) r

-- no name of another value is the string
pub none_here : (key : Key) (s : List ℕ) (b : ℕ) (xs : List Named) → (value key s ≡ b → ⊥) → Each (λ x. value key x.0 ≡ b) xs → first_named xs s ≡ None
none_here key s b [] h l = refl
none_here key s b (x ∷ xs) h l = go (bytes_eq s x.0) refl (none_here key s b xs h l.1)
  where
    go : (z : Bool) → bytes_eq s x.0 ≡ z → first_named xs s ≡ None → (if z then Some x.1 else first_named xs s) ≡ None
    go true q later = absurd (h (ap (value key) ((bytes_eq-Decides s x.0).0 q) ∙ l.0))
    go false q later = later

-- what questions leave possible: the value is among so many from a least one on
pub record InRange (key : Key) (w least : ℕ) (x : Named) : Type 0 where
  pub low : least ≤ value key x.0
  pub high : value key x.0 < least + 2 ^ w

pub some_power : (w : ℕ) → 0 < 2 ^ w
some_power zero = omega arith
some_power (suc w) = (let p = pow-suc 2 w in let q = some_power w in omega arith)

pub below_in : (key : Key) (w least : ℕ) (x : Named) → InRange key (suc w) least x → is_below key (least + 2 ^ w) x ≡ true → InRange key w least x
below_in key w least x r e = record { low = r.low; high = grind (arith, nat_tests) }

pub above_in : (key : Key) (w least : ℕ) (x : Named) → InRange key (suc w) least x → is_below key (least + 2 ^ w) x ≡ false → InRange key w (least + 2 ^ w) x
above_in key w least x r e = (let h = r.high in let q = pow-suc 2 w in record { low = grind (arith, nat_tests); high = omega arith })

pub only_one : (key : Key) (least : ℕ) (x : Named) → InRange key 0 least x → value key x.0 ≡ least
only_one key least x r = (let a = r.low in let b = r.high in omega arith)

-- ---- names that no string is

-- as long as a string may be, of items of so many bits
pub record Fits (w : ℕ) (x : Named) : Type 0 where
  pub short : length x.0 < 2 ^ 32
  pub words : (i : ℕ) → get_or x.0 i 0 < 2 ^ w

words_of : (bs : List ℕ) → list_all (λ b. nat_lt b (2 ^ 32)) bs ≡ true → (i : ℕ) → get_or bs i 0 < 2 ^ 32
words_of [] e i = omega arith
words_of (b ∷ bs) e zero = ltb-true b (2 ^ 32) (and_parts (nat_lt b (2 ^ 32)) (list_all (λ y. nat_lt y (2 ^ 32)) bs) e).0
words_of (b ∷ bs) e (suc i) = words_of bs (and_parts (nat_lt b (2 ^ 32)) (list_all (λ y. nat_lt y (2 ^ 32)) bs) e).1 i

pub strings_fit : (xs : List Named) → Each (Fits 32) (strings xs)
strings_fit [] = tt
strings_fit (x ∷ xs) = go (may_be_string x.0) refl (strings_fit xs)
  where
    go : (z : Bool) → may_be_string x.0 ≡ z → Each (Fits 32) (strings xs) → Each (Fits 32) (if z then x ∷ strings xs else strings xs)
    go true q later =
        let both = and_parts (nat_lt (length x.0) (2 ^ 32)) (list_all (λ b. nat_lt b (2 ^ 32)) x.0) q in
        (record { short = ltb-true (length x.0) (2 ^ 32) both.0; words = words_of x.0 both.1 }, later)
    go false q later = later

pub texts_fit : (xs : List Named) → AreTexts xs → Each (Fits 8) xs
texts_fit xs texts =
    each_map (λ x. IsText x.0) (Fits 8) (λ x text. record { short = text.short; words = text.bytes }) xs (each_of (λ (x : Named). IsText x.0) xs texts)

pub strings_few : {A : Type 0} (xs : List (List ℕ × A)) → length (strings xs) ≤ length xs
strings_few [] = omega arith
strings_few {A} (x ∷ xs) = go (may_be_string x.0) (strings_few xs)
  where
    go : (z : Bool) → length (strings xs) ≤ length xs → length (if z then x ∷ strings xs else strings xs) ≤ suc (length xs)
    go true few = omega (arith, few)
    go false few = omega (arith, few)

low_all : (t bytes : List ℕ) → Begins t bytes → list_all (λ b. nat_lt b (2 ^ 32)) t ≡ true
low_all [] bytes begins = refl
low_all (b ∷ t) [] begins = absurd begins
low_all (b ∷ t) (y ∷ bytes) begins =
    let byte = begins.0 in
    let small : b < 2 ^ 32 = omega arith in
    let is_small : nat_lt b (2 ^ 32) ≡ true = grind (arith, nat_tests) in
    rw (is_small, low_all t bytes begins.1) refl

is_string : (memory : MemoryInstance) (p : ℕ) (s : List ℕ) → Lies memory p s → may_be_string s ≡ true
is_string memory p s lies =
    let short = lies.short in
    let is_short : nat_lt (length s) (2 ^ 32) ≡ true = grind (arith, nat_tests) in
    rw (is_short, low_all s (drop (low W32 p) memory.bytes) lies.begins) refl

module _ {A : Type 0} (memory : MemoryInstance) (p : ℕ) (s : List ℕ) (lies : Lies memory p s) where
  pub same_strings : (xs : List (List ℕ × A)) → first_named (strings xs) s ≡ first_named xs s
  same_strings [] = refl
  same_strings (x ∷ xs) = go (may_be_string x.0) refl (bytes_eq s x.0) refl (same_strings xs)
    where
      go : (z : Bool) → may_be_string x.0 ≡ z → (t : Bool) → bytes_eq s x.0 ≡ t → first_named (strings xs) s ≡ first_named xs s
          → first_named (if z then x ∷ strings xs else strings xs) s ≡ (if t then Some x.1 else first_named xs s)
      go true q true r later = rw r refl
      go true q false r later = rw r later
      go false q false r later = later
      go false q true r later =
          let equal = (bytes_eq-Decides s x.0).0 r in
          let may : may_be_string x.0 ≡ true = subst (λ l. may_be_string l ≡ true) equal (is_string memory p s lies) in
          absurd cc

-- names of bytes are such
text_is_string : (name : List ℕ) → IsText name → may_be_string name ≡ true
text_is_string name text = (let short = text.short in rw (lt-ltb (length name) (2 ^ 32) short, bytes_all name text.bytes) refl)

pub texts_are_strings : {A : Type 0} (xs : List (List ℕ × A)) → AreTexts xs → strings xs ≡ xs
texts_are_strings [] texts = refl
texts_are_strings {A} (x ∷ xs) texts =
    rw (text_is_string x.0 (All-head (λ (y : List ℕ × A). IsText y.0) x xs texts), texts_are_strings xs (All-tail (λ (y : List ℕ × A). IsText y.0) x xs texts)) refl

-- ---- names with numbers

pub number_named : (xs : List (List ℕ × ℕ)) (s : List ℕ) → first_named (numbered xs) s ≡ option_map number_code (first_named xs s)
number_named [] s = refl
number_named (x ∷ xs) s = go (bytes_eq s x.0) (number_named xs s)
  where
    go : (z : Bool) → first_named (numbered xs) s ≡ option_map number_code (first_named xs s)
        → (if z then Some (number_code x.1) else first_named (numbered xs) s) ≡ option_map number_code (if z then Some x.1 else first_named xs s)
    go true later = refl
    go false later = later

pub number_many : (xs : List (List ℕ × ℕ)) → length (numbered xs) ≡ length xs
number_many [] = refl
number_many (x ∷ xs) = ap suc (number_many xs)

pub number_texts : (xs : List (List ℕ × ℕ)) → AreTexts xs → AreTexts (numbered xs)
number_texts [] texts = All-nil (λ (x : Named). IsText x.0)
number_texts (x ∷ xs) texts =
    All-cons (λ (y : Named). IsText y.0) (x.0, number_code x.1) (numbered xs) (All-head (λ (y : List ℕ × ℕ). IsText y.0) x xs texts)
    (number_texts xs (All-tail (λ (y : List ℕ × ℕ). IsText y.0) x xs texts))

same_names : (xs : List (List ℕ × ℕ)) → map (λ (x : Named). x.0) (numbered xs) ≡ map (λ (x : List ℕ × ℕ). x.0) xs
same_names [] = refl
same_names (x ∷ xs) = ap (λ l. x.0 ∷ l) (same_names xs)

pub number_apart : (xs : List (List ℕ × ℕ)) → AreApart xs → AreApart (numbered xs)
number_apart xs apart = subst AllDistinct (sym (same_names xs)) apart

-- what is found is a word
abbrev IsWord : List ℕ × ℕ → Type 0
IsWord x = x.1 < 2 ^ 32

pub word_named : (xs : List (List ℕ × ℕ)) (s : List ℕ) (k : ℕ) → AreWords xs → first_named xs s ≡ Some k → k < 2 ^ 32
word_named [] s k words e = absurd cc
word_named (x ∷ xs) s k words e = go (bytes_eq s x.0) e (λ q. word_named xs s k (All-tail IsWord x xs words) q)
  where
    go : (z : Bool) → (if z then Some x.1 else first_named xs s) ≡ Some k → (first_named xs s ≡ Some k → k < 2 ^ 32) → k < 2 ^ 32
    go true q more = (let same : x.1 ≡ k = cc in let small = All-head IsWord x xs words in omega arith)
    go false q more = more q
