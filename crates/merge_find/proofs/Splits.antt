-- One name more: of those that are kept, and of those that are split.
use Rattle.std.proofs.Common.{◌≡◌, ◌<◌, ◌^◌, ℕ, suc, List, [], ◌∷◌, ◌++◌, length, get_or, nat_lt, true, false, refl, sym, ap, ◌∙◌, arith, append-nil}
use Rattle.std.specs.List.{list_all}
use Rattle.std.proofs.lemmas.Bool.{lt-ltb}
use Rattle.merge_find.specs.Decisions.{Named, is_below, lower, upper, strings}
use Rattle.merge_find.specs.declared.key.Key.{Key}
use Rattle.merge_find.specs.declared.named.Named as kept
use Rattle.merge_find.specs.Building.{name_of, names_of}

pub names_then : (ns : List kept.Named) (n : kept.Named) (xs : List Named) → names_of (ns ++ n ∷ []) ++ xs ≡ names_of ns ++ name_of n ∷ xs
names_then [] n xs = refl
names_then (m ∷ ns) n xs = ap (λ l. name_of m ∷ l) (names_then ns n xs)

-- a name that is added
pub names_push : (ns ms : List kept.Named) (n : kept.Named) → ms ≡ ns ++ n ∷ [] → names_of ms ≡ names_of ns ++ name_of n ∷ []
names_push ns ms n e = ap names_of e ∙ sym (append-nil (names_of (ns ++ n ∷ []))) ∙ names_then ns n []

pub bytes_all : (bs : List ℕ) → ((j : ℕ) → get_or bs j 0 < 256) → list_all (λ b. nat_lt b (2 ^ 32)) bs ≡ true
bytes_all [] h = refl
bytes_all (b ∷ bs) h = rw (lt-ltb b (2 ^ 32) (omega (arith, h 0)), bytes_all bs (λ j. h (suc j))) refl

pub strings_one : {A : Type 0} (name : List ℕ) (code : A) → length name < 2 ^ 32 → ((j : ℕ) → get_or name j 0 < 256) → strings ((name, code) ∷ []) ≡ (name, code) ∷ []
strings_one name code short bytes = rw (lt-ltb (length name) (2 ^ 32) short, bytes_all name bytes) refl

module _ (key : Key) (b : ℕ) (n : kept.Named) (rest : List kept.Named) where
  lower_in : is_below key b (name_of n) ≡ true → lower key b (names_of (n ∷ rest)) ≡ name_of n ∷ lower key b (names_of rest)
  lower_in e = rw e refl

  lower_out : is_below key b (name_of n) ≡ false → lower key b (names_of (n ∷ rest)) ≡ lower key b (names_of rest)
  lower_out e = rw e refl

  upper_in : is_below key b (name_of n) ≡ false → upper key b (names_of (n ∷ rest)) ≡ name_of n ∷ upper key b (names_of rest)
  upper_in e = rw e refl

  upper_out : is_below key b (name_of n) ≡ true → upper key b (names_of (n ∷ rest)) ≡ upper key b (names_of rest)
  upper_out e = rw e refl

  pub more_low : (ns : List kept.Named) (xs : List Named) → is_below key b (name_of n) ≡ true → names_of ns ++ lower key b (names_of (n ∷ rest)) ≡ xs
      → names_of (ns ++ n ∷ []) ++ lower key b (names_of rest) ≡ xs
  more_low ns xs e h = names_then ns n (lower key b (names_of rest)) ∙ ap (λ l. names_of ns ++ l) (sym (lower_in e)) ∙ h

  pub more_high : (ns : List kept.Named) (xs : List Named) → is_below key b (name_of n) ≡ false → names_of ns ++ upper key b (names_of (n ∷ rest)) ≡ xs
      → names_of (ns ++ n ∷ []) ++ upper key b (names_of rest) ≡ xs
  more_high ns xs e h = names_then ns n (upper key b (names_of rest)) ∙ ap (λ l. names_of ns ++ l) (sym (upper_in e)) ∙ h

  pub same_low : (ns : List kept.Named) (xs : List Named) → is_below key b (name_of n) ≡ false → names_of ns ++ lower key b (names_of (n ∷ rest)) ≡ xs
      → names_of ns ++ lower key b (names_of rest) ≡ xs
  same_low ns xs e h = ap (λ l. names_of ns ++ l) (sym (lower_out e)) ∙ h

  pub same_high : (ns : List kept.Named) (xs : List Named) → is_below key b (name_of n) ≡ true → names_of ns ++ upper key b (names_of (n ∷ rest)) ≡ xs
      → names_of ns ++ upper key b (names_of rest) ≡ xs
  same_high ns xs e h = ap (λ l. names_of ns ++ l) (sym (upper_out e)) ∙ h
