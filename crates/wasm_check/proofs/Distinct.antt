-- Names that are told once.
use Rattle.std.proofs.Common.{◌≡◌, ◌≢◌, ℕ, ◌+◌, ◌<◌, ◌≤◌, Bool, true, false, cond, List, [], ◌∷◌, ◌++◌, length, get_or, take, drop, map, refl, sym, ap, subst, ◌∙◌, inl, inr, add-one}
use Rattle.std.specs.Prelude.{◌⊎◌, ◌||◌, All, not}
use Rattle.std.specs.List.{list_any}
use Rattle.std.specs.Str.{bytes_eq}
use Rattle.std.specs.Ordering.{nat_cmp, is_eq}
use Rattle.std.specs.Cmp.Lexicographic.{slice_cmp}
use Rattle.std.proofs.Math.Seq.{take-suc, drop-cons}
use Rattle.std.proofs.lemmas.List.{take-append-drop, take_all, map-append}
use Rattle.std.proofs.lemmas.List.Elements.{All-nil, All-push, All-head, All-tail}
use Rattle.std.proofs.lemmas.List.Folds.{list_any-append}
use Rattle.std.proofs.lemmas.Map.Text.{is_eq-slice_cmp}
use Rattle.std.proofs.lemmas.Slice.Eq.{bytes_eq-Decides}
use Rattle.wasm_form.specs.declared.module.Export.{Export}
use Rattle.spec_execution.specs.spec_binary.Exports.{AllDistinct, name_of}
use Rattle.spec_execution.specs.spec_validation.Faults.{names_distinct}
use Rattle.spec_execution.proofs.of_spec_validation.Names.{distinct_tested, tested_distinct}

-- how a test of two texts ends
tells : (x y : List ℕ) → ((bytes_eq x y ≡ true) × (x ≡ y)) ⊎ ((bytes_eq x y ≡ false) × (x ≢ y))
tells x y = elim (bytes_eq x y) as (λ t. bytes_eq x y ≡ t → ((t ≡ true) × (x ≡ y)) ⊎ ((t ≡ false) × (x ≢ y))) [
  | true ↦ λ e. inl (refl, (bytes_eq-Decides x y).0 e)
  | false ↦ λ e. inr (refl, λ same. let h : bytes_eq x y ≡ true = (bytes_eq-Decides x y).1 same in cc)
] refl

flipped : (x y : List ℕ) → bytes_eq x y ≡ bytes_eq y x
flipped x y = elim (tells x y) [
  | inl p ↦ p.0 ∙ sym ((bytes_eq-Decides y x).1 (sym p.1))
  | inr p ↦ elim (tells y x) [ inl q ↦ absurd (p.1 (sym q.1)) | inr q ↦ p.0 ∙ sym q.0 ]
]

either : (a b : Bool) → (b || (a || false)) ≡ cond a true b
either true true = refl
either true false = refl
either false true = refl
either false false = refl

-- a set of texts with one more
has_more : (key q : List ℕ) (front : List (List ℕ)) (old new : Bool) → old ≡ list_any (bytes_eq q) front
    → new ≡ cond (is_eq (slice_cmp nat_cmp key q)) true old → new ≡ list_any (bytes_eq q) (front ++ key ∷ [])
has_more key q front old new e h =
    let all : list_any (bytes_eq q) (front ++ key ∷ []) ≡ cond (bytes_eq q key) true (list_any (bytes_eq q) front) = list_any-append
    (bytes_eq q) front (key ∷ []) ∙ either (bytes_eq q key) (list_any (bytes_eq q) front) in
    h ∙ ap (λ t. cond t true old) (is_eq-slice_cmp key q ∙ flipped key q) ∙ ap (λ t. cond (bytes_eq q key) true t) e ∙ sym all

neither : (a b : Bool) → (a || b) ≡ false → (a ≡ false) × (b ≡ false)
neither true b e = absurd cc
neither false b e = (refl, e)

one_of : (a b : Bool) → (a || b) ≡ true → (a ≡ true) ⊎ (b ≡ true)
one_of true b e = inl refl
one_of false b e = inr e

distinct_more : (front : List (List ℕ)) (key : List ℕ) → AllDistinct front → list_any (bytes_eq key) front ≡ false
    → AllDistinct (front ++ key ∷ [])
distinct_more [] key d e = (All-nil (λ y. key ≢ y), tt)
distinct_more (x ∷ xs) key d e =
    let n = neither (bytes_eq key x) (list_any (bytes_eq key) xs) e in
    let apart : x ≢ key = elim (tells key x) [ inl p ↦ absurd (let h = p.0 in let k = n.0 in cc) | inr p ↦ λ same. p.1 (sym same) ] in
    (All-push (λ y. x ≢ y) xs key d.0 apart, distinct_more xs key d.1 n.1)

all_seam : (P : List ℕ → Type 0) (front rest : List (List ℕ)) (key : List ℕ) → All P (front ++ key ∷ rest) → P key
all_seam P [] rest key a = All-head P key rest a
all_seam P (x ∷ xs) rest key a = all_seam P xs rest key (All-tail P x (xs ++ key ∷ rest) a)

-- a text that is told again
told_again : (front rest : List (List ℕ)) (key : List ℕ) → list_any (bytes_eq key) front ≡ true → AllDistinct (front ++ key ∷ rest) → ⊥
told_again [] rest key e d = cc
told_again (x ∷ xs) rest key e d = elim (one_of (bytes_eq key x) (list_any (bytes_eq key) xs) e) [
  | inl h ↦ all_seam (λ y. x ≢ y) xs rest key d.0 (sym ((bytes_eq-Decides key x).0 h))
  | inr h ↦ told_again xs rest key h d.1
]

names_more : (exports : List Export) (i : ℕ) (e : Export) → i < length exports → e ≡ get_or exports i e
    → map name_of (take (i + 1) exports) ≡ map name_of (take i exports) ++ e.name ∷ []
names_more exports i e h is =
    let one : take (i + 1) exports ≡ take i exports ++ e ∷ [] = rw add-one (take-suc exports i e h)
    ∙ ap (λ x. take i exports ++ x ∷ []) (sym is) in
    ap (map name_of) one ∙ map-append name_of (take i exports) (e ∷ [])

names_parts : (exports : List Export) (i : ℕ) (e : Export) → i < length exports → e ≡ get_or exports i e
    → map name_of exports ≡ map name_of (take i exports) ++ e.name ∷ map name_of (drop (i + 1) exports)
names_parts exports i e h is =
    let rest : drop i exports ≡ e ∷ drop (i + 1) exports = rw add-one (drop-cons exports i e h)
    ∙ ap (λ x. x ∷ drop (i + 1) exports) (sym is) in
    ap (map name_of) (sym (take-append-drop i exports)) ∙ map-append name_of (take i exports) (drop i exports)
    ∙ ap (λ l. map name_of (take i exports) ++ map name_of l) rest

-- the loop over exports, at the export e of this name
module _ (exports : List Export) (i : ℕ) (e : Export) (key : List ℕ) (inside : i < length exports) (is : e ≡ get_or exports i e)
    (named : key ≡ e.name) where
  pub name_told_again : list_any (bytes_eq key) (map name_of (take i exports)) ≡ true → AllDistinct (map name_of exports) → ⊥
  name_told_again h d =
      told_again (map name_of (take i exports)) (map name_of (drop (i + 1) exports)) key h
      (subst AllDistinct (names_parts exports i e inside is ∙ ap
      (λ n. map name_of (take i exports) ++ n ∷ map name_of (drop (i + 1) exports)) (sym named)) d)

  seen : map name_of (take i exports) ++ key ∷ [] ≡ map name_of (take (i + 1) exports)
  seen = ap (λ n. map name_of (take i exports) ++ n ∷ []) named ∙ sym (names_more exports i e inside is)

  pub name_told_once : list_any (bytes_eq key) (map name_of (take i exports)) ≡ false → AllDistinct (map name_of (take i exports))
      → AllDistinct (map name_of (take (i + 1) exports))
  name_told_once h d = subst AllDistinct seen (distinct_more (map name_of (take i exports)) key d h)

  pub name_added : (q : List ℕ) (old new : Bool) → old ≡ list_any (bytes_eq q) (map name_of (take i exports))
      → new ≡ cond (is_eq (slice_cmp nat_cmp key q)) true old
      → new ≡ list_any (bytes_eq q) (map name_of (take (i + 1) exports))
  name_added q old new e h = has_more key q (map name_of (take i exports)) old new e h ∙ ap (list_any (bytes_eq q)) seen

-- what an insertion answers
pub not_false : {added : Bool} (had told : Bool) → added ≡ not had → added ≡ false → had ≡ told → told ≡ true
not_false true told e f h = sym h
not_false false told e f h = absurd cc

pub not_true : {added : Bool} (had told : Bool) → added ≡ not had → added ≡ true → had ≡ told → told ≡ false
not_true true told e f h = absurd cc
not_true false told e f h = sym h

-- ---- the same, by test

pub not_distinct : (es : List Export) → (AllDistinct (map name_of es) → ⊥) → names_distinct es ≡ false
not_distinct es never = go (names_distinct es) refl
  where
    go : (b : Bool) → names_distinct es ≡ b → names_distinct es ≡ false
    go true e = absurd (never (tested_distinct es e))
    go false e = e

-- after the last export
pub all_told_once : (exports : List Export) (i : ℕ) → length exports ≤ i → AllDistinct (map name_of (take i exports))
    → names_distinct exports ≡ true
all_told_once exports i past d = distinct_tested exports (subst (λ es. AllDistinct (map name_of es)) (take_all i exports past) d)
