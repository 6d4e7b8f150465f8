-- Stretches of a list of which little is written are determined by the list.
use Rattle.std.proofs.Common.{◌≡◌, ◌≢◌, ◌⊎◌, inl, inr, ℕ, zero, suc, ◌+◌, ◌-◌, ◌<◌, ◌≤◌, List, [], ◌∷◌, ◌++◌, length, get_or, take, drop, replicate, Option, None, refl, sym, ap, ap₂, subst, ◌∙◌, arith, length-append}
use Rattle.std.specs.List.{All}
use Rattle.std.proofs.lemmas.Bool.{cases_lt}
use Rattle.std.proofs.lemmas.List.{length-take, length-drop, length-take-le, length-replicate, get_or-take, get_or-drop, get_or-append_right, get_or_append_left}
use Rattle.std.proofs.lemmas.List.Elements.{All-head, All-tail}
use Rattle.spec_loading.specs.wasm_form.declared.runtime.Ref.{Ref}
use Rattle.spec_loading.specs.spec_runtime.Tables.{TableInstance}
use Rattle.spec_snapshots.specs.Stretches.{Stretch, put, all_put, IsWithin, IsPart, AreApart, IsSparse, memory_gap, tables_gap, AreSparse}
use Rattle.spec_snapshots.specs.Laws.{WrittenIsOne}

-- ---- one is put

module _ {A : Type 0} where
  pub put_length : (ys : List A) (s : Stretch A) → s.at + length s.items ≤ length ys → length (put ys s) ≡ length ys
  put_length ys s le =
      let outer = length-append (take s.at ys) (s.items ++ drop (s.at + length s.items) ys) in
      let inner = length-append s.items (drop (s.at + length s.items) ys) in
      omega (arith, outer, inner, length-take s.at ys, length-drop (s.at + length s.items) ys)

module _ {A : Type 0} (blank : A) where
  -- what stands before and behind it stays
  put_before : (ys : List A) (s : Stretch A) → s.at ≤ length ys → (i : ℕ) → i < s.at → get_or (put ys s) i blank ≡ get_or ys i blank
  put_before ys s le i lt =
      let inside : i < length (take s.at ys) = omega (arith, length-take-le s.at ys le) in
      get_or_append_left (take s.at ys) (s.items ++ drop (s.at + length s.items) ys) blank i inside ∙ get_or-take s.at ys i blank lt

  put_behind : (ys : List A) (s : Stretch A) → s.at ≤ length ys → (i : ℕ) → s.at + length s.items ≤ i → get_or (put ys s) i blank ≡ get_or ys i blank
  put_behind ys s le i past =
      let end : ℕ = s.at + length s.items in
      let place : end + (i - s.at - length s.items) ≡ i = omega arith in
      get_or-append_right (take s.at ys) (s.items ++ drop end ys) s.at i blank (length-take-le s.at ys le) (omega arith)
      ∙ get_or-append_right s.items (drop end ys) (length s.items) (i - s.at) blank refl (omega arith)
      ∙ get_or-drop end ys (i - s.at - length s.items) blank ∙ ap (λ k. get_or ys k blank) place

  all_blank : (n i : ℕ) → get_or (replicate n blank) i blank ≡ blank
  all_blank zero i = refl
  all_blank (suc n) zero = refl
  all_blank (suc n) (suc i) = all_blank n i

-- ---- all are put

module _ {A : Type 0} (blank : A) (gap : ℕ) where
  -- nothing stands from a place on
  abbrev IsBlankFrom : ℕ → List A → Type 0
  IsBlankFrom from xs = (i : ℕ) → from ≤ i → get_or xs i blank ≡ blank

  -- what a list has around stretches, from a place on
  abbrev Around : List A → ℕ → List (Stretch A) → Type 0
  Around xs from [] = IsBlankFrom from xs
  Around xs from (s ∷ ss) =
      (from ≤ s.at) × ((i : ℕ) → from ≤ i → i < s.at → get_or xs i blank ≡ blank)
      × ((i : ℕ) → i ≤ gap → get_or xs (s.at + length s.items + i) blank ≡ blank) × Around xs (s.at + length s.items + gap + 1) ss

  below_same : (ys : List A) (from : ℕ) (ss : List (Stretch A)) → AreApart gap from ss → All (IsWithin (length ys)) ss → (i : ℕ) → i < from
      → get_or (all_put ys ss) i blank ≡ get_or ys i blank
  below_same ys from [] apart all i lt = refl
  below_same ys from (s ∷ ss) apart all i lt =
      let here = All-head (IsWithin (length ys)) s ss all in
      let ends = here.ends in
      let first = apart.0 in
      let same : length (put ys s) ≡ length ys = put_length ys s ends in
      let rest = subst (λ (n : ℕ). All (IsWithin n) ss) (sym same) (All-tail (IsWithin (length ys)) s ss all) in
      below_same (put ys s) (s.at + length s.items + gap + 1) ss apart.1 rest i (omega arith) ∙ put_before blank ys s (omega arith) i (omega arith)

  around : (ys : List A) (from : ℕ) (ss : List (Stretch A)) → IsBlankFrom from ys → AreApart gap from ss → All (IsWithin (length ys)) ss
      → Around (all_put ys ss) from ss
  around ys from [] none apart all = none
  around ys from (s ∷ ss) none apart all =
      let here = All-head (IsWithin (length ys)) s ss all in
      let ends = here.ends in
      let first = apart.0 in
      let le : s.at ≤ length ys = omega arith in
      let same : length (put ys s) ≡ length ys = put_length ys s ends in
      let rest = subst (λ (n : ℕ). All (IsWithin n) ss) (sym same) (All-tail (IsWithin (length ys)) s ss all) in
      let next : ℕ = s.at + length s.items + gap + 1 in
      let stays = below_same (put ys s) next ss apart.1 rest in (
        first,
        λ i low high. stays i (omega arith) ∙ put_before blank ys s le i high ∙ none i low,
        λ i near. stays (s.at + length s.items + i) (omega arith) ∙ put_behind blank ys s le (s.at + length s.items + i) (omega arith)
            ∙ none (s.at + length s.items + i) (omega arith),
        around (put ys s) next ss (λ i low. put_behind blank ys s le i (omega arith) ∙ none i (omega arith)) apart.1 rest,
      )

  around_made : (xs : List A) (ss : List (Stretch A)) → IsSparse blank gap xs ss → Around xs 0 ss
  around_made xs ss is =
      let many = length-replicate (length xs) blank in
      let all = subst (λ (n : ℕ). All (IsWithin n) ss) (sym many) is.made.within in
      subst (λ (l : List A). Around l 0 ss) is.made.give (around (replicate (length xs) blank) 0 ss (λ i low. all_blank blank (length xs) i) is.apart all)

  -- ---- they begin and end at the same places

  module _ (xs : List A) where
    abbrev Part : Stretch A → Type 0
    Part = IsPart blank gap xs

    item : (s : Stretch A) → Part s → (k : ℕ) → k < length s.items → get_or s.items k blank ≡ get_or xs (s.at + k) blank
    item s is k lt =
        ap (λ l. get_or l k blank) is.items ∙ get_or-take (length s.items) (drop s.at xs) k blank lt ∙ get_or-drop s.at xs k blank

    some_items : (items : List A) → get_or items 0 blank ≢ blank → 0 < length items
    some_items [] first = absurd (first refl)
    some_items (x ∷ items) first = omega arith

    first_there : (s : Stretch A) → Part s → get_or xs s.at blank ≢ blank
    first_there s is e =
        let same : s.at + 0 ≡ s.at = omega arith in
        is.first (item s is 0 (some_items s.items is.first) ∙ ap (λ k. get_or xs k blank) same ∙ e)

    begins : (from : ℕ) (s t : Stretch A) → Part s → from ≤ s.at → ((i : ℕ) → from ≤ i → i < t.at → get_or xs i blank ≡ blank) → t.at ≤ s.at
    begins from s t is low none = go (cases_lt s.at t.at)
      where
        go : (s.at < t.at) ⊎ (t.at ≤ s.at) → t.at ≤ s.at
        go (inl lt) = absurd (first_there s is (none s.at low lt))
        go (inr le) = le

    ends : (s t : Stretch A) → Part t → s.at ≡ t.at → ((i : ℕ) → i ≤ gap → get_or xs (s.at + length s.items + i) blank ≡ blank)
        → length t.items ≤ length s.items
    ends s t is same none = go (cases_lt (length s.items) (length t.items)) (cases_lt (length s.items + gap) (length t.items))
      where
        blank_at : (j : ℕ) → j ≤ gap → length s.items + j < length t.items → get_or t.items (length s.items + j) blank ≡ blank
        blank_at j near lt =
            let place : t.at + (length s.items + j) ≡ s.at + length s.items + j = omega arith in
            item t is (length s.items + j) lt ∙ ap (λ k. get_or xs k blank) place ∙ none j near

        go : (length s.items < length t.items) ⊎ (length t.items ≤ length s.items)
            → (length s.items + gap < length t.items) ⊎ (length t.items ≤ length s.items + gap) → length t.items ≤ length s.items
        go (inr le) far = le
        go (inl lt) (inl far) = absurd (is.runs (length s.items) far (λ j near. blank_at j near (omega arith)))
        go (inl lt) (inr near) =
            let j : ℕ = length t.items - 1 - length s.items in
            let place : length t.items - 1 ≡ length s.items + j = omega arith in
            absurd (is.last (ap (λ k. get_or t.items k blank) place ∙ blank_at j (omega arith) (omega arith)))

    one : (s t : Stretch A) → Part s → Part t → s.at ≡ t.at → length s.items ≡ length t.items → s ≡ t
    one s t is also at long =
        let items : s.items ≡ t.items = is.items ∙ ap₂ (λ n k. take n (drop k xs)) long at ∙ sym also.items in
        λ i. record { at = at i; items = items i }

    all_one : (from : ℕ) (ss ts : List (Stretch A)) → All Part ss → All Part ts → Around xs from ss → Around xs from ts → ss ≡ ts
    all_one from [] [] are also one_side other = refl
    all_one from [] (t ∷ ts) are also one_side other = absurd (first_there t (All-head Part t ts also) (one_side t.at other.0))
    all_one from (s ∷ ss) [] are also one_side other = absurd (first_there s (All-head Part s ss are) (other s.at one_side.0))
    all_one from (s ∷ ss) (t ∷ ts) are also one_side other =
        let p = All-head Part s ss are in
        let q = All-head Part t ts also in
        let low = begins from s t p one_side.0 other.1 in
        let high = begins from t s q other.0 one_side.1 in
        let at : s.at ≡ t.at = omega arith in
        let few = ends s t q at one_side.2 in
        let many = ends t s p (sym at) other.2 in
        let long : length s.items ≡ length t.items = omega arith in
        let place : t.at + length t.items + gap + 1 ≡ s.at + length s.items + gap + 1 = omega arith in
        let rest = all_one (s.at + length s.items + gap + 1) ss ts (All-tail Part s ss are) (All-tail Part t ts also) one_side.3
        (subst (λ (k : ℕ). Around xs k ts) place other.3) in
        ap₂ (λ x l. x ∷ l) (one s t p q at long) rest

  pub sparse_one : (xs : List A) (ss ts : List (Stretch A)) → IsSparse blank gap xs ss → IsSparse blank gap xs ts → ss ≡ ts
  sparse_one xs ss ts is also = all_one xs 0 ss ts is.parts also.parts (around_made xs ss is) (around_made xs ts also)

-- ---- of tables

tables_one : (gap : ℕ) (xs : List TableInstance) (sss ttt : List (List (Stretch (Option Ref)))) → AreSparse gap xs sss → AreSparse gap xs ttt → sss ≡ ttt
tables_one gap [] [] [] are also = refl
tables_one gap (x ∷ xs) (ss ∷ sss) (ts ∷ ttt) are also =
    ap₂ (λ l more. l ∷ more) (sparse_one None gap x.entries ss ts are.0 also.0) (tables_one gap xs sss ttt are.1 also.1)
tables_one gap [] (ss ∷ sss) ttt are also = absurd are
tables_one gap [] [] (ts ∷ ttt) are also = absurd also
tables_one gap (x ∷ xs) [] ttt are also = absurd are
tables_one gap (x ∷ xs) (ss ∷ sss) [] are also = absurd also

pub written_is_one : WrittenIsOne
written_is_one memory tables c d is also =
    let memories = sparse_one 0 (memory_gap memory) memory.bytes c.memory d.memory is.memory_is also.memory_is in
    let all = tables_one (tables_gap tables) tables c.tables d.tables is.tables_are also.tables_are in
    λ i. record { memory = memories i; tables = all i }
