-- Stretches of a list that are put onto blanks.
use Rattle.std.proofs.Common.{◌≡◌, ℕ, suc, ◌+◌, ◌-◌, ◌<◌, ◌≤◌, List, [], ◌∷◌, ◌++◌, length, get_or, take, drop, replicate, refl, sym, ap, ap₂, ◌∙◌, arith, append_assoc, length-append}
use Rattle.std.specs.List.{All}
use Rattle.std.proofs.lemmas.List.{length-take, length-drop, length-take-le, take-take, take_at, take_all, take_more, take-append-drop, drop_at, drop-drop, drop-take, drop-replicate, get_or-take, get_or-drop}
use Rattle.std.proofs.lemmas.List.Elements.{All-head, All-tail}
use Rattle.snap_module.specs.Held.{Stretch, put, all_put, IsWithin}
use Rattle.spec_snapshots.proofs.Stretches.{put_length}
use Rattle.snap_parts.specs.declared.pieces.Piece.{Piece}
use Rattle.snap_parts.specs.Found.{cut}

-- ---- one is put

module _ {A : Type 0} where
  pub all_put_last : (ys : List A) (ss : List (Stretch A)) (s : Stretch A) → all_put ys (ss ++ s ∷ []) ≡ put (all_put ys ss) s
  all_put_last ys [] s = refl
  all_put_last ys (t ∷ ss) s = all_put_last (put ys t) ss s

  pub all_put_length : (len : ℕ) (ys : List A) (ss : List (Stretch A)) → length ys ≡ len → All (IsWithin len) ss → length (all_put ys ss) ≡ len
  all_put_length len ys [] same all = same
  all_put_length len ys (s ∷ ss) same all =
      let first = All-head (IsWithin len) s ss all in
      let ends = first.ends in
      let le : s.at + length s.items ≤ length ys = omega (arith, same, ends) in
      all_put_length len (put ys s) ss (put_length ys s le ∙ same) (All-tail (IsWithin len) s ss all)

  -- what stands before and behind it stays
  pub take_put : (ys : List A) (s : Stretch A) → s.at ≤ length ys → take s.at (put ys s) ≡ take s.at ys
  take_put ys s le = take_at (take s.at ys) (s.items ++ drop (s.at + length s.items) ys) s.at (length-take-le s.at ys le)

  pub drop_put : (ys : List A) (s : Stretch A) (k : ℕ) → s.at ≤ length ys → s.at + length s.items ≤ k → drop k (put ys s) ≡ drop k ys
  drop_put ys s k le past =
      let front : List A = take s.at ys ++ s.items in
      let end : ℕ = s.at + length s.items in
      let fronts : length front ≡ end = omega (arith, length-append (take s.at ys) s.items, length-take-le s.at ys le) in
      let same : end + (k - end) ≡ k = omega arith in
      let split : put ys s ≡ front ++ drop end ys = sym (append_assoc (take s.at ys) s.items (drop end ys)) in
      ap (λ n. drop n (put ys s)) (sym same) ∙ sym (drop-drop (k - end) end (put ys s))
      ∙ ap (λ l. drop (k - end) l) (ap (λ l. drop end l) split ∙ drop_at front (drop end ys) end fronts)
      ∙ drop-drop (k - end) end ys ∙ ap (λ n. drop n ys) same

  take_sum : (at len : ℕ) (xs : List A) → take at xs ++ take len (drop at xs) ≡ take (at + len) xs
  take_sum at len xs =
      let le : at ≤ at + len = omega arith in
      ap₂ (λ a b. a ++ b) (sym (take-take at (at + len) xs le)) (sym (drop-take at len xs)) ∙ take-append-drop at (take (at + len) xs)

  -- some items from a place on
  pub rest_within : (xs : List A) (at : ℕ) (rest : List A) → rest ≡ take (length rest) (drop at xs) → length rest ≤ length xs - at
  rest_within xs at rest is =
      (let few = ap length is in omega (arith, length-take (length rest) (drop at xs), length-drop at xs, few))

  pub rest_item : (xs : List A) (at : ℕ) (rest : List A) (d : A) → rest ≡ take (length rest) (drop at xs) → (k : ℕ) → k < length rest
      → (i : ℕ) → i ≡ at + k → get_or rest k d ≡ get_or xs i d
  rest_item xs at rest d is k lt i place =
      ap (λ l. get_or l k d) is ∙ get_or-take (length rest) (drop at xs) k d lt ∙ get_or-drop at xs k d ∙ ap (λ j. get_or xs j d) (sym place)

  -- a list is read piece by piece
  pub read_more : (xs : List A) (at done n : ℕ) (rest : List A) → rest ≡ take (length rest) (drop (at + done) xs) → n ≤ length rest
      → take done (drop at xs) ++ take n rest ≡ take (done + n) (drop at xs)
  read_more xs at done n rest is le =
      let next : take n rest ≡ take n (drop done (drop at xs)) =
      ap (λ l. take n l) is ∙ take-take n (length rest) (drop (at + done) xs) le ∙ ap (λ l. take n l) (sym (drop-drop done at xs)) in
      ap (λ l. take done (drop at xs) ++ l) next ∙ take_sum done n (drop at xs)

  pub cut_length : (xs : List A) (p : Piece) → p.at + p.len ≤ length xs → length (cut xs p).items ≡ p.len
  cut_length xs p le =
      let room : p.len ≤ length (drop p.at xs) = omega (arith, length-drop p.at xs) in
      length-take-le p.len (drop p.at xs) room

  -- a stretch of the list makes more of the list
  pub put_cut : (xs ys : List A) (blank : A) (p : Piece) (end : ℕ) → p.at + p.len ≡ end → end ≤ length xs → take p.at ys ≡ take p.at xs
      → drop end ys ≡ replicate (length xs - end) blank → put ys (cut xs p) ≡ take end xs ++ replicate (length xs - end) blank
  put_cut xs ys blank p end same le before behind =
      let items : List A = take p.len (drop p.at xs) in
      let many : length items ≡ p.len = cut_length xs p (omega (arith, same)) in
      ap (λ k. take p.at ys ++ (items ++ drop (p.at + k) ys)) many ∙ ap (λ k. take p.at ys ++ (items ++ drop k ys)) same
      ∙ ap₂ (λ a b. a ++ (items ++ b)) before behind ∙ sym (append_assoc (take p.at xs) items (replicate (length xs - end) blank))
      ∙ ap (λ l. l ++ replicate (length xs - end) blank) (take_sum p.at p.len xs ∙ ap (λ k. take k xs) same)

  -- ---- the first items, and blanks behind them

  abbrev pub begun : A → List A → ℕ → List A
  begun blank xs i = take i xs ++ replicate (length xs - i) blank

  pub begun_none : (blank : A) (xs : List A) → replicate (length xs) blank ≡ begun blank xs 0
  begun_none blank xs = (let same : length xs ≡ length xs - 0 = omega arith in ap (λ n. replicate n blank) same)

  pub begun_all : (blank : A) (xs : List A) → begun blank xs (length xs) ≡ xs
  begun_all blank xs =
      let none : length xs - length xs ≡ 0 = omega arith in
      ap (λ n. take (length xs) xs ++ replicate n blank) none
      ∙ ap (λ n. take n xs ++ []) refl ∙ ends (take (length xs) xs) ∙ take_all (length xs) xs (omega arith)
    where
      ends : (l : List A) → l ++ [] ≡ l
      ends [] = refl
      ends (x ∷ l) = ap (λ m. x ∷ m) (ends l)

  pub begun_more : (blank : A) (xs : List A) (i : ℕ) → i < length xs → get_or xs i blank ≡ blank → begun blank xs i ≡ begun blank xs (i + 1)
  begun_more blank xs i lt is =
      let one : length xs - i ≡ suc (length xs - (i + 1)) = omega arith in
      let rest : List A = replicate (length xs - (i + 1)) blank in
      ap (λ n. take i xs ++ replicate n blank) one ∙ ap (λ x. take i xs ++ x ∷ rest) (sym is)
      ∙ sym (append_assoc (take i xs) (get_or xs i blank ∷ []) rest) ∙ ap (λ l. l ++ rest) (sym (take_more xs i blank lt))

  pub take_begun : (blank : A) (xs : List A) (i k : ℕ) → k ≤ i → i ≤ length xs → take k (begun blank xs i) ≡ take k xs
  take_begun blank xs i k le within =
      let first : take i (begun blank xs i) ≡ take i xs = take_at (take i xs) (replicate (length xs - i) blank) i (length-take-le i xs within) in
      sym (take-take k i (begun blank xs i) le) ∙ ap (λ l. take k l) first ∙ take-take k i xs le

  pub drop_begun : (blank : A) (xs : List A) (i k : ℕ) → i ≤ k → i ≤ length xs → drop k (begun blank xs i) ≡ replicate (length xs - k) blank
  drop_begun blank xs i k le within =
      let same : i + (k - i) ≡ k = omega arith in
      let left : length xs - i - (k - i) ≡ length xs - k = omega arith in
      let first : drop i (begun blank xs i) ≡ replicate (length xs - i) blank =
      drop_at (take i xs) (replicate (length xs - i) blank) i (length-take-le i xs within) in
      ap (λ n. drop n (begun blank xs i)) (sym same) ∙ sym (drop-drop (k - i) i (begun blank xs i)) ∙ ap (λ l. drop (k - i) l) first
      ∙ drop-replicate (k - i) (length xs - i) blank ∙ ap (λ n. replicate n blank) left
