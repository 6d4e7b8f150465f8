-- The places of what is written of a list, item by item.
use Rattle.std.proofs.Common.{◌≡◌, ◌≢◌, ℕ, ◌+◌, ◌-◌, ◌<◌, ◌≤◌, Bool, true, false, List, [], ◌∷◌, ◌++◌, length, map, get_or, take, drop, replicate, refl, sym, ap, subst, ◌∙◌, arith, append_assoc}
use Rattle.std.specs.Prelude.{◌⊎◌, nat_le}
use Rattle.std.proofs.Common.{Some, inl, inr}
use Rattle.std.specs.List.{All}
use Rattle.std.proofs.lemmas.Bool.{leb-true, leb-false}
use Rattle.std.proofs.lemmas.List.{length-replicate, map-append, get_or-take, get_or-drop}
use Rattle.std.proofs.lemmas.List.Elements.{All-nil, All-cons, All-head, All-tail, All-push, All-pop, All-weaker, All-map}
use Rattle.snap_module.specs.Held.{put, all_put, IsWithin}
use Rattle.snap_parts.specs.declared.pieces.Piece.{Piece}
use Rattle.snap_parts.specs.Found.{cut, EndsBy, IsTight, next_place, AreInOrder, AreFound, one_at, after_by, noted}
use Rattle.spec_snapshots.specs.Stretches.{IsPart, AreApart, IsSparse}
use Rattle.snap_parts.proofs.Putting.{all_put_last, all_put_length, take_put, drop_put, cut_length, put_cut, begun, begun_none, begun_all, begun_more, take_begun, drop_begun}
use Rattle.snap_parts.proofs.Order.{noted_last, ordered_with, ordered_but, ordered_last, next_behind, with_last, below_or}

module _ {A : Type 0} (blank : A) (gap : ℕ) (xs : List A) where
  pub found_none : AreFound blank gap xs 0 []
  found_none = record { within = All-nil (EndsBy 0); give = begun_none blank xs; tight = All-nil (IsTight blank gap xs); ordered = tt }

  later : (i : ℕ) (ps : List Piece) → All (EndsBy i) ps → All (EndsBy (i + 1)) ps
  later i ps all = All-weaker (EndsBy i) (EndsBy (i + 1)) (λ p is. (is.0, (let le = is.1 in omega arith))) ps all

  pub found_blank : (i : ℕ) (ps : List Piece) → i < length xs → get_or xs i blank ≡ blank → AreFound blank gap xs i ps → AreFound blank gap xs (i + 1) ps
  found_blank i ps lt is f = record {
    within = later i ps f.within;
    give = f.give ∙ begun_more blank xs i lt is;
    tight = f.tight;
    ordered = f.ordered;
  }

  cuts : (i : ℕ) → i ≤ length xs → (ps : List Piece) → All (EndsBy i) ps → All (IsWithin (length xs)) (map (cut xs) ps)
  cuts i le ps all = All-map (IsWithin (length xs)) (cut xs) ps (All-weaker (EndsBy i) (λ p. IsWithin (length xs) (cut xs p)) within ps all)
    where
      within : (p : Piece) → EndsBy i p → IsWithin (length xs) (cut xs p)
      within p is =
          let ends = is.1 in
          let some = is.0 in
          let many : length (cut xs p).items ≡ p.len = cut_length xs p (omega arith) in
          record { some = omega (arith, many); ends = omega (arith, many) }

  base : List A
  base = replicate (length xs) blank

  made_length : (i : ℕ) → i ≤ length xs → (ps : List Piece) → All (EndsBy i) ps → length (all_put (replicate (length xs) blank) (map (cut xs) ps)) ≡ length xs
  made_length i le ps all = all_put_length (length xs) (replicate (length xs) blank) (map (cut xs) ps) (length-replicate (length xs) blank) (cuts i le ps all)

  last_put : (ps : List Piece) (p : Piece)
      → all_put (replicate (length xs) blank) (map (cut xs) (ps ++ p ∷ [])) ≡ put (all_put (replicate (length xs) blank) (map (cut xs) ps)) (cut xs p)
  last_put ps p =
      ap (λ l. all_put (replicate (length xs) blank) l) (map-append (cut xs) ps (p ∷ []))
      ∙ all_put_last (replicate (length xs) blank) (map (cut xs) ps) (cut xs p)

  -- ---- an item that isn't near

  tight_one : (i : ℕ) → get_or xs i blank ≢ blank → IsTight blank gap xs (one_at i)
  tight_one i is = record {
    first = is;
    last = (let same : i + 1 - 1 ≡ i = omega arith in λ e. is (sym (ap (λ k. get_or xs k blank) same) ∙ e));
    runs = λ k le lt all. (let same : k + 0 ≡ i = omega arith in is (sym (ap (λ j. get_or xs j blank) same) ∙ all 0 (omega arith)));
  }

  pub found_new : (i : ℕ) (ps : List Piece) → i < length xs → get_or xs i blank ≢ blank → next_place gap 0 ps ≤ i → AreFound blank gap xs i ps
      → AreFound blank gap xs (i + 1) (ps ++ one_at i ∷ [])
  found_new i ps lt is far f =
      let le : i ≤ length xs = omega arith in
      let ends : i + 1 ≤ length xs = omega arith in
      record {
        within = All-push (EndsBy (i + 1)) ps (one_at i) (later i ps f.within) (omega arith, omega arith);
        give = last_put ps (one_at i) ∙ ap (λ l. put l (cut xs (one_at i))) f.give
            ∙ put_cut xs (begun blank xs i) blank (one_at i) (i + 1) refl ends (take_begun blank xs i i (omega arith) le)
            (drop_begun blank xs i (i + 1) (omega arith) le);
        tight = All-push (IsTight blank gap xs) ps (one_at i) f.tight (tight_one i is);
        ordered = ordered_with gap 0 ps (one_at i) f.ordered far;
      }

  -- ---- an item that is near to the last place

  abbrev longer : ℕ → Piece → Piece
  longer i p = record { at = p.at; len = i + 1 - p.at }

  tight_longer : (i : ℕ) (p : Piece) → get_or xs i blank ≢ blank → EndsBy i p → i ≤ p.at + p.len + gap → IsTight blank gap xs p
      → IsTight blank gap xs (longer i p)
  tight_longer i p is ends near t = record {
    first = t.first;
    last = (let le = ends.1 in let same : p.at + (i + 1 - p.at) - 1 ≡ i = omega arith in λ e. is (sym (ap (λ k. get_or xs k blank) same) ∙ e));
    runs = λ k le lt all. run k le lt all (below_or (k + gap) (p.at + p.len)) (below_or (k + gap) i);
  }
    where
      run : (k : ℕ) → p.at ≤ k → k + gap < p.at + (i + 1 - p.at) → ((j : ℕ) → j ≤ gap → get_or xs (k + j) blank ≡ blank)
          → (k + gap < p.at + p.len) ⊎ (p.at + p.len ≤ k + gap) → (k + gap < i) ⊎ (i ≤ k + gap) → ⊥
      run k le lt all (inl within) other = t.runs k le within all
      run k le lt all (inr past) (inl between) =
          let some = ends.0 in
          let back : ℕ = p.at + p.len - 1 - k in
          let same : k + back ≡ p.at + p.len - 1 = omega arith in
          t.last (sym (ap (λ j. get_or xs j blank) same) ∙ all back (omega arith))
      run k le lt all (inr past) (inr behind) =
          let end = ends.1 in
          let same : k + gap ≡ i = omega arith in
          is (sym (ap (λ j. get_or xs j blank) same) ∙ all gap (omega arith))

  pub found_longer : (i : ℕ) (ps : List Piece) (p : Piece) → i < length xs → get_or xs i blank ≢ blank → i ≤ p.at + p.len + gap
      → AreFound blank gap xs i (ps ++ p ∷ []) → AreFound blank gap xs (i + 1) (ps ++ longer i p ∷ [])
  found_longer i ps p lt is near f =
      let le : i ≤ length xs = omega arith in
      let split = All-pop (EndsBy i) (ps ++ p ∷ []) ps (Some p) refl f.within in
      let tights = All-pop (IsTight blank gap xs) (ps ++ p ∷ []) ps (Some p) refl f.tight in
      let some : 0 < p.len = split.1.0 in
      let ends : p.at + p.len ≤ i = split.1.1 in
      let made : List A = all_put (replicate (length xs) blank) (map (cut xs) ps) in
      let many : length made ≡ length xs = made_length i le ps split.0 in
      let inside : p.at ≤ length made = omega (arith, many) in
      let item : length (cut xs p).items ≡ p.len = cut_length xs p (omega arith) in
      let whole : put made (cut xs p) ≡ begun blank xs i = sym (last_put ps p) ∙ f.give in
      let before : take p.at made ≡ take p.at xs =
      sym (take_put made (cut xs p) inside) ∙ ap (λ l. take p.at l) whole ∙ take_begun blank xs i p.at (omega arith) le in
      let behind : drop (i + 1) made ≡ replicate (length xs - (i + 1)) blank =
      sym (drop_put made (cut xs p) (i + 1) inside (omega (arith, item))) ∙ ap (λ l. drop (i + 1) l) whole ∙ drop_begun blank xs i (i + 1) (omega arith) le in
      let long : p.at + (i + 1 - p.at) ≡ i + 1 = omega arith in
      record {
        within = All-push (EndsBy (i + 1)) ps (longer i p) (later i ps split.0) (omega arith, omega arith);
        give = last_put ps (longer i p) ∙ put_cut xs made blank (longer i p) (i + 1) long (omega arith) before behind;
        tight = All-push (IsTight blank gap xs) ps (longer i p) tights.0 (tight_longer i p is (some, ends) near tights.1);
        ordered = ordered_with gap 0 ps (longer i p) (ordered_but gap 0 ps p f.ordered) (ordered_last gap 0 ps p f.ordered);
      }

  -- ---- either

  found_after : (i : ℕ) (ps : List Piece) (p : Piece) (near : Bool) → nat_le i (p.at + p.len + gap) ≡ near → i < length xs → get_or xs i blank ≢ blank
      → AreFound blank gap xs i (ps ++ p ∷ []) → AreFound blank gap xs (i + 1) (ps ++ after_by near i p)
  found_after i ps p true e lt is f = found_longer i ps p lt is (leb-true i (p.at + p.len + gap) e) f
  found_after i ps p false e lt is f =
      let far = leb-false i (p.at + p.len + gap) e in
      let next : next_place gap 0 (ps ++ p ∷ []) ≤ i = omega (arith, next_behind gap 0 ps p, far) in
      subst (λ (l : List Piece). AreFound blank gap xs (i + 1) l) (append_assoc ps (p ∷ []) (one_at i ∷ [])) (found_new i (ps ++ p ∷ []) lt is next f)

  pub found_item : (i : ℕ) (ps : List Piece) → i < length xs → get_or xs i blank ≢ blank → AreFound blank gap xs i ps
      → AreFound blank gap xs (i + 1) (noted gap i ps)
  found_item i ps lt is f = go ps f (with_last ps)
    where
      go : (qs : List Piece) → AreFound blank gap xs i qs → (qs ≡ []) ⊎ ((rs : List Piece) × (r : Piece) × (qs ≡ rs ++ r ∷ []))
          → AreFound blank gap xs (i + 1) (noted gap i qs)
      go qs g (inl none) =
          let empty : AreFound blank gap xs i [] = subst (λ (l : List Piece). AreFound blank gap xs i l) none g in
          subst (λ (l : List Piece). AreFound blank gap xs (i + 1) (noted gap i l)) (sym none) (found_new i [] lt is (omega arith) empty)
      go qs g (inr some) =
          let last : AreFound blank gap xs i (some.0 ++ some.1 ∷ []) = subst (λ (l : List Piece). AreFound blank gap xs i l) some.2 g in
          let now = found_after i some.0 some.1 (nat_le i (some.1.at + some.1.len + gap)) refl lt is last in
          subst (λ (l : List Piece). AreFound blank gap xs (i + 1) l) (sym (noted_last gap i some.0 some.1) ∙ ap (noted gap i) (sym some.2)) now

  -- ---- all items

  part_of : (p : Piece) → EndsBy (length xs) p → IsTight blank gap xs p → IsPart blank gap xs (cut xs p)
  part_of p ends t =
      let le = ends.1 in
      let some = ends.0 in
      let many : length (cut xs p).items ≡ p.len = cut_length xs p le in
      record {
        items = ap (λ n. take n (drop p.at xs)) (sym many);
        first = λ e. t.first (ap (λ k. get_or xs k blank) (omega arith) ∙ sym (item 0 some) ∙ e);
        last = λ e. t.last (ap (λ k. get_or xs k blank) (omega arith) ∙ sym (item (p.len - 1) (omega arith)) ∙ ap (λ n. get_or (cut xs p).items (n - 1) blank) (sym many) ∙ e);
        runs = λ k lt all. t.runs (p.at + k) (omega arith) (omega (arith, many))
            (λ j near. ap (λ n. get_or xs n blank) (omega arith) ∙ sym (item (k + j) (omega (arith, many))) ∙ all j near);
      }
    where
      item : (k : ℕ) → k < p.len → get_or (cut xs p).items k blank ≡ get_or xs (p.at + k) blank
      item k lt = get_or-take p.len (drop p.at xs) k blank lt ∙ get_or-drop p.at xs k blank

  parts_of : (ps : List Piece) → All (EndsBy (length xs)) ps → All (IsTight blank gap xs) ps → All (IsPart blank gap xs) (map (cut xs) ps)
  parts_of [] ends tights = All-nil (IsPart blank gap xs)
  parts_of (p ∷ ps) ends tights =
      All-cons (IsPart blank gap xs) (cut xs p) (map (cut xs) ps)
      (part_of p (All-head (EndsBy (length xs)) p ps ends) (All-head (IsTight blank gap xs) p ps tights))
      (parts_of ps (All-tail (EndsBy (length xs)) p ps ends) (All-tail (IsTight blank gap xs) p ps tights))

  apart_of : (from : ℕ) (ps : List Piece) → All (EndsBy (length xs)) ps → AreInOrder gap from ps → AreApart gap from (map (cut xs) ps)
  apart_of from [] ends are = tt
  apart_of from (p ∷ ps) ends are =
      let many : length (cut xs p).items ≡ p.len = cut_length xs p (All-head (EndsBy (length xs)) p ps ends).1 in (
        are.0,
        subst (λ (n : ℕ). AreApart gap (p.at + n + gap + 1) (map (cut xs) ps)) (sym many)
            (apart_of (p.at + p.len + gap + 1) ps (All-tail (EndsBy (length xs)) p ps ends) are.1),
      )

  pub found_all : (ps : List Piece) → AreFound blank gap xs (length xs) ps → IsSparse blank gap xs (map (cut xs) ps)
  found_all ps f = record {
    made = record { within = cuts (length xs) (omega arith) ps f.within; give = f.give ∙ begun_all blank xs };
    parts = parts_of ps f.within f.tight;
    apart = apart_of 0 ps f.within f.ordered;
  }
