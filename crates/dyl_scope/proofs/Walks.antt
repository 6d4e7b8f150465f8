-- Walks in depth-first post-order.
use Rattle.std.proofs.Common.{◌≡◌, ℕ, zero, suc, ◌-◌, ◌<◌, Bool, true, false, List, [], ◌∷◌, ◌++◌, refl, ap, sym, ◌∙◌, cond, nat_eq, arith}
use Rattle.std.specs.Prelude.{◌||◌}
use Rattle.std.proofs.Math.Bool.{or-true}
use Rattle.std.proofs.lemmas.Bool.Decides.{nat_tests}
use Rattle.spec_linking.specs.Orders.{is_among, with_number, with_numbers, Walk, walk_each, entering, leaving}
use Rattle.dyl_scope.specs.Orders.{walk_by}
use Rattle.dyl_scope.proofs.Distinct.{among_append, same_number}

-- a member that was entered is passed over
pub passed : (needs : ℕ → List ℕ) (depth m : ℕ) (w : Walk) → is_among m w.entered ≡ true → walk_by needs depth m w ≡ w
passed needs zero m w p = refl
passed needs (suc depth) m w p = rw p refl

-- another is entered
pub entered : (needs : ℕ → List ℕ) (depth m : ℕ) (w : Walk) → 0 < depth → is_among m w.entered ≡ false
    → walk_by needs depth m w ≡ leaving m (walk_each (walk_by needs (depth - 1)) (needs m) (entering m w))
entered needs zero m w h p = absurd (omega arith)
entered needs (suc depth) m w h p = let e : suc depth - 1 ≡ depth = omega arith in rw (p, e) refl

-- what was needed was gone through, and the member itself is left
pub finished : (needs : ℕ → List ℕ) (depth m : ℕ) (w mid after : Walk) (items : List ℕ) → 0 < depth → is_among m w.entered ≡ false
    → mid ≡ entering m w → items ≡ needs m → after ≡ walk_each (walk_by needs (depth - 1)) items mid → leaving m after ≡ walk_by needs depth m w
finished needs depth m w mid after items some new first listed gone =
    ap (leaving m) (gone ∙ ap (λ l. walk_each (walk_by needs (depth - 1)) l mid) listed ∙ ap (walk_each (walk_by needs (depth - 1)) (needs m)) first)
    ∙ sym (entered needs depth m w some new)

-- ---- what was entered stays so

abbrev Keeps : (ℕ → Walk → Walk) → Type 0
Keeps visit = (k m : ℕ) (w : Walk) → is_among k w.entered ≡ true → is_among k (visit m w).entered ≡ true

each_keeps : (visit : ℕ → Walk → Walk) → Keeps visit → (ms : List ℕ) (k : ℕ) (w : Walk) → is_among k w.entered ≡ true → is_among k (walk_each visit ms w).entered ≡ true
each_keeps visit keeps [] k w there = there
each_keeps visit keeps (m ∷ ms) k w there = each_keeps visit keeps ms k (visit m w) (keeps k m w there)

also_later : (k : ℕ) (xs ys : List ℕ) → is_among k xs ≡ true → is_among k (xs ++ ys) ≡ true
also_later k xs ys there = among_append k xs ys ∙ ap (λ b. b || is_among k ys) there

module _ (needs : ℕ → List ℕ) where
  walk_keeps : (depth : ℕ) → Keeps (walk_by needs depth)
  walk_keeps zero k m w there = there
  walk_keeps (suc depth) k m w there = by (is_among m w.entered) refl (walk_keeps depth)
    where
      by : (b : Bool) → is_among m w.entered ≡ b → Keeps (walk_by needs depth) → is_among k (walk_by needs (suc depth) m w).entered ≡ true
      by true p keeps = rw p there
      by false p keeps = rw p (each_keeps (walk_by needs depth) keeps (needs m) k (entering m w) (also_later k w.entered (m ∷ []) there))

  now_entered : (m : ℕ) (w : Walk) → is_among m (entering m w).entered ≡ true
  now_entered m w = among_append m w.entered (m ∷ []) ∙ ap (λ b. is_among m w.entered || (b || false)) (same_number m) ∙ or-true (is_among m w.entered)

  -- a member that was gone through is entered
  walk_enters : (depth m : ℕ) (w : Walk) → is_among m (walk_by needs (suc depth) m w).entered ≡ true
  walk_enters depth m w = by (is_among m w.entered) refl
    where
      by : (b : Bool) → is_among m w.entered ≡ b → is_among m (walk_by needs (suc depth) m w).entered ≡ true
      by true p = rw p p
      by false p = rw p (each_keeps (walk_by needs depth) (walk_keeps depth) (needs m) m (entering m w) (now_entered m w))

  -- ---- each of some members once is all of them

  each_append : (visit : ℕ → Walk → Walk) (xs ys : List ℕ) (w : Walk) → walk_each visit (xs ++ ys) w ≡ walk_each visit ys (walk_each visit xs w)
  each_append visit [] ys w = refl
  each_append visit (x ∷ xs) ys w = each_append visit xs ys (visit x w)

  each_nothing : (ms : List ℕ) (w : Walk) → walk_each (walk_by needs zero) ms w ≡ w
  each_nothing [] w = refl
  each_nothing (m ∷ ms) w = each_nothing ms w

  -- after a walk through some members, one of them is passed over
  again : (depth m : ℕ) (ms : List ℕ) (w : Walk) → is_among m ms ≡ true → is_among m (walk_each (walk_by needs (suc depth)) ms w).entered ≡ true
  again depth m [] w there = absurd cc
  again depth m (k ∷ ms) w there = by (nat_eq k m) refl (again depth m ms (walk_by needs (suc depth) k w))
    where
      visit : ℕ → Walk → Walk
      visit = walk_by needs (suc depth)

      by : (b : Bool) → nat_eq k m ≡ b → (is_among m ms ≡ true → is_among m (walk_each visit ms (visit k w)).entered ≡ true) → is_among m (walk_each visit ms (visit k w)).entered ≡ true
      by true p later =
          let same : k ≡ m = grind (arith, nat_tests) in
          let here : is_among m (visit k w).entered ≡ true = ap (λ n. is_among n (visit k w).entered) (sym same) ∙ walk_enters depth k w in
          each_keeps visit (walk_keeps (suc depth)) ms m (visit k w) here
      by false p later = later (rw p at there)

  more : (depth m : ℕ) (a : List ℕ) (w : Walk) → walk_each (walk_by needs (suc depth)) (with_number a m) w ≡ walk_by needs (suc depth) m (walk_each (walk_by needs (suc depth)) a w)
  more depth m a w = by (is_among m a) refl
    where
      by : (b : Bool) → is_among m a ≡ b → walk_each (walk_by needs (suc depth)) (with_number a m) w ≡ walk_by needs (suc depth) m (walk_each (walk_by needs (suc depth)) a w)
      by true p = ap (λ ks. walk_each (walk_by needs (suc depth)) ks w) (ap (λ b. cond b a (a ++ m ∷ [])) p)
          ∙ sym (passed needs (suc depth) m (walk_each (walk_by needs (suc depth)) a w) (again depth m a w p))
      by false p = ap (λ ks. walk_each (walk_by needs (suc depth)) ks w) (ap (λ b. cond b a (a ++ m ∷ [])) p)
          ∙ each_append (walk_by needs (suc depth)) a (m ∷ []) w

  once_from : (depth : ℕ) (ms a : List ℕ) (w : Walk) → walk_each (walk_by needs (suc depth)) (with_numbers a ms) w ≡ walk_each (walk_by needs (suc depth)) ms (walk_each (walk_by needs (suc depth)) a w)
  once_from depth [] a w = refl
  once_from depth (m ∷ ms) a w = once_from depth ms (with_number a m) w ∙ ap (walk_each (walk_by needs (suc depth)) ms) (more depth m a w)

  pub each_once : (depth : ℕ) (ms : List ℕ) (w : Walk) → walk_each (walk_by needs depth) (with_numbers [] ms) w ≡ walk_each (walk_by needs depth) ms w
  each_once zero ms w = each_nothing (with_numbers [] ms) w ∙ sym (each_nothing ms w)
  each_once (suc depth) ms w = once_from depth ms [] w
