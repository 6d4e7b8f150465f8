-- The orders by what each member needs once are those of a set.
use Rattle.std.proofs.Common.{◌≡◌, ℕ, zero, suc, ◌+◌, ◌-◌, ◌<◌, List, [], ◌∷◌, Option, Some, None, refl, ap, ◌∙◌, cond, slice_get, arith}
use Rattle.spec_linking.specs.Sets.{ClosedSet}
use Rattle.spec_linking.specs.Orders.{is_among, with_numbers, needed_by, needs, breadth_from, Walk, walk_each, walk_from, entering, leaving}
use Rattle.dyl_scope.specs.Orders.{needed_at, reached, walk_by}
use Rattle.dyl_scope.proofs.Distinct.{once}
use Rattle.dyl_scope.proofs.Walks.{each_once}

-- one turn
pub turn : (needed : ℕ → List ℕ) (n k : ℕ) (known : List ℕ) → k < n
    → reached needed (n - k) k known ≡ reached needed (n - (k + 1)) (k + 1) (with_numbers known (needed_at needed (slice_get known k)))
turn needed n k known lt = let e : n - k ≡ suc (n - (k + 1)) = omega arith in ap (λ turns. reached needed turns k known) e

module _ (S : ClosedSet) (needed : ℕ → List ℕ) (told : (m : ℕ) → needed m ≡ with_numbers [] (needs S m)) where
  one_place : (known : List ℕ) (at : Option ℕ) → with_numbers known (needed_at needed at) ≡ with_numbers known (needed_by S.members at)
  one_place known None = refl
  one_place known (Some m) = ap (with_numbers known) (told m) ∙ once (needs S m) known

  pub reached_breadth : (turns k : ℕ) (known : List ℕ) → reached needed turns k known ≡ breadth_from S.members turns k known
  reached_breadth zero k known = refl
  reached_breadth (suc turns) k known =
      ap (reached needed turns (k + 1)) (one_place known (slice_get known k))
      ∙ reached_breadth turns (k + 1) (with_numbers known (needed_by S.members (slice_get known k)))

  each_same : (f g : ℕ → Walk → Walk) → ((m : ℕ) (w : Walk) → f m w ≡ g m w) → (ms : List ℕ) (w : Walk) → walk_each f ms w ≡ walk_each g ms w
  each_same f g same [] w = refl
  each_same f g same (m ∷ ms) w = ap (walk_each f ms) (same m w) ∙ each_same f g same ms (g m w)

  pub walk_same : (depth m : ℕ) (w : Walk) → walk_by needed depth m w ≡ walk_from S depth m w
  walk_same zero m w = refl
  walk_same (suc depth) m w =
      ap (λ r. cond (is_among m w.entered) w (leaving m r))
      (ap (λ ms. walk_each (walk_by needed depth) ms (entering m w)) (told m)
      ∙ each_once needed depth (needs S m) (entering m w)
      ∙ each_same (walk_by needed depth) (walk_from S depth) (walk_same depth) (needs S m) (entering m w))
