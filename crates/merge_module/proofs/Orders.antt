-- No member is gone through twice: closures and post-orders are no longer than the set, and so few tasks are in a frame of the loader.
use Rattle.std.proofs.Common.{◌≡◌, ◌≤◌, ◌<◌, ℕ, zero, suc, ◌+◌, ◌*◌, Bool, true, false, ◌||◌, List, [], ◌∷◌, ◌++◌, length, eqb, slice_get, refl, sym, ap, subst, arith, length-append, if◌then◌else◌}
use Rattle.std.specs.List.{All, AllByRecursion, IsDistinct, list_any}
use Rattle.std.proofs.lemmas.Bool.{eqb-true}
use Rattle.std.proofs.lemmas.List.Elements.{All-nil, All-head, All-tail, All-push}
use Rattle.std.proofs.lemmas.Map.Steps.{length-le_from_distinct_below}
use Rattle.spec_loading.specs.spec_linking.Sets.{Member, ClosedSet}
use Rattle.spec_loading.specs.spec_linking.Gathering.{IsSet}
use Rattle.spec_loading.specs.spec_linking.Orders.{is_among, needs, needed_by, with_number, with_numbers, breadth_from, closure, Walk, entering, leaving, walk_each, walk_from, post_order}
use Rattle.spec_loading.specs.spec_linking.LinkedSets.{LinkedSet}
use Rattle.spec_loading.specs.declared.task.Phase.{Phase}
use Rattle.spec_loading.specs.declared.task.Phase.TheVariants.{Place, Start, Relocate, Construct}
use Rattle.spec_loading.specs.Phases.{tasks_of, opening_tasks, startup_frame, open_frame}
use Rattle.spec_loading.proofs.InsideSets.{needs_inside, closure_inside}

-- ---- distinct numbers

apart : (m : ℕ) (xs : List ℕ) → (x : ℕ) → AllByRecursion (λ y. eqb x y ≡ false) xs → eqb x m ≡ false → AllByRecursion (λ y. eqb x y ≡ false) (xs ++ m ∷ [])
apart m [] x all one = (one, tt)
apart m (y ∷ ys) x all one = (all.0, apart m ys x all.1 one)

neither : (a b : Bool) → (a || b) ≡ false → (a ≡ false) × (b ≡ false)
neither true b e = absurd cc
neither false b e = (refl, e)

distinct_push : (xs : List ℕ) (m : ℕ) → IsDistinct eqb xs → is_among m xs ≡ false → IsDistinct eqb (xs ++ m ∷ [])
unfolding IsDistinct
distinct_push [] m d new = (tt, tt)
distinct_push (x ∷ xs) m d new =
    let parts = neither (eqb x m) (is_among m xs) new in
    (apart m xs x d.0 parts.0, distinct_push xs m d.1 parts.1)

one_distinct : (m : ℕ) → IsDistinct eqb (m ∷ [])
unfolding IsDistinct
one_distinct m = (tt, tt)

none_distinct : IsDistinct eqb []
unfolding IsDistinct
none_distinct = tt

below : (n : ℕ) (xs : List ℕ) → All (λ k. k < n) xs → (q : ℕ) → list_any (eqb q) xs ≡ true → q < n
below n [] all q e = absurd cc
below n (x ∷ xs) all q e = go (eqb q x) refl e (below n xs (All-tail (λ k. k < n) x xs all) q)
  where
    go : (b : Bool) → eqb q x ≡ b → (b || list_any (eqb q) xs) ≡ true → (list_any (eqb q) xs ≡ true → q < n) → q < n
    go true is h later = (let same = eqb-true q x is in let lt = All-head (λ k. k < n) x xs all in omega arith)
    go false is h later = later h

-- distinct numbers below another are no more than that
distinct_few : (n : ℕ) (xs : List ℕ) → IsDistinct eqb xs → All (λ k. k < n) xs → length xs ≤ n
distinct_few n xs d all = length-le_from_distinct_below xs n d (below n xs all)

-- ---- breadth first

with_distinct : (known : List ℕ) (m : ℕ) → IsDistinct eqb known → IsDistinct eqb (with_number known m)
with_distinct known m d = go (is_among m known) refl
  where
    go : (b : Bool) → is_among m known ≡ b → IsDistinct eqb (if b then known else (known ++ m ∷ []))
    go true is = d
    go false is = distinct_push known m d is

all_with_distinct : (ms known : List ℕ) → IsDistinct eqb known → IsDistinct eqb (with_numbers known ms)
all_with_distinct [] known d = d
all_with_distinct (m ∷ ms) known d = all_with_distinct ms (with_number known m) (with_distinct known m d)

breadth_distinct : (members : List Member) (turns k : ℕ) (known : List ℕ) → IsDistinct eqb known → IsDistinct eqb (breadth_from members turns k known)
breadth_distinct members zero k known d = d
breadth_distinct members (suc turns) k known d =
    let new = needed_by members (slice_get known k) in
    breadth_distinct members turns (k + 1) (with_numbers known new) (all_with_distinct new known d)

module _ (S : ClosedSet) (set : IsSet S) where
  pub closure_few : (m : ℕ) → m < length S.members → length (closure S m) ≤ length S.members
  closure_few m lt = distinct_few (length S.members) (closure S m) (breadth_distinct S.members (length S.members) 0 (m ∷ []) (one_distinct m)) (closure_inside S set m lt)

  pub startup_few : length S.startup ≤ length S.members
  startup_few = subst (λ (l : List ℕ). length l ≤ length S.members) (sym set.startup) (closure_few 0 set.some)

  -- ---- depth first

  -- those that were entered are distinct members, and as many more were left as entered
  record IsWalked (w v : Walk) : Type 0 where
    distinct : IsDistinct eqb v.entered
    inside : All (λ k. k < length S.members) v.entered
    same : length v.left + length w.entered ≡ length v.entered + length w.left

  abbrev Visits : (ℕ → Walk → Walk) → Type 0
  Visits visit = (m : ℕ) (w : Walk) → m < length S.members → IsDistinct eqb w.entered → All (λ k. k < length S.members) w.entered → IsWalked w (visit m w)

  each_walked : (visit : ℕ → Walk → Walk) → Visits visit → (ms : List ℕ) (w : Walk) → All (λ k. k < length S.members) ms → IsDistinct eqb w.entered
      → All (λ k. k < length S.members) w.entered → IsWalked w (walk_each visit ms w)
  each_walked visit visits [] w all d i = record { distinct = d; inside = i; same = omega arith }
  each_walked visit visits (m ∷ ms) w all d i =
      let one = visits m w (All-head (λ k. k < length S.members) m ms all) d i in
      let rest = each_walked visit visits ms (visit m w) (All-tail (λ k. k < length S.members) m ms all) one.distinct one.inside in
      let first = one.same in
      let later = rest.same in
      record { distinct = rest.distinct; inside = rest.inside; same = omega arith }

  walked : (depth : ℕ) → Visits (walk_from S depth)
  walked zero m w lt d i = record { distinct = d; inside = i; same = omega arith }
  walked (suc depth) m w lt d i = go (is_among m w.entered) refl (walked depth)
    where
      inner : Walk
      inner = walk_each (walk_from S depth) (needs S m) (entering m w)

      go : (b : Bool) → is_among m w.entered ≡ b → Visits (walk_from S depth) → IsWalked w (if b then w else leaving m inner)
      go true is visits = record { distinct = d; inside = i; same = omega arith }
      go false is visits =
          let rest = each_walked (walk_from S depth) visits (needs S m) (entering m w) (needs_inside S set m) (distinct_push w.entered m d is) (All-push (λ k. k < length S.members) w.entered m i lt) in
          let same = rest.same in
          let one = length-append w.entered (m ∷ []) in
          let two = length-append inner.left (m ∷ []) in
          record { distinct = rest.distinct; inside = rest.inside; same = omega arith }

  pub post_few : (m : ℕ) → m < length S.members → length (post_order S m) ≤ length S.members
  post_few m lt =
      let w = walk_from S (length S.members) m (record { entered = []; left = [] }) in
      let is = walked (length S.members) m (record { entered = []; left = [] }) lt none_distinct (All-nil (λ k. k < length S.members)) in
      let few = distinct_few (length S.members) w.entered is.distinct is.inside in
      let same = is.same in
      omega arith

-- ---- tasks

tasks_many : (p : Phase) (ms : List ℕ) → length (tasks_of p ms) ≡ length ms
tasks_many p [] = refl
tasks_many p (m ∷ ms) = ap suc (tasks_many p ms)

opening_few : (n : ℕ) (breadth post : List ℕ) → length breadth ≤ n → length post ≤ n → length (opening_tasks breadth post) ≤ 4 * n
opening_few n breadth post few some =
    let one = length-append (tasks_of Place breadth) (tasks_of Start breadth ++ (tasks_of Relocate breadth ++ tasks_of Construct post)) in
    let two = length-append (tasks_of Start breadth) (tasks_of Relocate breadth ++ tasks_of Construct post) in
    let three = length-append (tasks_of Relocate breadth) (tasks_of Construct post) in
    let a = tasks_many Place breadth in
    let b = tasks_many Start breadth in
    let c = tasks_many Relocate breadth in
    let d = tasks_many Construct post in
    omega arith

module _ (L : LinkedSet) (set : IsSet L.set) where
  pub startup_tasks_few : length (startup_frame L.set).tasks ≤ 4 * length L.set.members
  startup_tasks_few = opening_few (length L.set.members) L.set.startup (post_order L.set 0) (startup_few L.set set) (post_few L.set set 0 set.some)

  pub open_tasks_few : (m : ℕ) → m < length L.set.members → length (open_frame L.set m).tasks ≤ 4 * length L.set.members
  open_tasks_few m lt = opening_few (length L.set.members) (closure L.set m) (post_order L.set m) (closure_few L.set set m lt) (post_few L.set set m lt)
