-- What the orders of a closed set give are numbers of its members, and those that are promoted are distinct.
use Rattle.std.proofs.Common.{◌≡◌, ℕ, zero, suc, ◌+◌, ◌<◌, List, [], ◌∷◌, ◌++◌, length, map, nat_eq, slice_get, Option, Some, None, Bool, true, false, not, if◌then◌else◌, refl, ap, ◌∙◌, subst}
use Rattle.std.specs.Prelude.{◌||◌}
use Rattle.std.specs.List.{All, IsDistinct, list_any}
use Rattle.std.proofs.lemmas.Cmp.{nat_eq_equiv}
use Rattle.std.proofs.lemmas.List.{length-map}
use Rattle.std.proofs.lemmas.List.Elements.{All-nil, All-cons, All-head, All-tail, All-same, All-push, All-map, All-weaker, All-append, All-filter}
use Rattle.std.proofs.lemmas.Map.Keys.{IsDistinct-push}
use Rattle.spec_linking.proofs.of_spec_binary.Lists.{holds_at}
use Rattle.spec_linking.specs.Sets.{Member, ClosedSet}
use Rattle.spec_linking.specs.Orders.{is_among, needed_of, needs, needed_by, with_number, with_numbers, breadth_from, closure, Walk, entering, leaving, walk_each, walk_from, post_order}
use Rattle.spec_linking.specs.Gathering.{names_of, number_among, IsNumbered, IsSet}
use Rattle.spec_loading.specs.declared.task.Phase.{Phase}
use Rattle.spec_loading.specs.declared.task.Phase.TheVariants.{Place, Start, Relocate, Construct}
use Rattle.spec_loading.specs.declared.task.Task.{Task}
use Rattle.spec_loading.specs.Phases.{tasks_of, opening_tasks}
use Rattle.spec_loading.specs.LoaderAnswers.{later_members, promoted_with}

either : {A : Type 0} (P : A → Type 0) (b : Bool) (y z : A) → (b ≡ true → P y) → (b ≡ false → P z) → P (if b then y else z)
either P true y z p q = p refl
either P false y z p q = q refl

-- ---- one more number, which isn't there

-- a number is among some, whichever side of the test it stands on
pub among_turned : (n : ℕ) (xs : List ℕ) → list_any (nat_eq n) xs ≡ is_among n xs
among_turned n [] = refl
among_turned n (x ∷ xs) = ap (λ b. b || list_any (nat_eq n) xs) (nat_eq_equiv.symm n x) ∙ ap (λ b. nat_eq x n || b) (among_turned n xs)

pub distinct_last : (xs : List ℕ) (n : ℕ) → IsDistinct nat_eq xs → is_among n xs ≡ false → IsDistinct nat_eq (xs ++ n ∷ [])
distinct_last xs n apart new = IsDistinct-push nat_eq_equiv xs n apart (among_turned n xs ∙ new)

pub with_distinct : (more known : List ℕ) → IsDistinct nat_eq known → IsDistinct nat_eq (with_numbers known more)
with_distinct [] known apart = apart
with_distinct (m ∷ more) known apart =
    with_distinct more (with_number known m)
    (either (IsDistinct nat_eq) (is_among m known) known (known ++ m ∷ []) (λ e. apart) (λ e. distinct_last known m apart e))

pub with_inside : (P : ℕ → Type 0) (more known : List ℕ) → All P known → All P more → All P (with_numbers known more)
with_inside P [] known all rest = all
with_inside P (m ∷ more) known all rest =
    with_inside P more (with_number known m)
    (either (All P) (is_among m known) known (known ++ m ∷ []) (λ e. all) (λ e. All-push P known m all (All-head P m more rest)))
    (All-tail P m more rest)

module _ (S : ClosedSet) (set : IsSet S) where
  abbrev IsInside : ℕ → Type 0
  IsInside k = k < length S.members

  abbrev AllInside : List ℕ → Type 0
  AllInside ks = All IsInside ks

  needed_inside : (m : ℕ) (o : Option Member) → slice_get S.members m ≡ o → AllInside (needed_of o)
  needed_inside m None e = All-nil IsInside
  needed_inside m (Some member) e =
      let numbered = holds_at (IsNumbered (names_of S.members)) S.members m member set.numbered e in
      let names = names_of S.members in
      let number = number_among names in
      let there : All (λ name. IsInside (number name)) member.dylink.needed =
      All-weaker (λ name. number name < length names) (λ name. IsInside (number name))
      (λ name lt. subst (λ k. number name < k) (length-map S.members (λ (y : Member). y.name)) lt) member.dylink.needed numbered.there in
      All-same IsInside member.needed (map number member.dylink.needed) numbered.numbers (All-map IsInside number member.dylink.needed there)

  pub needs_inside : (m : ℕ) → AllInside (needs S m)
  needs_inside m = needed_inside m (slice_get S.members m) refl

  -- ---- breadth first

  by_inside : (o : Option ℕ) → AllInside (needed_by S.members o)
  by_inside None = All-nil IsInside
  by_inside (Some m) = needs_inside m

  breadth_inside : (turns k : ℕ) (known : List ℕ) → AllInside known → AllInside (breadth_from S.members turns k known)
  breadth_inside zero k known all = all
  breadth_inside (suc turns) k known all =
      let new = needed_by S.members (slice_get known k) in
      breadth_inside turns (k + 1) (with_numbers known new) (with_inside IsInside new known all (by_inside (slice_get known k)))

  pub closure_inside : (m : ℕ) → IsInside m → AllInside (closure S m)
  closure_inside m lt = breadth_inside (length S.members) 0 (m ∷ []) (All-cons IsInside m [] lt (All-nil IsInside))

  pub startup_inside : AllInside S.startup
  startup_inside = All-same IsInside S.startup (closure S 0) set.startup (closure_inside 0 set.some)

  -- ---- depth first

  abbrev Kept : Walk → Type 0
  Kept w = AllInside w.left

  each_inside : (visit : ℕ → Walk → Walk) → ((m : ℕ) (w : Walk) → IsInside m → Kept w → Kept (visit m w)) → (ms : List ℕ) (w : Walk)
      → AllInside ms → Kept w → Kept (walk_each visit ms w)
  each_inside visit keeps [] w all a = a
  each_inside visit keeps (m ∷ ms) w all a =
      each_inside visit keeps ms (visit m w) (All-tail IsInside m ms all) (keeps m w (All-head IsInside m ms all) a)

  walk_inside : (depth m : ℕ) (w : Walk) → IsInside m → Kept w → Kept (walk_from S depth m w)
  walk_inside zero m w lt a = a
  walk_inside (suc depth) m w lt a =
      let inner = walk_each (walk_from S depth) (needs S m) (entering m w) in
      either Kept (is_among m w.entered) w (leaving m inner) (λ e. a)
      (λ e. All-push IsInside inner.left m (each_inside (walk_from S depth) (walk_inside depth) (needs S m) (entering m w) (needs_inside m) a) lt)

  pub post_inside : (m : ℕ) → IsInside m → AllInside (post_order S m)
  post_inside m lt = walk_inside (length S.members) m (record { entered = []; left = [] }) lt (All-nil IsInside)

  -- ---- tasks

  abbrev IsOf : Task → Type 0
  IsOf task = IsInside task.member

  of_phase : (p : Phase) (ms : List ℕ) → AllInside ms → All IsOf (tasks_of p ms)
  of_phase p ms all = All-map IsOf (λ m. record { phase = p; member = m }) ms all

  of_opening : (breadth post : List ℕ) → AllInside breadth → AllInside post → All IsOf (opening_tasks breadth post)
  of_opening breadth post a b =
      All-append IsOf (tasks_of Place breadth) (tasks_of Start breadth ++ (tasks_of Relocate breadth ++ tasks_of Construct post)) (of_phase Place breadth a)
      (All-append IsOf (tasks_of Start breadth) (tasks_of Relocate breadth ++ tasks_of Construct post) (of_phase Start breadth a)
      (All-append IsOf (tasks_of Relocate breadth) (tasks_of Construct post) (of_phase Relocate breadth a) (of_phase Construct post b)))

  -- of what opens a member, and of what starts the program
  pub opening_inside : (m : ℕ) → IsInside m → All IsOf (opening_tasks (closure S m) (post_order S m))
  opening_inside m lt = of_opening (closure S m) (post_order S m) (closure_inside m lt) (post_inside m lt)

  pub starting_inside : All IsOf (opening_tasks S.startup (post_order S 0))
  starting_inside = of_opening S.startup (post_order S 0) startup_inside (post_inside 0 set.some)

  -- ---- promoted members

  pub promoted_inside : (m : ℕ) (promoted : List ℕ) → IsInside m → AllInside promoted → AllInside (promoted_with S m promoted)
  promoted_inside m promoted lt all =
      with_inside IsInside (later_members S m) promoted all (All-filter (λ k. not (is_among k S.startup)) IsInside (closure S m) (closure_inside m lt))
