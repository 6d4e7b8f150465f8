-- The tasks of the loader's frames are of members of the set.
use Rattle.std.proofs.Common.{ℕ, ◌<◌, List, [], ◌∷◌, ◌++◌, length}
use Rattle.std.specs.List.{All}
use Rattle.std.proofs.lemmas.List.Elements.{All-head, All-tail}
use Rattle.spec_loading.specs.spec_linking.Orders.{closure, post_order}
use Rattle.spec_loading.specs.spec_linking.Gathering.{IsSet}
use Rattle.spec_loading.specs.spec_linking.LinkedSets.{LinkedSet}
use Rattle.spec_loading.specs.declared.task.Phase.{Phase}
use Rattle.spec_loading.specs.declared.task.Phase.TheVariants.{Place, Start, Relocate, Construct}
use Rattle.spec_loading.specs.declared.task.Task.{Task}
use Rattle.spec_loading.specs.Phases.{tasks_of, opening_tasks, startup_frame, open_frame}
use Rattle.spec_loading.proofs.InsideSets.{closure_inside, post_inside, startup_inside}
use Rattle.dyl_addresses.specs.Sets.{AreOf}

module _ (L : LinkedSet) where
  abbrev IsMember : ℕ → Type 0
  IsMember k = k < length L.set.members

  of_phase : (p : Phase) (ms : List ℕ) → All IsMember ms → AreOf L (tasks_of p ms)
  of_phase p [] all = tt
  of_phase p (m ∷ ms) all = (All-head IsMember m ms all, of_phase p ms (All-tail IsMember m ms all))

  of_append : (xs ys : List Task) → AreOf L xs → AreOf L ys → AreOf L (xs ++ ys)
  of_append [] ys a b = b
  of_append (x ∷ xs) ys a b = (a.0, of_append xs ys a.1 b)

  of_opening : (breadth post : List ℕ) → All IsMember breadth → All IsMember post → AreOf L (opening_tasks breadth post)
  of_opening breadth post a b =
      of_append (tasks_of Place breadth) (tasks_of Start breadth ++ (tasks_of Relocate breadth ++ tasks_of Construct post)) (of_phase Place breadth a)
      (of_append (tasks_of Start breadth) (tasks_of Relocate breadth ++ tasks_of Construct post) (of_phase Start breadth a)
      (of_append (tasks_of Relocate breadth) (tasks_of Construct post) (of_phase Relocate breadth a) (of_phase Construct post b)))

  -- of the frame that opens a member, and of the first one
  pub of_open : IsSet L.set → (m : ℕ) → IsMember m → AreOf L (open_frame L.set m).tasks
  of_open set m lt = of_opening (closure L.set m) (post_order L.set m) (closure_inside L.set set m lt) (post_inside L.set set m lt)

  pub of_startup : IsSet L.set → AreOf L (startup_frame L.set).tasks
  of_startup set =
      of_opening L.set.startup (post_order L.set 0) (startup_inside L.set set)
      (post_inside L.set set 0 set.some)
