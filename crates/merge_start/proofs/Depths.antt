-- How deep the call stack of the merged module is, where its state matches one of the set.
use Rattle.std.proofs.Common.{ℕ, ◌+◌, ◌*◌, ◌≤◌, List, [], ◌∷◌, length, sym, subst, arith}
use Rattle.spec_loading.specs.spec_runs.Systems.{Moving, Waits, Returned, Exited, Trapped}
use Rattle.spec_loading.specs.spec_execution.Limits.{activations}
use Rattle.spec_loading.specs.spec_execution.Runs.{Frame}
use Rattle.spec_loading.specs.spec_execution.Runs as frames
use Rattle.spec_loading.specs.spec_execution.OneModule.{Starting, ModuleState}
use Rattle.spec_loading.specs.spec_linking.LinkedSets.{LinkedSet}
use Rattle.spec_loading.specs.declared.task.After.{After}
use Rattle.spec_loading.specs.declared.task.After.TheVariants.{CallEntry, GiveHandle, GiveAndPromote}
use Rattle.spec_loading.specs.Phases.{LoaderFrame}
use Rattle.spec_loading.specs.LoadedSet.{SetState}
use Rattle.spec_loading.specs.SetCosts.{marks, set_room, module_depth}
use Rattle.spec_loading.specs.Costs.{depth_at}
use Rattle.merge_match.specs.Renumbering.{Numbers}
use Rattle.merge_match.specs.Matching.{Below, Stacks, gives_back}
use Rattle.merge_match.specs.Endings.{IsBottom}
use Rattle.merge_start.specs.Words.{Starts}
use Rattle.merge_start.specs.Points.{IsOuter, places, Matched}

abbrev deep : {Mark : Type 0} → List (Frame Mark) → ℕ
deep stack = length (activations stack)

module _ (L : LinkedSet) (n : Numbers) (x : Starts) where
  bottom_low : (f r : ℕ) (gs : List (Frame Starting)) → IsBottom f r gs → deep gs ≤ 1
  bottom_low f r [] bottom = omega arith
  bottom_low f r (g ∷ gs) bottom = subst (λ l. deep l ≤ 1) (sym bottom.1) (omega arith)

  outer_low : (after : After) (os hs : List (Frame Starting)) → IsOuter L x after os hs → deep os ≤ deep hs + 1
  outer_low CallEntry os hs outer = rw outer.0 (omega arith)
  outer_low (GiveHandle m) os hs outer = rw outer.1 (omega arith)
  outer_low (GiveAndPromote m) os hs outer = rw outer.1 (omega arith)

  below_low : (r : ℕ) (fs : List (Frame LoaderFrame)) (gs : List (Frame Starting)) → Below n (places L n x) r fs gs
      → deep gs ≤ deep fs + 3 * marks fs + 1
  below_low r [] gs below = (let low = bottom_low x.starting r gs below in omega (arith, low))
  below_low r (frames.Active a ∷ fs) gs below =
      let low = below_low a.results fs below.0 below.2 in
      rw below.1 (omega (arith, low))
  below_low r (frames.Marked frame ∷ fs) gs below =
      let low = below_low (gives_back frame.after) fs below.0 below.2 in
      let outer = outer_low frame.after below.1.outer below.0 below.1.under in
      rw below.1.stack (omega (arith, low, outer))

  stacks_low : (status : _) (fs : List (Frame LoaderFrame)) (gs : List (Frame Starting)) → Stacks n (places L n x) status fs gs
      → depth_at status gs + 3 ≤ deep fs + 3 * marks fs + 4
  stacks_low Moving [] gs stacks = absurd stacks
  stacks_low Moving (frames.Active a ∷ fs) gs stacks = (let low = below_low 0 (frames.Active a ∷ fs) gs stacks in omega (arith, low))
  stacks_low Moving (frames.Marked frame ∷ fs) gs stacks =
      let low = below_low (gives_back frame.after) fs stacks.0 stacks.2 in
      let outer = outer_low frame.after stacks.1.outer stacks.0 stacks.1.under in
      rw stacks.1.stack (omega (arith, low, outer))
  stacks_low (Waits asked) [] gs stacks = absurd stacks
  stacks_low (Waits asked) (f ∷ fs) gs stacks = (let low = below_low (length asked.host.ty.results) (f ∷ fs) gs stacks in omega (arith, low))
  stacks_low Returned fs gs stacks = omega arith
  stacks_low (Exited code) fs gs stacks = omega arith
  stacks_low (Trapped why) fs gs stacks = omega arith

  -- matching states: the field `deep` of the law with its cost
  pub matched_low : (s : SetState) (t : ModuleState) → Matched L n x s t → module_depth t + 3 ≤ set_room s
  matched_low s t m = rw m.status (stacks_low s.run.status s.run.stack t.stack m.stacks)
