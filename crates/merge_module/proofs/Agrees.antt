-- The merged module meets the premises of the laws of one step and of agreeing runs, so its run agrees with that of the loaded set.
use Rattle.std.proofs.Common.{◌≡◌, ◌≤◌, Bool, true, false, refl, arith}
use Rattle.spec_loading.specs.spec_runs.Agreement.{Agree}
use Rattle.spec_loading.specs.spec_runs.Costs.{AgreeWithin}
use Rattle.spec_loading.specs.spec_execution.OneModule.{module_system, opened_state}
use Rattle.spec_loading.specs.spec_linking.LinkedSets.{LinkedSet}
use Rattle.spec_loading.specs.spec_linking.Slots.{linked_plan}
use Rattle.spec_loading.proofs.of_spec_linking.LinkedFacts.{linked_limits}
use Rattle.spec_loading.specs.Members.{uses_loader}
use Rattle.spec_loading.specs.LoadedSet.{opening_memory, set_system, set_opening}
use Rattle.spec_loading.specs.SetCosts.{step_cost, set_room, module_depth}
use Rattle.merge_match.specs.Bounded.{IsBounded}
use Rattle.merge_start.specs.Laws.{CallsAreAnswered, SetsRunAsMerged, SetsRunWithin, UnusedIsAnswered}
use Rattle.merge_dl.specs.Laws.{LengthsAreGiven, MembersAreSearchedSoon, LoaderIsAnswered}
use Rattle.merge_module.specs.MergedModule.{finders_of}
use Rattle.merge_module.specs.Laws.{MeetsPremises}
use Rattle.merge_module.proofs.Known.{IsKnown}
use Rattle.merge_module.proofs.Ready.{is_ready, start_ready, loader_ready}
use Rattle.merge_module.proofs.Opens.{N, X, M, has_parts, opened, module_opens}
use Rattle.merge_module.proofs.OpenedStore.{is_opened}

module _ (unused : UnusedIsAnswered) (lengths : LengthsAreGiven) (searches : MembersAreSearchedSoon) (loader : LoaderIsAnswered) (L : LinkedSet) (K : IsKnown L) (few : (linked_plan L).pages_max ≤ 16384) where
  -- the memory that the set begins with ends before the last address
  bounded : IsBounded (opening_memory L)
  bounded =
      let sized = K.memory in
      let limits = linked_limits L K.links in
      let pages = limits.pages in
      record { most = omega arith; within = omega arith }

  -- calls of the functions of the loader are answered, whether they are used or not
  answered : CallsAreAnswered L (N L K few) (X L K few) (M L K few)
  answered = go (uses_loader L) refl
    where
      go : (b : Bool) → uses_loader L ≡ b → CallsAreAnswered L (N L K few) (X L K few) (M L K few)
      go true used =
          loader L (N L K few) (X L K few) (finders_of L (X L K few)) (M L K few) K.set K.links used (has_parts L K few)
          (loader_ready lengths searches L K few used)
      go false none = unused L (N L K few) (X L K few) (M L K few) (has_parts L K few) none

  pub meets : MeetsPremises L
  meets = record {
    parts = has_parts L K few;
    ready = is_ready L K few;
    start = start_ready L K.set;
    calls = answered;
    bounded = bounded;
    opening = opened L K few;
    opens = module_opens L K few;
    opened = is_opened L K few;
  }

  pub runs_within : SetsRunWithin → AgreeWithin (set_system L) (module_system (M L K few)) (step_cost L) set_room module_depth 1 (set_opening L)
      (opened_state (M L K few) (X L K few).starting (opened L K few) (opening_memory L))
  runs_within within =
      within L (N L K few) (X L K few) (M L K few) (has_parts L K few) (is_ready L K few) (start_ready L K.set) answered bounded K.set
      (opened L K few) (is_opened L K few)

  pub runs_agree : SetsRunAsMerged → Agree (set_system L) (module_system (M L K few)) (set_opening L) (opened_state (M L K few) (X L K few).starting (opened L K few) (opening_memory L))
  runs_agree runs =
      runs L (N L K few) (X L K few) (M L K few) (has_parts L K few) (is_ready L K few) (start_ready L K.set) answered bounded K.set
      (opened L K few) (is_opened L K few)
