-- A linked set and its merged module: what is seen alike of a run of each is the same to every device.
use Rattle.std.proofs.Common.{◌≡◌, ℕ, ◌≤◌, List, refl, sym}
use Rattle.spec_loading.specs.spec_linking.LinkedSets.{LinkedSet}
use Rattle.spec_loading.specs.spec_execution.OneModule.{module_system, module_run, module_too_deep}
use Rattle.spec_loading.specs.Loading.{loaded_too_deep}
use Rattle.spec_loading.specs.LoadedSet.{set_loading, set_system, set_opening, set_run}
use Rattle.spec_loading.specs.SetCosts.{step_cost, set_room}
use Rattle.spec_loading.specs.Merged.{Merged}
use Rattle.spec_hosts.specs.declared.ran.Ran.{Ran}
use Rattle.spec_hosts.specs.Ends.{RunsTo}
use Rattle.spec_limits.specs.Ending.{EndsByItself, IsAsDeep, IsAsWide, IsWithinDepth, steps_needed}
use Rattle.spec_limits.specs.SameRuns.{HasRoom, answering, DoTheSame, IsMergedRunLike, IsSetRunLike}
use Rattle.spec_limits.proofs.Within.{ends_within}
use Rattle.spec_limits.proofs.Same.{has_room, SeenAlike, seen_back, hosted_alike, steps, runs_to, runs_seen, same_end, same_seen}

module _ (L : LinkedSet) (bytes : List ℕ) (merged : Merged L bytes) where
  do_the_same : (ran other : Ran) → other.answers ≡ ran.answers → other.end ≡ ran.end
      → SeenAlike (set_system L) (module_system merged.wasm) (set_run L ran.answers ran.steps) (module_run merged.wasm merged.opening other.answers other.steps)
      → DoTheSame L bytes merged ran other
  do_the_same ran other same ends seen = record {
    answers = same;
    ends = ends;
    calls = seen.events;
    memory = seen.memory;
    devices = λ names arguments allows old new.
        hosted_alike (set_system L) (module_system merged.wasm) (answering names arguments allows) (set_opening L) merged.opening ran.steps other.steps
        ran.answers other.answers old new same seen;
    devices_back = λ names arguments allows old new.
        hosted_alike (module_system merged.wasm) (set_system L) (answering names arguments allows) merged.opening (set_opening L) other.steps ran.steps
        other.answers ran.answers old new (sym same)
        (seen_back (set_system L) (module_system merged.wasm) (set_run L ran.answers ran.steps) (module_run merged.wasm merged.opening other.answers other.steps) seen);
  }

  pub merged_does_the_same : (least most : ℕ) (ran other : Ran) → RunsTo (set_system L) (loaded_too_deep (set_loading L)) (set_opening L) least ran
      → RunsTo (module_system merged.wasm) (module_too_deep merged.wasm) merged.opening most other
      → other.answers ≡ ran.answers → EndsByItself ran.end → HasRoom other.end → DoTheSame L bytes merged ran other
  merged_does_the_same least most ran other is its same itself room =
      let S = set_system L in
      let T = module_system merged.wasm in
      let deep = loaded_too_deep (set_loading L) in
      let s = set_opening L in
      let t = merged.opening in
      do_the_same ran other same
      (same_end S T deep s t merged.agrees.there merged.agrees.back least ran is itself (module_too_deep merged.wasm) most other same its room)
      (same_seen S T deep s t merged.agrees.there merged.agrees.back least ran is itself (module_too_deep merged.wasm) most other same its room)

  pub set_does_the_same : (least most : ℕ) (ran other : Ran) → RunsTo (set_system L) (loaded_too_deep (set_loading L)) (set_opening L) least ran
      → RunsTo (module_system merged.wasm) (module_too_deep merged.wasm) merged.opening most other
      → other.answers ≡ ran.answers → EndsByItself other.end → HasRoom ran.end → DoTheSame L bytes merged ran other
  set_does_the_same least most ran other is its same itself room =
      let S = set_system L in
      let T = module_system merged.wasm in
      let deep = module_too_deep merged.wasm in
      let s = set_opening L in
      let t = merged.opening in
      do_the_same ran other same
      (sym (same_end T S deep t s merged.agrees.back merged.agrees.there most other its itself (loaded_too_deep (set_loading L)) least ran (sym same) is room))
      (seen_back T S (module_run merged.wasm merged.opening other.answers other.steps) (set_run L ran.answers ran.steps)
      (same_seen T S deep t s merged.agrees.back merged.agrees.there most other its itself (loaded_too_deep (set_loading L)) least ran (sym same) is room))

  pub merged_runs_like : (least most deepest widest : ℕ) (ran : Ran) → RunsTo (set_system L) (loaded_too_deep (set_loading L)) (set_opening L) least ran
      → EndsByItself ran.end → IsAsDeep L ran deepest → IsAsWide merged.wasm widest → IsWithinDepth deepest widest → steps_needed L ran ≤ most
      → IsMergedRunLike L bytes merged most ran
  merged_runs_like least most deepest widest ran runs ends deep wide within enough =
      let i = ends_within (set_system L) (loaded_too_deep (set_loading L)) merged.wasm (step_cost L) set_room 1 (set_opening L) merged.opening merged.within
      least most deepest widest ran runs ends deep wide within.activations within.values enough
      in
      record {
        steps = i.0;
        few = i.1;
        runs = i.2;
        same = merged_does_the_same least most ran (record ran { steps = i.0 }) runs i.2 refl ends (has_room ran.end ends);
      }

  pub set_runs_like : (most : ℕ) (other : Ran) → RunsTo (module_system merged.wasm) (module_too_deep merged.wasm) merged.opening most other
      → EndsByItself other.end → IsSetRunLike L bytes merged other
  set_runs_like most other its itself =
      let S = set_system L in
      let T = module_system merged.wasm in
      let deep = module_too_deep merged.wasm in
      let s = set_opening L in
      let t = merged.opening in
      let n = steps T S deep t s merged.agrees.back merged.agrees.there most other its itself in
      record {
        steps = n;
        runs = λ least few flat. runs_to T S deep t s merged.agrees.back merged.agrees.there most other its itself (loaded_too_deep (set_loading L)) least few flat;
        same = do_the_same (record other { steps = n }) other refl refl
            (seen_back T S (module_run merged.wasm merged.opening other.answers other.steps) (set_run L other.answers n)
            (runs_seen T S deep t s merged.agrees.back merged.agrees.there most other its itself));
      }
