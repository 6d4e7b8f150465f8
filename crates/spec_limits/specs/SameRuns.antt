-- A linked set and its merged module do the same: over the same answers they end alike, with the same host calls on the same memory, and so
-- with the same changes of every device.
-- Part of the statement of laws: docs/LAWS.md, "Each does what the other does".
use Rattle.std.specs.Prelude.{◌≡◌, ◌≤◌, ◌<◌, ℕ, List, Bool, false, IsTrue}
use Rattle.spec_loading.specs.spec_linking.LinkedSets.{LinkedSet}
use Rattle.spec_loading.specs.spec_execution.OneModule.{module_system, module_run, module_too_deep}
use Rattle.spec_loading.specs.Loading.{loaded_too_deep}
use Rattle.spec_loading.specs.LoadedSet.{set_loading, set_system, set_opening, set_run}
use Rattle.spec_loading.specs.Merged.{Merged}
use Rattle.spec_hosts.specs.wasm_form.declared.runtime.Answer.{Answer}
use Rattle.spec_hosts.specs.spec_runtime.Memories.{MemoryInstance}
use Rattle.spec_hosts.specs.spec_runtime.Names.{HostNames}
use Rattle.spec_hosts.specs.spec_runtime.Hosts.{HostCall}
use Rattle.spec_hosts.specs.declared.ran.Ran.{Ran}
use Rattle.spec_hosts.specs.declared.ran.RunEnd.{RunEnd}
use Rattle.spec_hosts.specs.declared.ran.RunEnd.TheVariants as end
use Rattle.spec_hosts.specs.Devices.{Devices}
use Rattle.spec_hosts.specs.Hosted.{Embedder}
use Rattle.spec_hosts.specs.Ends.{RunsTo, AreHosted}
use Rattle.spec_limits.specs.Ending.{EndsByItself, IsAsDeep, IsAsWide, IsWithinDepth, steps_needed}

-- the run wasn't ended by its limit of steps, nor by one of depth
abbrev pub HasRoom : RunEnd → Type 0
HasRoom end.StepLimit = ⊥
HasRoom end.DepthLimit = ⊥
HasRoom _ = Unit {0}

-- what answers host calls: WASI, with the arguments of the program, and to another call an answer that a test allows
abbrev pub answering : HostNames → List (List ℕ) → (HostCall → MemoryInstance → Answer → Bool) → Embedder
answering names arguments allows = record { names = names; arguments = arguments; callback = λ call memory answer. IsTrue (allows call memory answer) }

-- One run of the set, and one of its merged module, over the same answers: they end alike, with the same host calls on the same memory, and
-- the memory at the end is the same. So whatever the host calls of the one do to the devices, those of the other do.
pub record DoTheSame (L : LinkedSet) (bytes : List ℕ) (merged : Merged L bytes) (ran other : Ran) : Type 0 where
  pub answers : other.answers ≡ ran.answers
  pub ends : other.end ≡ ran.end
  pub calls : (module_run merged.wasm merged.opening other.answers other.steps).events ≡ (set_run L ran.answers ran.steps).events
  pub memory : (module_system merged.wasm).memory (module_run merged.wasm merged.opening other.answers other.steps).state
      ≡ (set_system L).memory (set_run L ran.answers ran.steps).state
  pub devices : (names : HostNames) (arguments : List (List ℕ)) (allows : HostCall → MemoryInstance → Answer → Bool) (old new : Devices)
      → AreHosted (set_system L) (answering names arguments allows) (set_opening L) ran.steps ran.answers old new
      → AreHosted (module_system merged.wasm) (answering names arguments allows) merged.opening other.steps other.answers old new
  pub devices_back : (names : HostNames) (arguments : List (List ℕ)) (allows : HostCall → MemoryInstance → Answer → Bool) (old new : Devices)
      → AreHosted (module_system merged.wasm) (answering names arguments allows) merged.opening other.steps other.answers old new
      → AreHosted (set_system L) (answering names arguments allows) (set_opening L) ran.steps ran.answers old new

-- Where a run of the set, over some answers, ended by itself, any run of the merged module over the same
-- answers does the same, unless its limit of steps or one of depth ends it.
abbrev pub MergedRunsDoTheSame : Type 0
MergedRunsDoTheSame = (L : LinkedSet) (bytes : List ℕ) (merged : Merged L bytes) (least most : ℕ) (ran other : Ran)
    → RunsTo (set_system L) (loaded_too_deep (set_loading L)) (set_opening L) least ran
    → RunsTo (module_system merged.wasm) (module_too_deep merged.wasm) merged.opening most other
    → other.answers ≡ ran.answers → EndsByItself ran.end → HasRoom other.end → DoTheSame L bytes merged ran other

-- And the other way round: where a run of the merged module ended by itself, any run of the set over the same answers does the same, unless
-- its limit of steps or one of depth ends it.
abbrev pub SetRunsDoTheSame : Type 0
SetRunsDoTheSame = (L : LinkedSet) (bytes : List ℕ) (merged : Merged L bytes) (least most : ℕ) (ran other : Ran)
    → RunsTo (set_system L) (loaded_too_deep (set_loading L)) (set_opening L) least ran
    → RunsTo (module_system merged.wasm) (module_too_deep merged.wasm) merged.opening most other
    → other.answers ≡ ran.answers → EndsByItself other.end → HasRoom ran.end → DoTheSame L bytes merged ran other

-- a run of the merged module of at most so many steps does what that of the set did
pub record IsMergedRunLike (L : LinkedSet) (bytes : List ℕ) (merged : Merged L bytes) (most : ℕ) (ran : Ran) : Type 0 where
  pub steps : ℕ
  pub few : steps ≤ steps_needed L ran
  pub runs : RunsTo (module_system merged.wasm) (module_too_deep merged.wasm) merged.opening most (record ran { steps = steps })
  pub same : DoTheSame L bytes merged ran (record ran { steps = steps })

-- There is such a run, within these limits.
abbrev pub MergedRunsToItsEnd : Type 0
MergedRunsToItsEnd = (L : LinkedSet) (bytes : List ℕ) (merged : Merged L bytes) (least most deepest widest : ℕ) (ran : Ran)
    → RunsTo (set_system L) (loaded_too_deep (set_loading L)) (set_opening L) least ran → EndsByItself ran.end
    → IsAsDeep L ran deepest → IsAsWide merged.wasm widest → IsWithinDepth deepest widest → steps_needed L ran ≤ most
    → IsMergedRunLike L bytes merged most ran

-- before each step of a run of the set no limit of depth is due
abbrev pub IsNowhereTooDeep : LinkedSet → Ran → Type 0
IsNowhereTooDeep L ran = (n : ℕ) → n < ran.steps → loaded_too_deep (set_loading L) (set_run L ran.answers n).state ≡ false

-- A run of the set does what that of the merged module did: it may make as many steps, and no limit of depth is due before one of them.
pub record IsSetRunLike (L : LinkedSet) (bytes : List ℕ) (merged : Merged L bytes) (other : Ran) : Type 0 where
  pub steps : ℕ
  pub runs : (least : ℕ) → steps ≤ least → IsNowhereTooDeep L (record other { steps = steps })
      → RunsTo (set_system L) (loaded_too_deep (set_loading L)) (set_opening L) least (record other { steps = steps })
  pub same : DoTheSame L bytes merged (record other { steps = steps }) other

abbrev pub SetRunsToItsEnd : Type 0
SetRunsToItsEnd = (L : LinkedSet) (bytes : List ℕ) (merged : Merged L bytes) (most : ℕ) (other : Ran)
    → RunsTo (module_system merged.wasm) (module_too_deep merged.wasm) merged.opening most other → EndsByItself other.end
    → IsSetRunLike L bytes merged other
