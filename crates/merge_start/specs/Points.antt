-- The points of generated code that stand for the loader's frames.
-- Part of the statement of `snap`: Snapshots of `snap_set`.
use Rattle.std.specs.Prelude.{◌≡◌, ℕ, ◌+◌, List, [], ◌∷◌, ◌++◌, length, None, true}
use Rattle.wasm_form.specs.declared.instr.Instr.{Instr, Plain}
use Rattle.spec_loading.specs.spec_execution.Activations.{Activation}
use Rattle.spec_loading.specs.spec_execution.Runs.{Frame}
use Rattle.spec_loading.specs.spec_execution.Runs as frames
use Rattle.spec_loading.specs.spec_execution.OneModule.{Starting, ModuleState}
use Rattle.spec_loading.specs.spec_linking.LinkedSets.{LinkedSet}
use Rattle.spec_loading.specs.declared.task.After.{After}
use Rattle.spec_loading.specs.declared.task.After.TheVariants.{CallEntry, GiveHandle, GiveAndPromote}
use Rattle.spec_loading.specs.Phases.{LoaderFrame}
use Rattle.spec_loading.specs.Members.{uses_loader}
use Rattle.spec_loading.specs.LoaderAnswers.{later_members}
use Rattle.spec_loading.specs.LoadedSet.{SetState}
use Rattle.dyl_addresses.specs.Sets.{AreOf}
use Rattle.merge_match.specs.Renumbering.{Numbers}
use Rattle.merge_match.specs.Matching.{Places, gives_back, Matches}
use Rattle.merge_match.specs.Endings.{at_end, IsBottom}
use Rattle.merge_pieces.specs.Opcodes as op
use Rattle.merge_start.specs.Words.{Starts, frame_code, promote_code}
use Rattle.merge_start.specs.Started.{Same, IsWord, AreLater}

-- a function without locals has this code left, in no block
abbrev pub before_code : ℕ → ℕ → List Instr → Activation
before_code f results code = record { unit = 0; func = f; results = results; locals = []; values = []; rest = code; levels = [] }

-- the function that goes through the tasks of a frame
abbrev pub opening_function : Starts → After → ℕ
opening_function x CallEntry = x.starting
opening_function x (GiveHandle m) = x.opening m
opening_function x (GiveAndPromote m) = x.opening m

-- it stands before the calls for the tasks that are left
abbrev pub before_tasks : LinkedSet → Numbers → Starts → LoaderFrame → Activation
before_tasks L n x frame = before_code (opening_function x frame.after) (gives_back frame.after) (frame_code L n x frame)

-- the function of a phase has called a function, behind which nothing is left
abbrev pub behind_call : ℕ → Activation
behind_call f = record (before_code f 0 []) { levels = record { below = []; arity = 0; again = None; after = [] } ∷ [] }

-- an activation that returns the value that it is given
pub record HandsOn (a : Activation) : Type 0 where
  pub more : List Instr
  pub rest : a.rest ≡ Plain op.return_ ∷ more
  pub results : a.results ≡ 1

-- an activation goes through some code, and then returns the value that it is given
pub record HandsOnAfter (code : List Instr) (a : Activation) : Type 0 where
  pub unit : a.unit ≡ 0
  pub more : List Instr
  pub rest : a.rest ≡ code ++ Plain op.return_ ∷ more
  pub results : a.results ≡ 1

-- The same, where the code promotes the closure of a member. The module has the globals for this, behind that of the error.
pub record Promotes (L : LinkedSet) (x : Starts) (m : ℕ) (a : Activation) : Type 0 where
  pub hands : HandsOnAfter (promote_code L x m) a
  pub used : uses_loader L ≡ true
  pub number : x.promoted ≡ x.guards + length L.set.members + 1
  pub later : AreLater L (later_members L.set m)

-- What stands under the function that goes through the tasks, and under that once the tasks are done. The entry function stands over
-- nothing, and stays at the bottom with nothing left; the function that opens a member was called by what hands on the handle, at once or once
-- the closure of the member is promoted.
abbrev pub IsOuter : LinkedSet → Starts → After → List (Frame Starting) → List (Frame Starting) → Type 0
IsOuter L x CallEntry os hs = (os ≡ []) × (hs ≡ frames.Active (at_end x.starting) ∷ [])
IsOuter L x (GiveHandle m) os hs = (a : Activation) × (os ≡ frames.Active a ∷ hs) × HandsOn a × IsWord (m + 1)
IsOuter L x (GiveAndPromote m) os hs = (a : Activation) × (os ≡ frames.Active a ∷ hs) × Promotes L x m a × IsWord (m + 1)

pub record IsTop (L : LinkedSet) (n : Numbers) (x : Starts) (frame : LoaderFrame) (gs hs : List (Frame Starting)) : Type 0 where
  pub outer : List (Frame Starting)
  pub stack : gs ≡ frames.Active (before_tasks L n x frame) ∷ outer
  pub under : IsOuter L x frame.after outer hs
  pub tasks : AreOf L frame.tasks

pub record IsUnder (L : LinkedSet) (n : Numbers) (x : Starts) (r : ℕ) (frame : LoaderFrame) (gs hs : List (Frame Starting)) : Type 0 where
  pub none : r ≡ 0
  pub phase : ℕ
  pub outer : List (Frame Starting)
  pub stack : gs ≡ frames.Active (behind_call phase) ∷ frames.Active (before_tasks L n x frame) ∷ outer
  pub under : IsOuter L x frame.after outer hs
  pub tasks : AreOf L frame.tasks

-- the points that stand for the frames of the loader: on top of the call stack, and under what they called
abbrev pub places : LinkedSet → Numbers → Starts → Places Starting
places L n x = record {
  Bottom = IsBottom x.starting;
  Under = λ r frame gs hs. IsUnder L n x r frame gs hs;
  Top = λ frame gs hs. IsTop L n x frame gs hs;
}

-- The matching of a state of the set and one of the module (`Matches`): the memories are equal with their maxima, and so is how the states
-- stand; globals, cells, tables and segments are the same by the numbers, and guards and stages, and the promoted members and their places
-- (`Same`); and the activations of the set are in order those of the module, where a frame of the loader is one of these points (`places`).
-- At the bottom of the module's there may be the entry function with nothing left but its return.
abbrev pub Matched : LinkedSet → Numbers → Starts → SetState → ModuleState → Type 0
Matched L n x s t = Matches n (places L n x) (Same L n x) s t
