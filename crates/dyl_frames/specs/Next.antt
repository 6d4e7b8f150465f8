-- The next step of a run that a loader opens.
-- Serves the contracts of this crate, which follow Loading of `spec_loading`.
use Rattle.std.specs.Prelude.{◌≡◌, List, [], ◌∷◌, Option, Some, None, true, false, IsTrue}
use Rattle.spec_loading.specs.spec_runs.Systems.{Moving}
use Rattle.spec_loading.specs.spec_binary.Options.{◌>>=◌}
use Rattle.spec_loading.specs.spec_execution.Runs.{is_running, Frame, Active, Marked, Next, Loads}
use Rattle.wasm_machine.specs.Machines.{may_grow_at}
use Rattle.spec_loading.specs.Phases.{LoaderFrame}
use Rattle.spec_loading.specs.Loading.{Loading, LoadedState, LoaderAnswer, loaded_next, loaded_step, loaded_too_deep}

-- what a call of a function of the loader comes to; none for all else
abbrev pub answer_of : {Units : Type 0} → Loading Units → LoadedState Units → Option (Next Units LoaderFrame) → Option LoaderAnswer
answer_of D s (Some (Loads which args under)) = D.answer which args s.run.memory s.loader
answer_of D s _ = None

-- what the next step comes to, where it calls a function of the loader
abbrev pub next_answer : {Units : Type 0} → Loading Units → LoadedState Units → Option LoaderAnswer
next_answer D s = loaded_next D s s.run.stack >>= λ x. answer_of D x.state x.next

-- code is on top
abbrev pub HasCodeOnTop : {Units : Type 0} → LoadedState Units → Type 0
HasCodeOnTop s = is_running s.run.stack ≡ true

-- The next step is one of code that is on top: it passes no limit of depth, the run goes on by itself after it, and it calls no function
-- of the loader.
abbrev pub IsCodeNext : {Units : Type 0} → Loading Units → LoadedState Units → Type 0
IsCodeNext {Units} D s =
    (s.run.status ≡ Moving) × HasCodeOnTop s × (loaded_too_deep D s ≡ false)
    × ((t : LoadedState Units) × (loaded_step D s ≡ Some t) × (t.run.status ≡ Moving)) × (next_answer D s ≡ None)

-- a frame of the loader is on top, or code that begins with a call or a growth
abbrev pub CallsOrGrows : List (Frame LoaderFrame) → Type 0
CallsOrGrows [] = ⊥
CallsOrGrows (Active a ∷ frames) = IsTrue (may_grow_at a.rest)
CallsOrGrows (Marked frame ∷ frames) = Unit {0}

-- the next step may want memory
abbrev pub MayWant : {Units : Type 0} → LoadedState Units → Type 0
MayWant s = (s.run.status ≡ Moving) × CallsOrGrows s.run.stack
