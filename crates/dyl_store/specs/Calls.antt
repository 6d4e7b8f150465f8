-- Calls of the functions of the loader, and how they are answered.
-- Serves the contracts of this crate, which follow LoaderAnswers of `spec_loading`.
use Rattle.std.specs.Prelude.{◌≡◌, ℕ, List, Some, Bool, true, false}
use Rattle.wasm_form.specs.declared.runtime.LoaderCall.{LoaderCall}
use Rattle.spec_loading.specs.spec_linking.LinkedSets.{LinkedSet}
use Rattle.spec_loading.specs.Loading.{LoaderState, LoaderAnswer}
use Rattle.spec_loading.specs.LoaderAnswers.{loader_answer}
use Rattle.spec_loading.specs.LoadedSet.{SetState, set_loading}
use Rattle.wasm_machine.specs.declared.event.Event.{Event}
use Rattle.wasm_machine.specs.declared.event.Event.TheVariants as event
use Rattle.dyl_frames.specs.Next.{next_answer}
use Rattle.dyl_frames.specs.Cores as cores
use Rattle.dyl_frames.specs.Cores.{IsAtCall, Steps}
use Rattle.dyl_store.specs.declared.running.Running.{Running}

-- whether a function of the loader is called, which is still to be answered
abbrev pub is_loader : Event → Bool
is_loader (event.Loader call first second) = true
is_loader _ = false

-- what the loader keeps
abbrev pub loader_of : Running → LoaderState
loader_of x = cores.loader_of x.core

-- the step that calls a function of the loader was made, which came to this answer
abbrev pub AnswersWith : LinkedSet → LoaderAnswer → Event → Running → Running → Type 0
AnswersWith L answer e old new =
    (s : SetState) → IsAtCall (set_loading L) old.core old.world.store old.world.memory s → next_answer (set_loading L) s ≡ Some answer
    → Steps (set_loading L) e s new.core new.world.store new.world.memory

-- the same of the answer of this function to these arguments
abbrev pub Answers : LinkedSet → LoaderCall → List ℕ → Event → Running → Running → Type 0
Answers L call args e old new =
    (answer : LoaderAnswer) → loader_answer L call args old.world.memory (loader_of old) ≡ Some answer → AnswersWith L answer e old new
