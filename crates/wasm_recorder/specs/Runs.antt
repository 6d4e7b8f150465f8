-- What is told of the steps of a run, from wherever it stands.
-- Serves the contracts of this crate, which follow Recorded of `spec_runtime`.
use Rattle.std.specs.Prelude.{◌≡◌, ◌≢◌, ◌<◌, ◌≤◌, ◌⊎◌, ◌+◌, ℕ, suc, Some, Bool, true, false}
use Rattle.std.specs.List.{All}
use Rattle.wasm_form.specs.declared.runtime.Answer.{Answer}
use Rattle.spec_safety.specs.spec_runs.Systems.{Moving}
use Rattle.spec_safety.specs.spec_runtime.Memories.{MemoryInstance}
use Rattle.spec_safety.specs.spec_runtime.Recorded.{Recorded, waits, FitsWait}
use Rattle.spec_safety.specs.spec_runtime.Courses.{after, state_at, IsAt}
use Rattle.wasm_step.specs.declared.done.Done.{Done}
use Rattle.wasm_step.specs.declared.done.Done.TheVariants as done
use Rattle.wasm_machine.specs.Iterated.{Iterated}
use Rattle.wasm_machine.specs.Steps.{TellsStatus, ArgumentsFit}
use Rattle.wasm_machine.specs.declared.event.Event.{Event}
use Rattle.wasm_machine.specs.declared.event.Event.TheVariants as event
use Rattle.spec_safety.specs.ValueTypes.{IsOfBytes}
use Rattle.wasm_recorder.specs.Bares.{Bares, StandsSo}

module _ {B K : Type 0} (D : Bares B K) where
  -- ---- states

  -- The next step is one of code: it passes no limit of depth, and the run goes on by itself after it.
  abbrev pub IsCodeNext : (k : K) (o : D.Origin) → (D.course k o).system.State → Type 0
  IsCodeNext k o s =
      ((D.course k o).system.status s ≡ Moving) × D.IsCode k o s × ((D.course k o).deep s ≡ false)
      × ((t : (D.course k o).system.State) × ((D.course k o).system.step s ≡ Some t) × ((D.course k o).system.status t ≡ Moving))

  -- so it was of each state from which one of the further steps was made
  abbrev pub HadCode : (k : K) (o : D.Origin) → Recorded → Recorded → Type 0
  HadCode k o old new = (n : ℕ) → old.steps ≤ n → n < new.steps → D.HasCode k o (after (D.course k o) n old.answers).state

  -- where the recorded steps of a run lead the next one may want memory
  abbrev pub MayWantAt : (k : K) (o : D.Origin) → Recorded → Type 0
  MayWantAt k o x = D.MayWant k o (state_at (D.course k o) x)

  -- ---- one step

  -- a step was made that passes no limit of depth, and is told
  abbrev pub Makes : (k : K) (o : D.Origin) → Event → (D.course k o).system.State → B → Type 0
  Makes k o e s new =
      ((D.course k o).deep s ≡ false)
      × ((t : (D.course k o).system.State) × ((D.course k o).system.step s ≡ Some t) × TellsStatus (D.course k o).host e ((D.course k o).system.status t) × D.IsState new k o t)

  -- A step was made from a state and is told. Where it would be too deep the run stays.
  abbrev pub Steps : (k : K) (o : D.Origin) → Event → (D.course k o).system.State → B → Type 0
  Steps k o event.Deep s new = ((D.course k o).deep s ≡ true) × D.IsState new k o s
  Steps k o e s new = Makes k o e s new

  -- the same from wherever the run stands
  abbrev pub StepsFrom : Event → B → B → Type 0
  StepsFrom e old new =
      (o : D.Origin) → D.IsOf (D.key old) o → (s : (D.course (D.key old) o).system.State) → D.IsState old (D.key old) o s → Steps (D.key old) o e s new

  -- from wherever the run stands the next step may want memory
  abbrev pub WantsFrom : B → Type 0
  WantsFrom old =
      (o : D.Origin) → D.IsOf (D.key old) o → (s : (D.course (D.key old) o).system.State) → D.IsState old (D.key old) o s → D.MayWant (D.key old) o s

  -- what is asked of a host function fits it
  abbrev pub Asks : Event → B → Type 0
  Asks e old = (o : D.Origin) → D.IsOf (D.key old) o → ArgumentsFit (D.course (D.key old) o).host e

  -- the steps of some recorded run, over answers of bytes, lead to a state at which it stands
  abbrev pub IsSomewhere : B → Type 0
  IsSomewhere b =
      (o : D.Origin) × D.IsOf (D.key b) o
      × ((x : Recorded) × IsAt (D.course (D.key b) o) x × D.IsState b (D.key b) o (state_at (D.course (D.key b) o) x) × All IsOfBytes x.answers)

  -- ---- steps of code

  -- a step of code that passes no limit of depth, after which the run goes on by itself
  abbrev pub CodeStep : (k : K) (o : D.Origin) → (D.course k o).system.State → (D.course k o).system.State → Type 0
  CodeStep k o s t =
      D.HasCode k o s × ((D.course k o).deep s ≡ false) × ((D.course k o).system.step s ≡ Some t) × ((D.course k o).system.status t ≡ Moving)

  -- this is what one step more came to: none was tried; it was the last; memory was wanting; or it is left, and isn't one of code
  abbrev pub StopsAt : (k : K) (o : D.Origin) → Done → (D.course k o).system.State → B → Type 0
  StopsAt k o done.Goes s new = D.IsState new k o s
  StopsAt k o done.Returned s new = D.HasCode k o s × Makes k o event.Returned s new
  StopsAt k o (done.Trapped why) s new = D.HasCode k o s × Makes k o (event.Trapped why) s new
  StopsAt k o done.Exited s new = ⊥
  StopsAt k o done.NoMemory s new = D.MayWant k o s
  StopsAt k o _ s new = D.IsState new k o s × (IsCodeNext k o s → ⊥)

  -- from wherever the run stands so many steps of code were made, and this is what the next one came to
  abbrev pub RunsFrom : ℕ → Done → B → B → Type 0
  RunsFrom n d old new =
      (o : D.Origin) → D.IsOf (D.key old) o → (s : (D.course (D.key old) o).system.State) → D.IsState old (D.key old) o s
      → (u : (D.course (D.key old) o).system.State) × Iterated (CodeStep (D.key old) o) n s u × StopsAt (D.key old) o d u new

  -- what they change of the count of steps, of which so many may be made in all, and of whether memory was wanting
  abbrev pub StopsCounted : (k : K) (o : D.Origin) → ℕ → (D.course k o).system.State → B → ℕ → ℕ → Bool → Type 0
  StopsCounted k o most s new before steps lost =
      ((steps ≡ suc before) × (before < most) × (lost ≡ false)
      × (D.HasCode k o s × ((D.course k o).deep s ≡ false)
      × ((t : (D.course k o).system.State) × ((D.course k o).system.step s ≡ Some t) × D.IsState new k o t
      × (waits ((D.course k o).system.status t) ≡ false) × ((D.course k o).system.status t ≢ Moving))))
      ⊎ ((steps ≡ before) × (lost ≡ false) × D.IsState new k o s × (before < most → IsCodeNext k o s → ⊥))
      ⊎ ((steps ≡ before) × (lost ≡ true) × D.MayWant k o s)

  abbrev pub Counted : ℕ → B → B → ℕ → ℕ → Bool → Type 0
  Counted most old new before steps lost =
      (o : D.Origin) → D.IsOf (D.key old) o → (s : (D.course (D.key old) o).system.State) → D.IsState old (D.key old) o s
      → (n : ℕ) × (u : (D.course (D.key old) o).system.State) × (before + n ≤ most) × Iterated (CodeStep (D.key old) o) n s u
      × StopsCounted (D.key old) o most u new (before + n) steps lost

  -- ---- answers

  -- the run waits for an answer, and this one fits
  abbrev pub MayTake : B → Answer → Type 0
  MayTake b a =
      (o : D.Origin) × D.IsOf (D.key b) o
      × ((s : (D.course (D.key b) o).system.State) × D.IsState b (D.key b) o s × FitsWait a ((D.course (D.key b) o).system.status s) ((D.course (D.key b) o).system.memory s))

  -- the answer was taken from wherever the run stands, and the run doesn't wait
  abbrev pub TakesFrom : Answer → B → B → Type 0
  TakesFrom a old new =
      (o : D.Origin) → D.IsOf (D.key old) o → (s : (D.course (D.key old) o).system.State) → D.IsState old (D.key old) o s
      → D.IsState new (D.key old) o ((D.course (D.key old) o).system.take a s) × (waits ((D.course (D.key old) o).system.status ((D.course (D.key old) o).system.take a s)) ≡ false)

  -- ---- where it stands

  -- this is how each state stands at which the run does
  abbrev pub Tells : B → Type 0
  Tells b =
      (o : D.Origin) → D.IsOf (D.key b) o → (s : (D.course (D.key b) o).system.State) → D.IsState b (D.key b) o s → StandsSo (D.hosts (D.key b)) (D.standing b) ((D.course (D.key b) o).system.status s)

  -- this is the memory of each state at which the run stands
  abbrev pub Shows : B → MemoryInstance → Type 0
  Shows b memory =
      (o : D.Origin) → D.IsOf (D.key b) o → (s : (D.course (D.key b) o).system.State) → D.IsState b (D.key b) o s → memory ≡ (D.course (D.key b) o).system.memory s
