-- Step systems, and their runs over lists of answers.
-- This profile: docs/ARCHITECTURE.md, "What agreement is".
use Rattle.std.specs.Prelude.{◌≡◌, ℕ, zero, suc, List, [], ◌∷◌, ◌++◌, Option, Some, None, Bool, true, false}

-- what a run asks of the outside and gets from it, what is seen of its memory, and why it may be stopped
pub record Outside : Type 1 where
  pub Call : Type 0
  pub Answer : Type 0
  pub Memory : Type 0
  pub Trap : Type 0
  -- whether an answer of a call on this memory may be taken
  pub fits : Call → Memory → Answer → Bool

-- how a state stands: it goes on by itself, waits for the answer of a call, or has ended
pub data Status (Call Trap : Type 0) : Type 0 where
  Moving : Status Call Trap
  Waits : Call → Status Call Trap
  Returned : Status Call Trap
  Exited : ℕ → Status Call Trap
  Trapped : Trap → Status Call Trap

-- states; the state that a moving one goes on to, if there is one; what a waiting one goes on to with an answer; and
-- what is seen of a state
pub record System (O : Outside) : Type 1 where
  pub State : Type 0
  pub step : State → Option State
  pub take : O.Answer → State → State
  pub status : State → Status O.Call O.Trap
  pub memory : State → O.Memory

-- a state with the answers that are left
abbrev pub with_rest : {X A : Type 0} → List A → Option X → Option (X × List A)
with_rest rest None = None
with_rest rest (Some x) = Some (x, rest)

abbrev pub only_if : {X : Type 0} → Bool → X → Option X
only_if true x = Some x
only_if false x = None

-- A moving state makes its step. A waiting one takes the next answer, if there is one and it fits. An ended one
-- stays.
abbrev pub next_at : {O : Outside} (S : System O) → Status O.Call O.Trap → S.State → List O.Answer → Option (S.State × List O.Answer)
next_at S Moving s answers = with_rest answers (S.step s)
next_at S (Waits call) s [] = None
next_at {O} S (Waits call) s (answer ∷ rest) = with_rest rest (only_if (O.fits call (S.memory s) answer) (S.take answer s))
next_at S Returned s answers = None
next_at S (Exited code) s answers = None
next_at S (Trapped trap) s answers = None

-- one step, or none where the state stays
abbrev pub next : {O : Outside} (S : System O) → S.State → List O.Answer → Option (S.State × List O.Answer)
next S s answers = next_at S (S.status s) s answers

-- the event of a state: the call that it waits for, and its memory
abbrev pub event_at : {Call Trap Memory : Type 0} → Status Call Trap → Memory → List (Call × Memory)
event_at Moving memory = []
event_at (Waits call) memory = (call, memory) ∷ []
event_at Returned memory = []
event_at (Exited code) memory = []
event_at (Trapped trap) memory = []

abbrev pub event : {O : Outside} (S : System O) → S.State → List (O.Call × O.Memory)
event S s = event_at (S.status s) (S.memory s)

-- the events of a run in order, the state in which it stands, and the answers that are left
pub record Ran (O : Outside) (State : Type 0) : Type 0 where
  pub events : List (O.Call × O.Memory)
  pub state : State
  pub left : List O.Answer

abbrev pub after_events : {O : Outside} {State : Type 0} → List (O.Call × O.Memory) → Ran O State → Ran O State
after_events events r = record r { events = events ++ r.events }

-- the run from where a step leads, or the run that stays
abbrev pub run_from : {O : Outside} (S : System O) → S.State → List O.Answer → (S.State → List O.Answer → Ran O S.State) → Option (S.State × List O.Answer) → Ran O S.State
run_from S s answers more None = record { events = event S s; state = s; left = answers }
run_from S s answers more (Some x) = after_events (event S s) (more x.0 x.1)

-- n steps from a state, over a list of answers
abbrev pub run : {O : Outside} (S : System O) → ℕ → S.State → List O.Answer → Ran O S.State
run S zero s answers = record { events = event S s; state = s; left = answers }
run S (suc n) s answers = run_from S s answers (run S n) (next S s answers)

-- one step more
abbrev pub with_next : {O : Outside} (S : System O) → Ran O S.State → Option (S.State × List O.Answer) → Ran O S.State
with_next S r None = r
with_next S r (Some x) = record { events = r.events ++ event S x.0; state = x.0; left = x.1 }

-- each of the n steps is made: none of them stays
abbrev pub IsReal : {O : Outside} (S : System O) → ℕ → S.State → List O.Answer → Type 0
IsReal S zero s answers = Unit {0}
IsReal {O} S (suc n) s answers = (x : S.State × List O.Answer) × (next S s answers ≡ Some x) × IsReal S n x.0 x.1
