-- The call stack, over the flat lists: the places of what lies under the topmost activation, the latest last.
-- Serves the contracts of this crate, which follow Runs of `spec_execution`.
use Rattle.std.specs.Prelude.{◌≡◌, ◌≤◌, ◌||◌, ℕ, ◌+◌, List, [], ◌∷◌, length, take, reverse, nat_lt, Option, Some, None, Bool, true, false, if◌then◌else◌}
use Rattle.wasm_form.specs.declared.runtime.Value.{Value}
use Rattle.spec_safety.specs.spec_execution.Limits.{most_activations, most_values}
use Rattle.spec_safety.specs.spec_execution.Runs.{Frame, Active, Marked}
use Rattle.wasm_step.specs.declared.current.Label.{Label}
use Rattle.wasm_step.specs.declared.current.Place.{Place}
use Rattle.wasm_machine.specs.declared.callers.Caller.{Caller}
use Rattle.wasm_machine.specs.declared.callers.Caller.TheVariants as caller
use Rattle.wasm_step.specs.Tops.{Top, activation_at, IsLaidOut, HasRoom}
use Rattle.wasm_step.specs.Primitives.{IsIdle}
pub use Rattle.wasm_step.specs.Primitives.{most_blocks}

-- a call stack whose marks are numbers, and the room that each of its activations took
pub record CallStack : Type 0 where
  pub frames : List (Frame ℕ)
  pub rooms : List ℕ

abbrev pub empty_stack : CallStack
empty_stack = record { frames = []; rooms = [] }

-- what lies under, the latest first
abbrev pub frames_at : List Caller → List Value → List Label → List (Frame ℕ)
frames_at [] vs ls = []
frames_at (caller.Active p ∷ cs) vs ls = Active (activation_at p vs ls) ∷ frames_at cs (take p.base vs) (take p.outer ls)
frames_at (caller.Mark tag ∷ cs) vs ls = Marked tag ∷ frames_at cs vs ls

abbrev pub rooms_at : List Caller → List ℕ
rooms_at [] = []
rooms_at (caller.Active p ∷ cs) = p.room ∷ rooms_at cs
rooms_at (caller.Mark tag ∷ cs) = rooms_at cs

abbrev pub total : List ℕ → ℕ
total [] = 0
total (n ∷ ns) = n + total ns

-- an activation that was left for a call lies as it should, and its room is there
pub record LiesWell (p : Place) (vs : List Value) (ls : List Label) (capacity label_capacity : ℕ) : Type 0 where
  pub laid : IsLaidOut p vs ls
  pub kept : HasRoom p capacity label_capacity
  pub live : p.nesting ≡ most_blocks

-- each lies as it should, over those before it; under a mark there is a place for one value more
abbrev pub LieWell : List Caller → List Value → List Label → ℕ → ℕ → Type 0
LieWell [] vs ls capacity label_capacity = Unit {0}
LieWell (caller.Active p ∷ cs) vs ls capacity label_capacity = LiesWell p vs ls capacity label_capacity × LieWell cs (take p.base vs) (take p.outer ls) capacity label_capacity
LieWell (caller.Mark tag ∷ cs) vs ls capacity label_capacity = (length vs + 1 ≤ capacity) × LieWell cs vs ls capacity label_capacity

-- an activation is on top of a call, and nothing on top of a mark or of nothing
abbrev pub IsTopOf : Top → Bool → List Caller → Type 0
IsTopOf t true cs = t.nesting ≡ most_blocks
IsTopOf t false [] = IsIdle t
IsTopOf t false (caller.Mark tag ∷ cs) = IsIdle t
IsTopOf t false (caller.Active p ∷ cs) = ⊥

abbrev pub is_live : Top → Bool
is_live t = nat_lt 0 t.nesting

abbrev pub under_of : List Caller → Top → List (Frame ℕ)
under_of cs t = frames_at (reverse cs) t.under t.outer

-- the whole call stack
abbrev pub joined : List Caller → Top → CallStack
joined cs t = record {
  frames = (if is_live t then Active t.act ∷ under_of cs t else under_of cs t);
  rooms = (if is_live t then t.room ∷ rooms_at (reverse cs) else rooms_at (reverse cs));
}

-- neither limit of depth is passed
pub record IsBounded (s : CallStack) : Type 0 where
  pub activations : length s.rooms ≤ most_activations
  pub values : total s.rooms ≤ most_values

-- the call stack lies as it should
pub record IsJoined (cs : List Caller) (t : Top) : Type 0 where
  pub lies : LieWell (reverse cs) t.under t.outer t.capacity t.label_capacity
  pub top : IsTopOf t (is_live t) (reverse cs)
  pub bounded : IsBounded (joined cs t)

-- whether an activation of this room passes a limit over so many activations, which took so much room
abbrev pub passes_over : ℕ → ℕ → ℕ → Bool
passes_over count taken room = nat_lt most_activations (count + 1) || nat_lt most_values (taken + room)

-- callers are so many activations, which took so much room, and neither limit is passed
pub record AreCounted (cs : List Caller) (count room : ℕ) : Type 0 where
  pub counted : count ≡ length (rooms_at (reverse cs))
  pub summed : room ≡ total (rooms_at (reverse cs))
  pub few : count ≤ most_activations
  pub small : room ≤ most_values

-- the first of callers, the latest first
abbrev pub latest : List Caller → Option Caller
latest [] = None
latest (c ∷ cs) = Some c
