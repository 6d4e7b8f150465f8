-- What is so of turns of linked sets, and of the calls that are answered between them.
-- Part of the statement of laws: docs/LAWS.md, "Programs on a board don't see each other", "A program
-- on a board runs as it does alone" and "Turns make steps of a program's own run".
use Rattle.std.specs.Prelude.{◌≡◌, ◌≢◌, ℕ, List, [], ◌∷◌, slice_get, Bool, Some}
use Rattle.std.specs.List.{All}
use Rattle.spec_loading.specs.wasm_form.declared.runtime.Answer.{Answer}
use Rattle.spec_loading.specs.spec_linking.Gathering.{IsSet}
use Rattle.spec_loading.specs.spec_linking.LinkedSets.{LinkedSet}
use Rattle.spec_loading.specs.spec_linking.Links.{Links}
use Rattle.spec_loading.specs.spec_safety.ValueTypes.{IsOfBytes}
use Rattle.spec_loading.specs.Loading.{loaded_too_deep}
use Rattle.spec_loading.specs.LoadedSet.{set_loading, set_system, set_opening}
use Rattle.spec_loading.specs.SoundSets.{HoldBytes, HasFewPages}
use Rattle.spec_hosts.specs.declared.ran.Ran.{Ran}
use Rattle.spec_hosts.specs.declared.ran.RunEnd.TheVariants as end
use Rattle.spec_hosts.specs.Ends.{RunsTo}
use Rattle.spec_boards.specs.Turns.{Place, turn_of}
use Rattle.spec_boards.specs.Boards.{Board, turn, board}
use Rattle.spec_boards.specs.BoardRuns.{IsRanAs}
use Rattle.spec_boards.specs.Laws.{IsTurn, IsRealPlace, IsFurther, CallsGrow, AllServed, alone}
use Rattle.dyl_store.specs.Stores.{set_course}

-- a set that links, may have fewer pages than a memory can have, and whose data segments are of bytes
pub record MayRun (L : LinkedSet) : Type 0 where
  pub shape : IsSet L.set
  pub links : Links L
  pub pages : HasFewPages L
  pub bytes : HoldBytes L

-- A turn is as it should be; and where its steps were real before it, over answers of bytes, they are after it.
abbrev pub TurnsAreSteps : Type 0
TurnsAreSteps = (L : LinkedSet) (most slice : ℕ) (p : Place) → IsTurn (set_course L) most slice p (turn_of (set_course L) most slice p)
    × (MayRun L → All IsOfBytes p.given → IsRealPlace (set_course L) p → IsRealPlace (set_course L) (turn_of (set_course L) most slice p).place)

-- a turn changes no program but the one that was picked
abbrev pub TurnsLeaveTheOthers : Type 0
TurnsLeaveTheOthers = (slice : ℕ) (b : Board LinkedSet) (i j : ℕ) → i ≢ j → slice_get (turn set_course slice b i).seats j ≡ slice_get b.seats j

-- the calls of a program on a board are the first ones of its own run, however far that goes, and over whatever further answers
abbrev pub CallsAreFirst : Type 0
CallsAreFirst = (L : LinkedSet) (p q : Place) → IsFurther (set_course L) p q → CallsGrow (set_course L) p q

-- each is a program that may run, over answers of bytes
abbrev pub AllMayRun : List (LinkedSet × (ℕ × List Answer)) → Type 0
AllMayRun programs = (i : ℕ) (x : LinkedSet × (ℕ × List Answer)) → slice_get programs i ≡ Some x → MayRun x.0 × All IsOfBytes x.1.1

-- After any picks the steps of each program are real ones of its own run, and its calls are those of that run.
abbrev pub CallsAreTheirs : Type 0
CallsAreTheirs = (programs : List (LinkedSet × (ℕ × List Answer))) (slice : ℕ) (picks : List ℕ) → AllMayRun programs → AllServed set_course (board set_course programs slice picks)

-- Over any picks a program comes to what it comes to as the one program of a board, over as many turns, with the same answers: it doesn't see
-- the others.
abbrev pub ProgramsStandAlone : Type 0
ProgramsStandAlone = (programs : List (LinkedSet × (ℕ × List Answer))) (slice : ℕ) (picks : List ℕ) (i : ℕ) (x : LinkedSet × (ℕ × List Answer)) → slice_get programs i ≡ Some x
    → slice_get (board set_course programs slice picks).seats i ≡ slice_get (board set_course (x ∷ []) slice (alone i picks)).seats 0

-- What is told of a program of a board, unless the turns were used up, is the run of its set alone, within the same limit of steps: the same steps, the
-- same answers and the same end.
abbrev pub ProgramsRunAsAlone : Type 0
ProgramsRunAsAlone = (L : LinkedSet) (used : Bool) (most : ℕ) (p : Place) (ran : Ran) → IsRanAs used (set_course L) most p ran → ran.end ≢ end.TurnLimit
    → RunsTo (set_system L) (loaded_too_deep (set_loading L)) (set_opening L) most ran
