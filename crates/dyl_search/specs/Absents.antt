-- How the count of Absent answers rises: by one for each path that is tried and has no file, up to its last value, and no more.
-- This profile: docs/DECISIONS.md, "The outside".
use Rattle.std.specs.Prelude.{◌≡◌, ℕ, List, [], ◌∷◌, ◌++◌, Option, Some, None, Result, Err}
use Rattle.std.specs.Option.{ForSome}
use Rattle.std.specs.FinMap.{get}
use Rattle.dyl_outside.specs.Faults.{RisesByOne}
use Rattle.dyl_outside.specs.FileMap.{FileMap}
use Rattle.spec_linking.specs.declared.fault.SetFault.{SetFault}
use Rattle.spec_linking.specs.declared.fault.SetFault.TheVariants.{ReadFault, Memory}
use Rattle.spec_linking.specs.Sets.{Files, Member, ClosedSet, SetOptions}
use Rattle.spec_linking.specs.Gathering.{first_in, Reaches, tried_from, tried_next, Gathers}

-- at a path, by what is there
abbrev pub RisesOnce : Option (List ℕ) → ℕ → ℕ → Type 0
RisesOnce None before now = RisesByOne before now
RisesOnce (Some bytes) before now = now ≡ before

-- at each of some paths, one after the other
abbrev pub RisesAt : Files → List (List ℕ) → ℕ → ℕ → Type 0
RisesAt files [] before now = now ≡ before
RisesAt files (path ∷ paths) before now = (middle : ℕ) × RisesOnce (files path) before middle × RisesAt files paths middle now

-- some paths were tried, of which this holds
pub record CountsTried (files : Files) (AreTried : List (List ℕ) → Type 0) (before now : ℕ) : Type 0 where
  pub tried : List (List ℕ)
  pub are : AreTried tried
  pub absents : RisesAt files tried before now

-- Gathering broke off in the search that follows some members: these paths were tried, and those were still to be tried.
pub record BreaksOff (files : Files) (o : SetOptions) (tried left : List (List ℕ)) : Type 0 where
  pub members : List Member
  pub reached : Reaches (first_in files) o members
  pub parts : tried_from files o [] members ++ tried_next files o members ≡ tried ++ left

-- The paths that were tried where this is answered: those that the files give for it, or some of the first ones; a path that can't be read is
-- the one after them.
abbrev pub TriedFor : Files → SetOptions → Result ClosedSet SetFault → List (List ℕ) → Type 0
TriedFor files o (Err (ReadFault path)) tried = (left : List (List ℕ)) × BreaksOff files o tried (path ∷ left)
TriedFor files o (Err Memory) tried = (left : List (List ℕ)) × BreaksOff files o tried left
TriedFor files o answer tried = Gathers files o tried answer

-- so it is where files are told
abbrev pub CountsFor : Option FileMap → SetOptions → Result ClosedSet SetFault → ℕ → ℕ → Type 0
CountsFor told o answer before now = ForSome told (λ m. CountsTried (get m) (TriedFor (get m) o answer) before now)
