-- What a search for a file answers.
-- Serves the contracts of this crate, which follow Paths of `spec_linking`.
use Rattle.std.specs.Prelude.{◌≡◌, ℕ, ◌<◌, ◌≤◌, List, ◌∷◌, ◌++◌, length, Option, Some, None, Result, Ok, Err}
use Rattle.std.specs.Option.{ForSome}
use Rattle.std.specs.FinMap.{get}
use Rattle.dyl_outside.specs.FileMap.{FileMap}
use Rattle.dyl_outside.specs.Files.{FilesState}
use Rattle.dyl_outside.specs.Faults.{Rises}
use Rattle.spec_linking.specs.Sets.{Files}
use Rattle.spec_linking.specs.Paths.{first_file, tried_of, IsTried}
use Rattle.spec_linking.specs.declared.fault.SetFault.{SetFault}
use Rattle.spec_linking.specs.declared.fault.SetFault.TheVariants.{ReadFault, SetSize, Memory}
use Rattle.dyl_search.specs.declared.find.Found.{Found}
use Rattle.dyl_search.specs.Absents.{CountsTried}

-- the first of these paths at which there is a file is that of one with more bytes than may be
pub record IsTooLong (files : Files) (paths : List (List ℕ)) (most : ℕ) : Type 0 where
  pub path : List ℕ
  pub bytes : List ℕ
  pub first : first_file files paths ≡ Some (path, bytes)
  pub long : most < length bytes

-- what a search at these paths answers over files
abbrev pub FindsIn : Files → List (List ℕ) → ℕ → Result (Option Found) SetFault → Type 0
FindsIn files paths most (Ok (Some f)) = first_file files paths ≡ Some (f.path, f.bytes.items)
FindsIn files paths most (Ok None) = first_file files paths ≡ None
FindsIn files paths most (Err SetSize) = IsTooLong files paths most
FindsIn files paths most (Err (ReadFault path)) = IsTried files paths path
FindsIn files paths most (Err Memory) = Unit {0}
FindsIn files paths most (Err _) = ⊥

-- what it answers whatever is told
abbrev pub IsFinding : ℕ → Result (Option Found) SetFault → Type 0
IsFinding most (Ok (Some f)) = length f.bytes.items ≤ most
IsFinding most (Ok None) = Unit {0}
IsFinding most (Err SetSize) = Unit {0}
IsFinding most (Err (ReadFault path)) = Unit {0}
IsFinding most (Err Memory) = Unit {0}
IsFinding most (Err _) = ⊥

-- the paths that it tried: up to the first at which there is a file, or some of the first ones; a path that can't be read is the one after them
abbrev pub IsSearched : Files → List (List ℕ) → Result (Option Found) SetFault → List (List ℕ) → Type 0
IsSearched files paths (Err (ReadFault path)) tried = (left : List (List ℕ)) × (tried_of files paths ≡ tried ++ path ∷ left)
IsSearched files paths (Err Memory) tried = (left : List (List ℕ)) × (tried_of files paths ≡ tried ++ left)
IsSearched files paths _ tried = tried ≡ tried_of files paths

pub record Finds (told : Option FileMap) (paths : List (List ℕ)) (most : ℕ) (result : Result (Option Found) SetFault) (before now : ℕ) : Type 0 where
  pub finding : IsFinding most result
  pub files : ForSome told (λ m. FindsIn (get m) paths most result)
  pub absents : ForSome told (λ m. CountsTried (get m) (IsSearched (get m) paths result) before now)

-- ---- what changes of the outside

-- the count of read faults rises where a file can't be read, and at no other answer
abbrev pub ReadsOf : {A : Type 0} → Result A SetFault → ℕ → ℕ → Type 0
ReadsOf (Err (ReadFault path)) before now = Rises before now
ReadsOf _ before now = now ≡ before

-- no file changes
pub record Leaves {A : Type 0} (result : Result A SetFault) (old new : FilesState) : Type 0 where
  pub files : new.told ≡ old.told
  pub reads : ReadsOf result old.read_faults new.read_faults
  pub writes : new.write_faults ≡ old.write_faults
  pub absents : old.absents ≤ new.absents
