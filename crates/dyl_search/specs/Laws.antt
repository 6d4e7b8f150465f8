-- Laws of gathering, from any files.
-- Part of the statement of laws: docs/LAWS.md, "There is one set, or one first fault".
use Rattle.std.specs.Prelude.{◌≡◌, Result}
use Rattle.spec_linking.specs.declared.fault.SetFault.{SetFault}
use Rattle.spec_linking.specs.Sets.{ClosedSet, SetOptions, Files}
use Rattle.spec_linking.specs.Gathering.{IsGathered, AreTried}

-- The files give this, and nothing else, and the paths that are listed with it are those that are tried.
pub record GivesAlone (files : Files) (o : SetOptions) (answer : Result ClosedSet SetFault) : Type 0 where
  pub gathered : IsGathered files o answer
  pub alone : (other : Result ClosedSet SetFault) → IsGathered files o other → other ≡ answer
  pub tried : AreTried files o gathered.tried

-- Files and options give one set, or one first fault.
abbrev pub GivesOne : Type 0
GivesOne = (files : Files) (o : SetOptions) → (answer : Result ClosedSet SetFault) × GivesAlone files o answer
