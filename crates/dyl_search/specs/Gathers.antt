-- What is gathered so far, and what gathering answers.
-- Serves the contracts of this crate, which follow Gathering of `spec_linking`.
use Rattle.std.specs.Prelude.{◌≡◌, ℕ, ◌+◌, ◌<◌, ◌≤◌, List, [], map, length, slice_get, Option, Some, None, Result, Ok, Err}
use Rattle.std.specs.Option.{ForSome}
use Rattle.std.specs.FinMap.{get}
use Rattle.dyl_outside.specs.FileMap.{FileMap}
use Rattle.spec_reading.specs.spec_binary.declared.fault.DecodeFault.TheVariants as decode
use Rattle.spec_linking.specs.spec_validation.declared.fault.CheckFault.TheVariants as check
use Rattle.spec_linking.specs.declared.fault.RecordFault.TheVariants as record_faults
use Rattle.spec_linking.specs.declared.fault.SetFault.{SetFault}
use Rattle.spec_linking.specs.declared.fault.SetFault.TheVariants.{Missing, ReadFault, Decode, Record, Check, Memory}
use Rattle.spec_linking.specs.Sets as sets
use Rattle.spec_linking.specs.Sets.{Files, most_bytes, most_members}
use Rattle.spec_linking.specs.Wanted.{Wanted, wanted}
use Rattle.spec_linking.specs.Paths.{first_file}
use Rattle.spec_linking.specs.Gathering.{Lookup, Reaches, IsGathered, Tries, total_size, paths_for, tried_from, tried_next}
use Rattle.dyl_section.specs.Recorded.{record_of}
use Rattle.dyl_search.specs.declared.set.SetOptions.{SetOptions}
use Rattle.dyl_search.specs.declared.set.Member.{Member}
use Rattle.dyl_search.specs.declared.set.ClosedSet.{ClosedSet}
use Rattle.dyl_search.specs.declared.find.Found.{Found}
use Rattle.dyl_search.specs.declared.progress.Progress.{Progress}
use Rattle.dyl_search.specs.Absents.{RisesAt}

abbrev pub options_of : SetOptions → sets.SetOptions
options_of o = record { main = o.main; dl = o.dl; paths = o.paths }

abbrev pub member_of : Member → sets.Member
member_of m = record { name = m.name; path = m.path; size = m.size; dylink = record_of m.dylink; wasm = m.checked; needed = m.needed }

abbrev pub set_of : ClosedSet → sets.ClosedSet
set_of S = record { members = map member_of S.members; startup = S.startup }

-- what is known of files, where they are told
abbrev pub known_in : Option FileMap → Lookup
known_in told paths found = ForSome told (λ m. first_file (get m) paths ≡ found)

abbrev pub members_of : Progress → List sets.Member
members_of g = map member_of g.members.items

-- the members so far are found, these names have numbers, and so many bytes are read
pub record Stands (told : Option FileMap) (o : SetOptions) (g : Progress) : Type 0 where
  pub reached : Reaches (known_in told) (options_of o) (members_of g)
  pub known : g.names ≡ wanted (options_of o) (members_of g)
  pub total : g.total ≡ total_size (members_of g)
  pub few_bytes : g.total ≤ most_bytes
  pub few : length g.members.items ≤ most_members

-- the Absent answers are counted of the paths that were tried for these members
abbrev pub Counted : Option FileMap → SetOptions → Progress → ℕ → ℕ → Type 0
Counted told o g before now = ForSome told (λ m. RisesAt (get m) (tried_from (get m) (options_of o) [] (members_of g)) before now)

-- and of those that are tried for the next one
abbrev pub CountsNext : Option FileMap → SetOptions → Progress → ℕ → ℕ → Type 0
CountsNext told o g before now = ForSome told (λ m. RisesAt (get m) (tried_next (get m) (options_of o) (members_of g)) before now)

-- the file of the next name is found
pub record IsNextFile (told : Option FileMap) (o : SetOptions) (g : Progress) (f : Found) : Type 0 where
  pub asked : Wanted
  pub next : slice_get g.names (length g.members.items) ≡ Some asked
  pub few : length g.members.items < most_members
  pub first : known_in told (paths_for (options_of o) (members_of g) asked) (Some (f.path, f.bytes.items))
  pub few_bytes : g.total + length f.bytes.items ≤ most_bytes

-- Why gathering from files ends: a path that can't be read is tried, and each other fault but want of memory is the first one.
abbrev pub Stops : Files → sets.SetOptions → SetFault → Type 0
Stops files o (ReadFault path) = Tries files o path
Stops files o Memory = Unit {0}
Stops files o fault = IsGathered files o (Err fault)

-- What gathering from files answers.
abbrev pub GathersFrom : Files → sets.SetOptions → Result ClosedSet SetFault → Type 0
GathersFrom files o (Ok S) = IsGathered files o (Ok (set_of S))
GathersFrom files o (Err fault) = Stops files o fault

-- the answer is this one, unless a file can't be read or memory ran out
abbrev pub YieldsSet : Result sets.ClosedSet SetFault → Result ClosedSet SetFault → Type 0
YieldsSet answer (Ok S) = answer ≡ Ok (set_of S)
YieldsSet answer (Err (ReadFault path)) = Unit {0}
YieldsSet answer (Err Memory) = Unit {0}
YieldsSet answer (Err fault) = answer ≡ Err fault

-- whatever files give is what was answered
abbrev pub OnlyGathers : Files → sets.SetOptions → Result ClosedSet SetFault → Type 0
OnlyGathers files o result = (answer : Result sets.ClosedSet SetFault) → IsGathered files o answer → YieldsSet answer result

-- want of memory stands alone, and not inside another fault
abbrev pub IsWhole : SetFault → Type 0
IsWhole (Decode n decode.Memory) = ⊥
IsWhole (Record n record_faults.Memory) = ⊥
IsWhole (Check n check.Memory) = ⊥
IsWhole _ = Unit {0}

-- the next file isn't found
abbrev pub IsSearchFault : SetFault → Type 0
IsSearchFault (Decode n fault) = ⊥
IsSearchFault (Record n fault) = ⊥
IsSearchFault (Check n fault) = ⊥
IsSearchFault _ = Unit {0}

-- the file that was found, or that the name is missing
abbrev pub OrMissing : List ℕ → Option Found → Result Found SetFault → Type 0
OrMissing name found (Ok f) = found ≡ Some f
OrMissing name found (Err (Missing at)) = (found ≡ None) × (at ≡ name)
OrMissing name found (Err Memory) = Unit {0}
OrMissing name found (Err _) = ⊥
